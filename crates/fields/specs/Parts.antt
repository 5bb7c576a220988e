-- The parts in which the entries of a record are read.
-- Main definitions: Parts.
use Rattle.std.specs.Prelude.{ℕ, ◌+◌, ◌≤◌, ◌<◌}
use Rattle.runs.specs.Runs.{Fours}

-- The entries from 1 to n are three parts: those before first, whole fours with twelve entries behind them, and those from last on.
pub record Parts (first last n : ℕ) : Type 0 where
  pub some_first : 1 ≤ first
  pub ordered : first ≤ last
  pub most : last ≤ n
  pub fours : first < last → Fours first last × (last + 12 ≤ n)
