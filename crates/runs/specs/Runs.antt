-- Entries by fours: from entry 5 on four entries at a time, 5 to 8, 9 to 12 and so on, have one width.
-- Main definitions: Fours, Run.
use Rattle.std.specs.Prelude.{◌≡◌, ℕ, ◌%◌, ◌≤◌, ◌<◌}
use Rattle.rules.specs.Record.{width}

-- the entries from i to end are whole fours
pub record Fours (i end : ℕ) : Type 0 where
  pub from : 5 ≤ i
  pub first : i % 4 ≡ 1
  pub last : end % 4 ≡ 1

-- they are whole fours of one width
pub record Run (i end : ℕ) : Type 0 where
  pub fours : Fours i end
  pub one_width : (j : ℕ) → i ≤ j → j < end → width j ≡ width i
