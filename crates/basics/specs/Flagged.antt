-- A flag for each name says which names were used. Main definition: Flagged.
use Rattle.std.specs.Prelude.{List, ◌≡◌, length, get_or}
use Prim.Native.Nat.{ℕ, ◌<◌}
use Rattle.rules.specs.Building.{member}
use Rattle.basics.specs.Sums.{one}

-- the flag of a name is 1 where it was used, else 0
pub record Flagged (used flags : List ℕ) : Type 0 where
  pub size : length flags ≡ 1024
  pub each : (y : ℕ) → y < 1024 → get_or flags y 0 ≡ one (member y used)
