-- A table that is written is accepted when it is read. Main definition: Fresh.
use Rattle.std.specs.Prelude.{◌≡◌, Bool, true, false, List, ℕ, ◌≤◌, ◌<◌}
use Rattle.rules.specs.Building.{Merge}
use Rattle.merging.specs.Named.{named}

-- The names that are left have nodes of their own: below p, and named by no row so far.
pub record Fresh (P : List Merge) (p : ℕ) (number : ℕ → ℕ) (used : ℕ → Bool) : Type 0 where
  pub below : (x : ℕ) → named P x ≡ true → number x < p
  pub unused : (x : ℕ) → named P x ≡ true → used (number x) ≡ false
  pub apart : (x y : ℕ) → named P x ≡ true → named P y ≡ true → number x ≡ number y → x ≡ y
  pub above : (k : ℕ) → p ≤ k → used k ≡ false
