-- The merges of the building rule are those that insertion makes: the last leaf's own merge is seen by none of the others.
use Rattle.std.specs.Prelude.{◌≡◌, true, ℕ, ◌+◌, ◌<◌}
use Rattle.rules.specs.Building.{State, below}

-- after t merges of the leaves below n, leaf n still names a cluster, has used the n + t first labels, and labels by them
pub record Room (n t : ℕ) (s : State) : Type 0 where
  pub has_used : s.used n ≡ below (n + t)
  pub labels : (c : ℕ) → c < n → s.label n c < n + t
  pub own : s.names n ≡ true
