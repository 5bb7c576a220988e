-- One step of the building rule: what a leaf sees, and that the next merge is the one that 01 says. Main definitions: CanMerge, Agree.
use Rattle.std.specs.Prelude.{◌≡◌, true, ℕ, ◌<◌}
use Rattle.rules.specs.Building.{Merge, State}

-- Leaf m .1 "still names a cluster and sees one labelled v(i)", the cluster m .0.
pub record CanMerge (v : ℕ → ℕ) (s : State) (n : ℕ) (m : Merge) : Type 0 where
  pub leaf_below : m.1 < n
  pub seen : m.0 < m.1
  pub smaller_names : s.names m.0 ≡ true
  pub larger_names : s.names m.1 ≡ true
  pub labelled : s.label m.1 m.0 ≡ v m.1

-- two states that agree on the leaves below n
pub record Agree (n : ℕ) (s t : State) : Type 0 where
  pub names_same : (c : ℕ) → c < n → s.names c ≡ t.names c
  pub label_same : (j c : ℕ) → j < n → s.label j c ≡ t.label j c
  pub used_same : (j : ℕ) → j < n → s.used j ≡ t.used j
