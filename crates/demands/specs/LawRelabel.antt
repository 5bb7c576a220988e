-- Relabelling: when it refuses, and that it writes n elements. Main definition: RelabelRefused.
use Rattle.std.specs.Prelude.{List, ◌≢◌, ◌≡◌, ℕ, length}
use Rattle.demands.specs.Conditions.{CountRight, WithinBounds, Unfit}
use Rattle.rules.specs.First.{First}
use Rattle.demands.specs.LawVector.{VectorRefused}

-- "then for relabelling 2 (permutation length not n) and 11"
pub data RelabelRefused (v p : List ℕ) : ℕ → ℕ → Type 0 where
  relabel_vector : {number i : ℕ} → VectorRefused v number i → RelabelRefused v p number i
  relabel_2 : CountRight (length v) → WithinBounds v → length p ≢ length v → RelabelRefused v p 2 (length v)
  relabel_11 : {i : ℕ} → CountRight (length v) → WithinBounds v → length p ≡ length v → First (Unfit (length v) p) i → RelabelRefused v p 11 i
