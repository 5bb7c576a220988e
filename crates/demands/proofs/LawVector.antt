-- The calls that begin from a vector: when they refuse it, and what they make where they go on. Main results: vector_cases, vector_given,
-- vector_passes, settled_vector.
use Rattle.std.specs.Prelude.{List, ◌⊎◌, ◌≡◌, refl, ℕ, length}
use Rattle.std.proofs.Common.{inl, inr, arith}
use Rattle.rules.specs.declared.Kind.TheVariants.{LeafCount, Entry}
use Rattle.rules.specs.Vector.{Valid, fault}
use Rattle.rules.specs.Answer.{number_of, Making, made, refuses}
use Rattle.rules.specs.Guards.{refuse_at, from_vector}
use Rattle.accepting.proofs.FromVector.{above_bound, within_bounds}
use Rattle.demands.specs.Conditions.{CountWrong, CountRight, Above, WithinBounds}
use Rattle.rules.specs.First.{First}
use Rattle.demands.proofs.Cases.{count_cases, count_given, above_cases, above_given, within_given}
use Rattle.demands.specs.Law.{OfInput, Settled}
use Rattle.demands.specs.LawVector.{VectorRefused, vector_1, vector_4}

-- they refuse so exactly
pub vector_given : {W : Type 0} (v : List ℕ) (m : Making W) (k p : ℕ) → VectorRefused v k p → from_vector v m ≡ refuses k p
unfolding from_vector
vector_given v m k p (vector_1 h) = count_given (length v) (refuse_at 4 (fault 0 v) m) h
vector_given v m k p (vector_4 {i} c f) = above_bound v m i c.0 c.1 (above_given v i f)

pub vector_passes : {W : Type 0} (v : List ℕ) (m : Making W) → CountRight (length v) → WithinBounds v → from_vector v m ≡ m
vector_passes v m c h = within_bounds v m c.0 c.1 (within_given v h)

pub vector_cases : (v : List ℕ) → ((k : ℕ) × (p : ℕ) × VectorRefused v k p) ⊎ (CountRight (length v) × WithinBounds v)
vector_cases v = go (count_cases (length v)) (above_cases v)
  where
    go : CountWrong (length v) ⊎ CountRight (length v) → ((i : ℕ) × First (Above v) i) ⊎ WithinBounds v
        → ((k : ℕ) × (p : ℕ) × VectorRefused v k p) ⊎ (CountRight (length v) × WithinBounds v)
    go (inl c) a = inl (1, 0, vector_1 c)
    go (inr c) (inl f) = inl (4, f.0, vector_4 c f.1)
    go (inr c) (inr h) = inr (c, h)

pub vector_of_input : (v : List ℕ) (k p : ℕ) → VectorRefused v k p → OfInput 3 k
unfolding number_of
vector_of_input v k p (vector_1 h) = (LeafCount, refl, omega arith)
vector_of_input v k p (vector_4 c f) = (Entry, refl, omega arith)

pub vector_valid : (v : List ℕ) → CountRight (length v) → WithinBounds v → Valid v
vector_valid v c h = record { some_leaf = c.0; bounded = h }

-- what a call makes of a vector that it accepts
pub settled_vector : {W : Type 0} (count : W → ℕ) (v : List ℕ) (x : W) (wanted : ℕ) → (Valid v → count x ≡ wanted)
    → Settled count 3 (VectorRefused v) wanted (from_vector v (made x))
settled_vector {W} count v x wanted l = record { of_input = vector_of_input v; given = vector_given v (made x); total = go (vector_cases v) }
  where
    go : ((k : ℕ) × (p : ℕ) × VectorRefused v k p) ⊎ (CountRight (length v) × WithinBounds v)
        → ((k : ℕ) × (p : ℕ) × VectorRefused v k p) ⊎ ((y : W) × (from_vector v (made x) ≡ made y) × (count y ≡ wanted))
    go (inl r) = inl r
    go (inr h) = inr (x, vector_passes v (made x) h.0 h.1, l (vector_valid v h.0 h.1))
