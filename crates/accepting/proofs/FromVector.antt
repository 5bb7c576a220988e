-- The calls that begin from a vector: when they refuse with 1 or 4, and when they go on. Main results: no_entry, many_entries, above_bound,
-- within_bounds, vector_accepted, seen.
use Rattle.std.specs.Prelude.{Bool, true, false, List, ◌≡◌, refl, ℕ, ◌≤◌, ◌<◌, eqb, ltb, length}
use Rattle.std.proofs.Math.Option.{Option, none, some}
use Rattle.std.proofs.Common.{◌∙◌, arith, ltb-true, ltb-false, eqb-true}
use Rattle.std.proofs.lemmas.Bool.{eqb-false}
use Rattle.rules.specs.Vector.{Vector, fault}
use Rattle.rules.specs.Answer.{Making, refuses}
use Rattle.rules.specs.Guards.{from_vector}
use Rattle.basics.proofs.Fault.{no_fault_valid, valid_no_fault}
use Rattle.accepting.proofs.Guards.{no_leaf, many_leaves, some_leaves, refuse_at_lem, pass_at}
use Rattle.accepting.specs.FromVector.{Seen, faulty, sound}

-- 1: "leaf count 0 or above 1,024"
pub no_entry : {W : Type 0} (v : List ℕ) (m : Making W) → length v ≡ 0 → from_vector v m ≡ refuses 1 0
unfolding from_vector
no_entry v m e = no_leaf (length v) _ e

pub many_entries : {W : Type 0} (v : List ℕ) (m : Making W) → 1024 < length v → from_vector v m ≡ refuses 1 0
unfolding from_vector
many_entries v m h = many_leaves (length v) _ h

-- 4: "vector entry above its bound"
pub above_bound : {W : Type 0} (v : List ℕ) (m : Making W) (i : ℕ) → 1 ≤ length v → length v ≤ 1024 → fault 0 v ≡ some i → from_vector v m ≡ refuses 4 i
unfolding from_vector
above_bound v m i l h e = some_leaves (length v) _ l h ∙ refuse_at_lem 4 i (fault 0 v) m e

pub within_bounds : {W : Type 0} (v : List ℕ) (m : Making W) → 1 ≤ length v → length v ≤ 1024 → fault 0 v ≡ none → from_vector v m ≡ m
unfolding from_vector
within_bounds v m l h e = some_leaves (length v) _ l h ∙ pass_at 4 (fault 0 v) m e

pub vector_accepted : {W : Type 0} (v : List ℕ) (m : Making W) → Vector v → from_vector v m ≡ m
vector_accepted v m ok = within_bounds v m ok.valid.some_leaf ok.few (valid_no_fault v ok.valid)

pub seen : (v : List ℕ) → Seen v
seen v = count (eqb (length v) 0) refl
  where
    entries : 1 ≤ length v → length v ≤ 1024 → (o : Option ℕ) → fault 0 v ≡ o → Seen v
    entries l u (some i) e = faulty 4 i (λ W m. above_bound v m i l u e)
    entries l u none e = sound (record { valid = no_fault_valid v l e; few = u }) (λ W m. within_bounds v m l u e)

    large : 1 ≤ length v → (b : Bool) → ltb 1024 (length v) ≡ b → Seen v
    large l true q = faulty 1 0 (λ W m. many_entries v m (ltb-true 1024 (length v) q))
    large l false q = entries l (ltb-false 1024 (length v) q) (fault 0 v) refl

    count : (b : Bool) → eqb (length v) 0 ≡ b → Seen v
    count true q = faulty 1 0 (λ W m. no_entry v m (eqb-true (length v) 0 q))
    count false q = large (omega (arith, eqb-false (length v) 0 q)) (ltb 1024 (length v)) refl
