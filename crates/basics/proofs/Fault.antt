-- The first entry above its bound: it is one of the entries, and there is none exactly in a valid vector.
-- Main results: fault_inside, no_fault_bounded, bounded_no_fault, no_fault_valid, valid_no_fault.
use Rattle.std.specs.Prelude.{◌≡◌, refl, Bool, true, false, cond, List, [], ◌∷◌, ℕ, zero, suc, ◌+◌, ◌≤◌, ◌<◌, ltb, length, get_or}
use Rattle.std.proofs.Math.Option.{none, some, some-injective, none-ne-some, some-ne-none}
use Rattle.std.proofs.Common.{arith, ltb-false, le-ltb}
use Rattle.rules.specs.Vector.{entry, bound, Valid, fault}

-- a fault is the number of an entry
pub fault_inside : (i : ℕ) (v : List ℕ) (p : ℕ) → fault i v ≡ some p → (i ≤ p) × (p < i + length v)
unfolding fault
fault_inside i [] p e = absurd (none-ne-some p e)
fault_inside i (x ∷ v) p e = go (ltb (bound i) x) (fault_inside (i + 1) v p) e
  where
    go : (b : Bool) → (fault (i + 1) v ≡ some p → (i + 1 ≤ p) × (p < i + 1 + length v)) → cond b (some i) (fault (i + 1) v) ≡ some p → (i ≤ p) × (p < i + suc (length v))
    go true ih q = let z : i ≡ p = some-injective i p q in (omega arith, omega arith)
    go false ih q = let z = ih q in (omega arith, omega arith)

-- where there is no fault each entry is within its bound
pub no_fault_bounded : (i : ℕ) (v : List ℕ) → fault i v ≡ none → (k : ℕ) → k < length v → entry v k ≤ bound (i + k)
unfolding fault entry
no_fault_bounded i [] e k h = absurd (omega arith)
no_fault_bounded i (x ∷ v) e k h = go (ltb (bound i) x) refl (no_fault_bounded (i + 1) v) e k h
  where
    go : (b : Bool) → ltb (bound i) x ≡ b → (fault (i + 1) v ≡ none → (j : ℕ) → j < length v → get_or v j 0 ≤ bound (i + 1 + j))
        → cond b (some i) (fault (i + 1) v) ≡ none → (j : ℕ) → j < suc (length v) → get_or (x ∷ v) j 0 ≤ bound (i + j)
    go true t ih q j l = absurd (some-ne-none i q)
    go false t ih q zero l = let z : i + 0 ≡ i = omega arith in rw z (ltb-false (bound i) x t)
    go false t ih q (suc j) l = let z : i + suc j ≡ i + 1 + j = omega arith in rw z (ih q j (omega arith))

pub bounded_no_fault : (i : ℕ) (v : List ℕ) → ((k : ℕ) → k < length v → entry v k ≤ bound (i + k)) → fault i v ≡ none
unfolding fault entry
bounded_no_fault i [] h = refl
bounded_no_fault i (x ∷ v) h =
    let z : i + 0 ≡ i = omega arith in
    let l : x ≤ bound i = rw z at (h 0 (omega arith)) in
    rw (le-ltb (bound i) x l)
    (bounded_no_fault (i + 1) v (λ k g. let y : i + 1 + k ≡ i + suc k = omega arith in rw y (h (suc k) (omega arith))))

pub no_fault_valid : (v : List ℕ) → 1 ≤ length v → fault 0 v ≡ none → Valid v
no_fault_valid v h e = record { some_leaf = h; bounded = λ i l. let z : 0 + i ≡ i = omega arith in rw z at (no_fault_bounded 0 v e i l) }

pub valid_no_fault : (v : List ℕ) → Valid v → fault 0 v ≡ none
valid_no_fault v ok = bounded_no_fault 0 v (λ k l. let z : 0 + k ≡ k = omega arith in rw z (ok.bounded k l))
