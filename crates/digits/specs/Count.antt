-- How many digits a number has.
-- Main results: some_digit, digits_at_most, digits_mono.
use Rattle.std.specs.Prelude.{Bool, true, false, cond, List, [], ◌∷◌, ◌++◌, ◌≡◌, refl, ℕ, zero, suc, ◌/◌, ◌%◌, ◌+◌, ◌≤◌, ltb, length}
use Rattle.std.proofs.Common.{arith, length-append, ltb-true, ltb-false}
use Rattle.rules.specs.Newick.{digits}

pub some_digit : (k x : ℕ) → 1 ≤ length (digits (suc k) x)
unfolding digits
some_digit k x = go (ltb x 10)
  where
    go : (b : Bool) → 1 ≤ length (cond b ((48 + x) ∷ []) (digits k (x / 10) ++ ((48 + x % 10) ∷ [])))
    go true = omega arith
    go false = omega (arith, length-append (digits k (x / 10)) ((48 + x % 10) ∷ []))

pub digits_at_most : (k x : ℕ) → length (digits k x) ≤ k
unfolding digits
digits_at_most zero x = omega arith
digits_at_most (suc k) x = go (ltb x 10) (digits_at_most k (x / 10))
  where
    go : (b : Bool) → length (digits k (x / 10)) ≤ k
        → length (cond b ((48 + x) ∷ []) (digits k (x / 10) ++ ((48 + x % 10) ∷ []))) ≤ suc k
    go true h = omega arith
    go false h = omega (arith, length-append (digits k (x / 10)) ((48 + x % 10) ∷ []))

-- a greater number has no fewer digits
pub digits_mono : (k x y : ℕ) → x ≤ y → length (digits k x) ≤ length (digits k y)
unfolding digits
digits_mono zero x y h = omega arith
digits_mono (suc k) x y h = go (ltb x 10) refl (ltb y 10) refl (digits_mono k (x / 10) (y / 10) (omega arith))
  where
    more : ℕ → List ℕ
    more z = digits k (z / 10) ++ ((48 + z % 10) ∷ [])

    go : (a : Bool) → ltb x 10 ≡ a → (b : Bool) → ltb y 10 ≡ b → length (digits k (x / 10)) ≤ length (digits k (y / 10))
        → length (cond a ((48 + x) ∷ []) (more x)) ≤ length (cond b ((48 + y) ∷ []) (more y))
    go true p true q l = omega arith
    go true p false q l = omega (arith, length-append (digits k (y / 10)) ((48 + y % 10) ∷ []))
    go false p true q l = absurd (omega (arith, ltb-false x 10 p, ltb-true y 10 q))
    go false p false q l =
        omega (arith, length-append (digits k (x / 10)) ((48 + x % 10) ∷ []), length-append (digits k (y / 10)) ((48 + y % 10) ∷ []))
