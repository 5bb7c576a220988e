-- Each condition holds or does not, and what the guards of the rules then do.
-- Main results: count_cases, count_given, count_passes (1); equal_cases (2); above_cases, above_given, within_given (4).
use Rattle.std.specs.Prelude.{Bool, true, false, List, ◌≢◌, ◌⊎◌, ◌≡◌, refl, ℕ, ◌≤◌, eqb, ltb}
use Rattle.std.proofs.Common.{inl, inr, arith, ltb-true, ltb-false, eqb-true}
use Rattle.std.proofs.Math.Option.{none, some}
use Rattle.std.proofs.lemmas.Bool.{eqb-false}
use Rattle.rules.specs.Vector.{entry, bound, fault}
use Rattle.rules.specs.Answer.{Making, refuses}
use Rattle.rules.specs.Guards.{refuse_count}
use Rattle.searching.specs.First.{FirstFound, first_at, nowhere}
use Rattle.searching.proofs.First.{found_first, found_none}
use Rattle.accepting.proofs.Guards.{no_leaf, many_leaves, some_leaves}
use Rattle.demands.specs.Conditions.{CountWrong, CountRight, Above, WithinBounds}
use Rattle.rules.specs.First.{First}
use Rattle.demands.proofs.FirstPlace.{above_found}

-- the leaf count is wrong or right
pub count_cases : (n : ℕ) → CountWrong n ⊎ CountRight n
count_cases n = go (eqb n 0) refl (ltb 1024 n) refl
  where
    go : (a : Bool) → eqb n 0 ≡ a → (b : Bool) → ltb 1024 n ≡ b → CountWrong n ⊎ CountRight n
    go true p b q = inl (inl (eqb-true n 0 p))
    go false p true q = inl (inr (ltb-true 1024 n q))
    go false p false q = let z : n ≢ 0 = eqb-false n 0 p in inr (omega arith, ltb-false 1024 n q)

pub count_given : {W : Type 0} (n : ℕ) (m : Making W) → CountWrong n → refuse_count n m ≡ refuses 1 0
count_given n m (inl e) = no_leaf n m e
count_given n m (inr h) = many_leaves n m h

pub count_passes : {W : Type 0} (n : ℕ) (m : Making W) → CountRight n → refuse_count n m ≡ m
count_passes n m h = some_leaves n m h.0 h.1

-- the length is wrong or right
pub equal_cases : (m n : ℕ) → (m ≢ n) ⊎ (m ≡ n)
equal_cases m n = go (eqb m n) refl
  where
    go : (b : Bool) → eqb m n ≡ b → (m ≢ n) ⊎ (m ≡ n)
    go true q = inr (eqb-true m n q)
    go false q = inl (eqb-false m n q)

-- 4: an entry is above its bound, or all are within
pub above_given : (v : List ℕ) (i : ℕ) → First (Above v) i → fault 0 v ≡ some i
above_given v i h = found_first (above_found v) i h (λ w. refl)

pub within_given : (v : List ℕ) → WithinBounds v → fault 0 v ≡ none
within_given v h = found_none (above_found v) (λ j a. let l = a.1 in omega (arith, h j a.0))

-- no entry is above its bound
none_above : (v : List ℕ) → ((j : ℕ) → Above v j → ⊥) → WithinBounds v
none_above v h i l = go (ltb (bound i) (entry v i)) refl
  where
    go : (b : Bool) → ltb (bound i) (entry v i) ≡ b → entry v i ≤ bound i
    go true q = absurd (h i (l, ltb-true (bound i) (entry v i) q))
    go false q = ltb-false (bound i) (entry v i) q

pub above_cases : (v : List ℕ) → ((i : ℕ) × First (Above v) i) ⊎ WithinBounds v
above_cases v = go (above_found v)
  where
    go : FirstFound (Above v) (λ i w. i) (fault 0 v) → ((i : ℕ) × First (Above v) i) ⊎ WithinBounds v
    go (first_at i f e) = inl (i, f)
    go (nowhere e right) = inr (none_above v right)
