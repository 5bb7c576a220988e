-- A walk down a list, which tests each element with what it gathered from those before it, is a search over the list's places. Main results:
-- walk_is_search, walk_found, gathered_some.
use mathlib.Core.List.{List, [], ◌∷◌}
use Rattle.std.specs.Prelude.{◌⊎◌, ◌↔◌, ◌≡◌, refl, ℕ, zero, suc, ◌+◌, ◌<◌, length, get_or}
use Rattle.std.proofs.Common.{inl, inr, ◌∙◌, eq-or-lt_of_le, le_of_suc-le-suc}
use Rattle.std.proofs.Math.Option.{Option, none, some}
use Rattle.std.proofs.Math.Path.{sym, ap, ap₂}
use native.Mathlib.Omega.{arith}
use Rattle.searching.specs.First.{Tells, or_else, first_below, Below, FirstFound}
use Rattle.searching.proofs.First.{first_below_found}
use Rattle.searching.specs.Walked.{gathered, Walk}

-- what one says, else another, else a third
or_else_again : {B : Type 0} (a b c : Option B) → or_else (or_else a b) c ≡ or_else a (or_else b c)
unfolding or_else
or_else_again none b c = refl
or_else_again (some x) b c = refl

or_else_none : {B : Type 0} (a : Option B) → a ≡ or_else a none
unfolding or_else
or_else_none none = refl
or_else_none (some x) = refl

-- a search looks at its first place first
first_below_next : {B : Type 0} (test : ℕ → Option B) (n : ℕ) → first_below test (suc n) ≡ or_else (test 0) (first_below (λ i. test (suc i)) n)
unfolding first_below or_else
first_below_next test zero = or_else_none (test 0)
first_below_next test (suc n) =
    ap (λ o. or_else o (test (suc n))) (first_below_next test n) ∙ or_else_again (test 0) (first_below (λ i. test (suc i)) n) (test (suc n))

-- and by its tests alone
first_below_same : {B : Type 0} (test test' : ℕ → Option B) (n : ℕ) → ((i : ℕ) → test i ≡ test' i) → first_below test n ≡ first_below test' n
unfolding first_below
first_below_same test test' zero same = refl
first_below_same test test' (suc n) same = ap₂ or_else (first_below_same test test' n same) (same n)

gathered_first : {S A : Type 0} (next : S → A → S) (past : A) (s : S) (x : A) (xs : List A) (i : ℕ)
    → gathered next past (next s x) xs i ≡ gathered next past s (x ∷ xs) (suc i)
unfolding gathered
gathered_first next past s x xs zero = refl
gathered_first next past s x xs (suc i) = ap (λ g. next g (get_or xs i past)) (gathered_first next past s x xs i)

-- what holds of what is gathered, where it holds of nothing at first, and each element that is such a one makes it hold from there on:
-- an element before place i is such a one
pub gathered_some : {S A : Type 0} {next : S → A → S} (past : A) (s : S) (xs : List A) (Holds : S → Type 0) (Such : A → Type 0)
    → (Holds s → ⊥) → ((s : S) (x : A) → Holds (next s x) ↔ (Holds s ⊎ Such x))
    → (i : ℕ) → Holds (gathered next past s xs i) ↔ ((j : ℕ) × (j < i) × Such (get_or xs j past))
unfolding gathered
gathered_some past s xs Holds Such never each zero = (λ h. absurd (never h), λ h. absurd (omega (arith, h.1)))
gathered_some {next = next} past s xs Holds Such never each (suc i) =
    let ih = gathered_some past s xs Holds Such never each i in
    let here = each (gathered next past s xs i) (get_or xs i past) in
    (λ h. there ih (here.0 h), λ h. here.1 (back ih h.0 h.1 h.2))
  where
    Before : Type 0
    Before = (j : ℕ) × (j < i) × Such (get_or xs j past)

    there : Holds (gathered next past s xs i) ↔ Before → Holds (gathered next past s xs i) ⊎ Such (get_or xs i past)
        → (j : ℕ) × (j < suc i) × Such (get_or xs j past)
    there ih (inl h) = let b = ih.0 h in (b.0, omega (arith, b.1), b.2)
    there ih (inr h) = (i, omega arith, h)

    back : Holds (gathered next past s xs i) ↔ Before → (j : ℕ) → j < suc i → Such (get_or xs j past)
        → Holds (gathered next past s xs i) ⊎ Such (get_or xs i past)
    back ih j l h = go (eq-or-lt_of_le (le_of_suc-le-suc l))
      where
        go : (j ≡ i) ⊎ (j < i) → Holds (gathered next past s xs i) ⊎ Such (get_or xs i past)
        go (inl e) = inr (rw e at h)
        go (inr b) = inl (ih.1 (j, b, h))

module _ {S A B : Type 0} {test : ℕ → S → A → Option B} {next : S → A → S} {walk : ℕ → S → List A → Option B} (W : Walk test next walk) (past : A) where
  -- the test of place i of a walk that begins with place k
  abbrev test_from : ℕ → S → List A → ℕ → Option B
  test_from k s xs i = test (k + i) (gathered next past s xs i) (get_or xs i past)

  walk_from : (k : ℕ) (s : S) (xs : List A) → walk k s xs ≡ first_below (test_from k s xs) (length xs)
  unfolding first_below gathered
  walk_from k s [] = W.at_end k s
  walk_from k s (x ∷ xs) =
      W.at_each k s x xs
      ∙ ap₂ or_else first (walk_from (k + 1) (next s x) xs ∙ first_below_same (test_from (k + 1) (next s x) xs) (λ i. test_from k s (x ∷ xs) (suc i)) (length xs) later)
      ∙ sym (first_below_next (test_from k s (x ∷ xs)) (length xs))
    where
      first : test k s x ≡ test_from k s (x ∷ xs) 0
      first = let z : k ≡ k + 0 = omega arith in ap (λ j. test j s x) z

      later : (i : ℕ) → test_from (k + 1) (next s x) xs i ≡ test_from k s (x ∷ xs) (suc i)
      later i = let z : k + 1 + i ≡ k + suc i = omega arith in ap₂ (λ j g. test j g (get_or xs i past)) z (gathered_first next past s x xs i)

  -- the walk down a whole list
  pub walk_is_search : (s : S) (xs : List A) → walk 0 s xs ≡ first_below (λ i. test i (gathered next past s xs i) (get_or xs i past)) (length xs)
  walk_is_search s xs =
      walk_from 0 s xs
      ∙ first_below_same (test_from 0 s xs) (λ i. test i (gathered next past s xs i) (get_or xs i past)) (length xs)
      (λ i. let z : 0 + i ≡ i = omega arith in ap (λ j. test j (gathered next past s xs i) (get_or xs i past)) z)

  -- so it finds the first place that is wrong, where each test tells what is wrong at its place
  pub walk_found : (s : S) (xs : List A) (Wrong : ℕ → Type 0) (says : (i : ℕ) → Wrong i → B)
      → ((i : ℕ) → i < length xs → Tells (Wrong i) (says i) (test i (gathered next past s xs i) (get_or xs i past)))
      → FirstFound (Below (length xs) Wrong) (λ i w. says i w.1) (walk 0 s xs)
  walk_found s xs Wrong says tells =
      rw (walk_is_search s xs)
      (first_below_found Wrong says (λ i. test i (gathered next past s xs i) (get_or xs i past)) (length xs) tells)
