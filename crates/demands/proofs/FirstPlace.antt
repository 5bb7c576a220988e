-- The searches of the rules find the first place where something is wrong, or that nothing is. Main results: above_found (4), unfit_found (11),
-- label_found (9 and 13), padding_found (10).
use Rattle.std.specs.Prelude.{Bool, true, false, not, ◌||◌, cond, List, [], ◌∷◌, map, ◌⊎◌, ◌↔◌, ◌≡◌, refl, ℕ, zero, suc, ◌+◌, ◌-◌, ◌≤◌, ◌<◌, eqb, ltb, length, get_or, drop}
use Rattle.std.proofs.Common.{true≢false, inl, inr, sym, ap, ◌∙◌, arith, get_or-drop, ltb-true, ltb-false, eqb-true, eq-eqb}
use Rattle.std.proofs.lemmas.Bool.{false≢true}
use Rattle.std.proofs.Math.Option.{Option, none, some}
use Rattle.std.proofs.lemmas.List.{length-map}
use Rattle.std.proofs.Math.ListN.{get_or-map}
use Rattle.rules.specs.Vector.{entry, bound, fault}
use Rattle.rules.specs.Building.{member}
use Rattle.rules.specs.Names.{Placed, first_fault}
use Rattle.rules.specs.Record.{Bits, total, any_set, padding_in}
use Rattle.rules.specs.Shuffle.{permutation_fault}
use Rattle.basics.proofs.Bools.{or_cases, or_left, or_right}
use Rattle.basics.specs.Names.{fault_of}
use Rattle.basics.proofs.Names.{first_step, value_step}
use Rattle.searching.specs.First.{Tells, Below, FirstFound}
use Rattle.searching.proofs.First.{tells_if, if_or_else, found_same}
use Rattle.searching.specs.Walked.{Walk, gathered}
use Rattle.searching.proofs.Walked.{gathered_some, walk_found}
use Rattle.demands.specs.Conditions.{Above, Unfit, PaddingSet}
use Rattle.demands.specs.FirstPlace.{UnfitAt, value}

-- 4: the first entry above its bound
pub above_found : (v : List ℕ) → FirstFound (Above v) (λ i w. i) (fault 0 v)
unfolding fault entry
above_found v =
    walk_found W 0 tt v (λ i. bound i < entry v i) (λ i w. i)
    (λ i h.
    let x = entry v i in
    tells_if (bound i < x) (ltb (bound i) x) i (ltb-true (bound i) x) (λ q w. omega (arith, ltb-false (bound i) x q)))
  where
    W : Walk {S = Unit {0}} (λ i s x. cond (ltb (bound i) x) (some i) none) (λ s x. s) (λ i s xs. fault i xs)
    W = record { at_end = λ i s. refl; at_each = λ i s x xs. if_or_else (ltb (bound i) x) i (fault (i + 1) xs) }

-- "used before": a number is among those gathered before place i
used_before : {A : Type 0} (number : A → ℕ) (past : A) (xs : List A) (y i : ℕ)
    → (member y (gathered (λ used x. number x ∷ used) past [] xs i) ≡ true) ↔ ((j : ℕ) × (j < i) × (number (get_or xs j past) ≡ y))
unfolding member
used_before number past xs y = gathered_some past [] xs (λ used. member y used ≡ true) (λ x. number x ≡ y) false≢true (λ used x. (there used x, back used x))
  where
    there : (used : List ℕ) (x : _) → eqb y (number x) || member y used ≡ true → (member y used ≡ true) ⊎ (number x ≡ y)
    there used x e = go (or_cases (eqb y (number x)) (member y used) e)
      where
        go : (eqb y (number x) ≡ true) ⊎ (member y used ≡ true) → (member y used ≡ true) ⊎ (number x ≡ y)
        go (inl h) = inr (sym (eqb-true y (number x) h))
        go (inr h) = inl h

    back : (used : List ℕ) (x : _) → (member y used ≡ true) ⊎ (number x ≡ y) → eqb y (number x) || member y used ≡ true
    back used x (inl h) = or_right (eqb y (number x)) (member y used) h
    back used x (inr h) = or_left (eqb y (number x)) (member y used) (eq-eqb y (number x) (sym h))

-- "not below n, or used before": what the test of a number tells
unfit_tells : {B : Type 0} (n x : ℕ) (used : List ℕ) (Before : Type 0) (said : B) → (member x used ≡ true) ↔ Before
    → Tells ((n ≤ x) ⊎ Before) (λ w. said) (cond (not (ltb x n) || member x used) (some said) none)
unfit_tells n x used Before said same = tells_if _ (not (ltb x n) || member x used) said (there (ltb x n) refl) (back (ltb x n) refl)
  where
    there : (b : Bool) → ltb x n ≡ b → not b || member x used ≡ true → (n ≤ x) ⊎ Before
    there true e h = inr (same.0 h)
    there false e h = inl (ltb-false x n e)

    back : (b : Bool) → ltb x n ≡ b → not b || member x used ≡ false → (n ≤ x) ⊎ Before → ⊥
    back false e h w = true≢false h
    back true e h (inl l) = omega (arith, ltb-true x n e)
    back true e h (inr u) = true≢false (sym (same.1 u) ∙ h)

-- a walk that tests the number of each element finds the first such one
unfit_walk : {A B : Type 0} (n : ℕ) (number : A → ℕ) (said : ℕ → A → B) (past : A) (xs : List A) (walk : ℕ → List ℕ → List A → Option B)
    → Walk (λ i used x. cond (not (ltb (number x) n) || member (number x) used) (some (said i x)) none) (λ used x. number x ∷ used) walk
    → FirstFound (Below (length xs) (UnfitAt n (λ i. number (get_or xs i past)))) (λ i w. said i (get_or xs i past)) (walk 0 [] xs)
unfit_walk n number said past xs walk W =
    walk_found W past [] xs (UnfitAt n at) (λ i w. said i (get_or xs i past))
    (λ i h. unfit_tells n (at i) (gathered (λ used x. number x ∷ used) past [] xs i) _ (said i (get_or xs i past)) (used_before number past xs (at i) i))
  where
    at : ℕ → ℕ
    at i = number (get_or xs i past)

-- 11: the first value that is not below n, or used before
pub unfit_found : (n : ℕ) (p : List ℕ) → FirstFound (Unfit n p) (λ i w. i) (permutation_fault n 0 [] p)
unfolding permutation_fault entry
unfit_found n p =
    unfit_walk n (λ x. x) (λ i x. i) 0 p (permutation_fault n)
    (record {
      at_end = λ i used. refl;
      at_each = λ i used x xs. value_step n i used x xs ∙ if_or_else (not (ltb x n) || member x used) i (permutation_fault n (i + 1) (x ∷ used) xs);
    })

unfit_same : (n : ℕ) (x y : ℕ → ℕ) → ((i : ℕ) → x i ≡ y i) → (i : ℕ) → UnfitAt n x i → UnfitAt n y i
unfit_same n x y e i (inl h) = inl (omega (arith, e i))
unfit_same n x y e i (inr u) = inr (u.0, u.1, omega (arith, e i, e u.0, u.2))

pub label_found : (n : ℕ) (ls : List Placed)
    → FirstFound (Unfit n (map value ls)) (λ i w. (fault_of n (entry (map value ls) i), (get_or ls i (0, 0)).0)) (first_fault n [] ls)
unfolding first_fault entry
label_found n ls =
    found_same (λ i w. (fault_of n (get_or (map value ls) i 0), (get_or ls i (0, 0)).0))
    (unfit_walk n value (λ i l. (fault_of n (value l), l.0)) (0, 0) ls (λ i used ls. first_fault n used ls)
    (record {
      at_end = λ i used. refl;
      at_each = λ i used l ls.
          first_step n used l ls ∙ if_or_else (not (ltb l.1 n) || member l.1 used) (fault_of n l.1, l.0) (first_fault n (l.1 ∷ used) ls);
    }))
    (λ i w. (omega (arith, w.0, count), unfit_same n _ _ (λ j. sym (numbered j)) i w.1))
    (λ i w. (omega (arith, w.0, count), unfit_same n _ _ numbered i w.1))
    (λ i w. ap (λ (x : ℕ). (fault_of n x, (get_or ls i (0, 0)).0)) (sym (numbered i)))
  where
    count : length (map value ls) ≡ length ls
    count = length-map ls value

    numbered : (i : ℕ) → get_or (map value ls) i 0 ≡ value (get_or ls i (0, 0))
    numbered i = get_or-map value ls i (0, 0)

-- a bit of a row is set
any_set_lem : (bs : List ℕ) → any_set bs ≡ true → (k : ℕ) × (get_or bs k 0 ≡ 1)
unfolding any_set
any_set_lem [] e = absurd (false≢true e)
any_set_lem (b ∷ bs) e = go (eqb b 1) refl e (any_set_lem bs)
  where
    go : (c : Bool) → eqb b 1 ≡ c → c || any_set bs ≡ true → (any_set bs ≡ true → (k : ℕ) × (get_or bs k 0 ≡ 1)) → (k : ℕ) × (get_or (b ∷ bs) k 0 ≡ 1)
    go true q e ih = (0, eqb-true b 1 q)
    go false q e ih = let k = ih e in (suc k.0, k.1)

set_any : (bs : List ℕ) (k : ℕ) → get_or bs k 0 ≡ 1 → any_set bs ≡ true
unfolding any_set
set_any [] k e = absurd (omega arith)
set_any (b ∷ bs) zero e = rw (eq-eqb b 1 e) refl
set_any (b ∷ bs) (suc k) e = or_right (eqb b 1) (any_set bs) (set_any bs k e)

-- 10: a padding bit is set
pub padding_found : (n : ℕ) (bs : Bits) → (any_set (padding_in n bs) ≡ true) ↔ PaddingSet n bs
unfolding padding_in
padding_found n bs = (
  λ e. let k = any_set_lem (drop (total n) bs) e in (total n + k.0, omega arith, sym (get_or-drop (total n) bs k.0 0) ∙ k.1),
  λ w.
      let z : total n + (w.0 - total n) ≡ w.0 = omega (arith, w.1) in
      set_any (drop (total n) bs) (w.0 - total n)
      (get_or-drop (total n) bs (w.0 - total n) 0 ∙ ap (λ (k : ℕ). get_or bs k 0) z ∙ w.2),
)
