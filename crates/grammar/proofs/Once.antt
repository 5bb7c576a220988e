-- n labels among which each of 0 to n-1 stands have no fault: there is no room for another. Main results: covers_long, each_leaf_no_fault.
use Rattle.std.specs.Prelude.{◌≡◌, refl, Bool, true, false, cond, ◌||◌, not, List, [], ◌∷◌, ◌++◌, ℕ, zero, suc, ◌+◌, ◌≤◌, ◌<◌, eqb, ltb, length}
use Rattle.std.proofs.Common.{ap, sym, ◌∙◌, true≢false, ⊎_elim, arith, length-append, eqb-true, eq-eqb, lt-ltb}
use Rattle.std.proofs.Math.Option.{none}
use Rattle.rules.specs.Building.{member}
use Rattle.rules.specs.Names.{first_fault}
use Rattle.rules.specs.Newick.{labels_of, label_fault}
use Rattle.rules.specs.Tree.{Tree, leaf, node, has}
use Rattle.clades.proofs.Leaves.{has_cases}
use Rattle.grammar.specs.Labels.{value, leaves_of, LabelledAs}
use Rattle.grammar.specs.Faults.{fits}
use Rattle.grammar.proofs.Faults.{fault_fits, is_none_lem}
use Rattle.std.proofs.lemmas.List.{length-map}
use Rattle.grammar.specs.Once.{Covers, without}

without_length : (x : ℕ) (l : List ℕ) → length (without x l) ≤ length l
unfolding without
without_length x [] = omega arith
without_length x (y ∷ l) = go (eqb x y) (without_length x l)
  where
    go : (b : Bool) → length (without x l) ≤ length l → length (cond b (without x l) (y ∷ without x l)) ≤ suc (length l)
    go true h = omega arith
    go false h = omega arith

without_shorter : (x : ℕ) (l : List ℕ) → member x l ≡ true → length (without x l) < length l
unfolding without member
without_shorter x [] h = absurd (true≢false (sym h))
without_shorter x (y ∷ l) h = go (eqb x y) h (λ e. without_shorter x l e)
  where
    go : (b : Bool) → b || member x l ≡ true → (member x l ≡ true → length (without x l) < length l) → length (cond b (without x l) (y ∷ without x l)) < suc (length l)
    go true e f = omega (arith, without_length x l)
    go false e f = omega (arith, f e)

without_others : (x z : ℕ) (l : List ℕ) → (z ≡ x → ⊥) → member z l ≡ true → member z (without x l) ≡ true
unfolding without member
without_others x z [] n h = h
without_others x z (y ∷ l) n h = go (eqb x y) refl (eqb z y) refl h (λ e. without_others x z l n e)
  where
    go : (b : Bool) → eqb x y ≡ b → (c : Bool) → eqb z y ≡ c → c || member z l ≡ true → (member z l ≡ true → member z (without x l) ≡ true)
        → member z (cond b (without x l) (y ∷ without x l)) ≡ true
    go true e true f k r = absurd (n (eqb-true z y f ∙ sym (eqb-true x y e)))
    go true e false f k r = r k
    go false e true f k r = rw f
    go false e false f k r = rw f (r k)

-- a list in which n numbers stand has n elements
covers_long : (n : ℕ) (l : List ℕ) → Covers n l → n ≤ length l
covers_long zero l c = omega arith
covers_long (suc n) l c =
    let h : n ≤ length (without n l) = covers_long n (without n l) (λ x i. without_others n x l (λ q. omega arith) (c x (omega arith))) in
    omega (arith, without_shorter n l (c n (omega arith)))

member_append : (x : ℕ) (a b : List ℕ) → member x (a ++ b) ≡ member x a || member x b
unfolding member
member_append x [] b = refl
member_append x (y ∷ a) b = go (eqb x y) (member_append x a b)
  where
    go : (c : Bool) → member x (a ++ b) ≡ member x a || member x b → c || member x (a ++ b) ≡ (c || member x a) || member x b
    go true e = refl
    go false e = e

-- so none of n elements is another number, or stands twice
covers_fit : (n : ℕ) (used xs : List ℕ) → ((x : ℕ) → x < n → member x used || member x xs ≡ true) → length used + length xs ≤ n → fits n used xs ≡ true
unfolding fits member
covers_fit n used [] c h = refl
covers_fit n used (y ∷ xs) c h =
    go (not (ltb y n) || member y used) refl (covers_fit n (y ∷ used) xs (λ x i. swap (eqb x y) (member x used) (member x xs) (c x i)) (omega arith))
  where
    swap : (a b d : Bool) → b || (a || d) ≡ true → (a || b) || d ≡ true
    swap true b d e = refl
    swap false b d e = e

    at_fault : (a b : Bool) → ltb y n ≡ a → member y used ≡ b → not a || b ≡ true → y < n → member y used ≡ true
    at_fault a b e f q i = go' a b e f q
      where
        go' : (a b : Bool) → ltb y n ≡ a → member y used ≡ b → not a || b ≡ true → member y used ≡ true
        go' true true e f q = f
        go' true false e f q = absurd (true≢false (sym q))
        go' false b e f q = absurd (true≢false (sym (lt-ltb y n i) ∙ e))

    others : not (ltb y n) || member y used ≡ true → Covers n (used ++ xs)
    others q x i = member_append x used xs ∙ pick (member x used) refl (eqb x y) refl (c x i)
      where
        pick : (a : Bool) → member x used ≡ a → (b : Bool) → eqb x y ≡ b → a || (b || member x xs) ≡ true → a || member x xs ≡ true
        pick true f b e r = refl
        pick false f true e r =
            let z : x ≡ y = eqb-true x y e in
            absurd (true≢false (sym (rw z (at_fault (ltb y n) (member y used) refl refl q (rw (← z) i))) ∙ f))
        pick false f false e r = r

    go : (b : Bool) → not (ltb y n) || member y used ≡ b → fits n (y ∷ used) xs ≡ true → cond b false (fits n (y ∷ used) xs) ≡ true
    go true q f = absurd (let l = covers_long n (used ++ xs) (others q) in omega (arith, length-append used xs))
    go false q f = f

has_member : (t : Tree) (x : ℕ) → has t x ≡ true → member x (leaves_of t) ≡ true
unfolding has leaves_of member
has_member (leaf y) x h = rw (eq-eqb x y (sym (eqb-true y x h)))
has_member (node l r) x h =
    member_append x (leaves_of l) (leaves_of r) ∙ ⊎_elim (λ e. rw (has_member l x e)) (λ e. right (member x (leaves_of l)) (has_member r x e)) (has_cases l r x h)
  where
    right : (a : Bool) → member x (leaves_of r) ≡ true → a || member x (leaves_of r) ≡ true
    right true e = refl
    right false e = e

-- bytes of n labels, labelled as a tree that has each of the leaves 0 to n-1, have no label at fault
pub each_leaf_no_fault : {s : List ℕ} {t : Tree} → LabelledAs s t → ((x : ℕ) → x < length (labels_of s) → has t x ≡ true) → label_fault s ≡ none
unfolding label_fault member
each_leaf_no_fault {s} {t} h c =
    let n : ℕ = length (labels_of s) in
    let e : length (leaves_of t) ≡ n = sym (ap length h.leaves) ∙ length-map (labels_of s) value in
    is_none_lem (first_fault n [] (labels_of s))
    (fault_fits n [] (labels_of s) ∙ ap (fits n []) h.leaves ∙ covers_fit n [] (leaves_of t) (λ x i. has_member t x (c x i)) (omega arith))
