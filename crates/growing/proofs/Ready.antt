-- The pairs of a tree whose two clusters are complete, and the best of them. Main results: best_greatest, best_is, best_some, greatest_one,
-- ready_unique, ready_rising, ready_has.
use Rattle.std.specs.Prelude.{◌≡◌, refl, ◌≢◌, ◌⊎◌, Bool, true, false, ◌||◌, cond, ℕ, ◌≤◌, ◌<◌, min, max, eqb, ltb}
use Rattle.std.proofs.Common.{sym, ap, ◌∙◌, inl, inr, ⊎_elim, arith, ltb-true, ltb-false, eqb-true, eq-eqb}
use Rattle.std.proofs.Math.Option.{Option, none, some, none-ne-some, some-injective}
use Rattle.std.proofs.lemmas.Bool.{eqb-false}
use Rattle.rules.specs.Building.{Merge}
use Rattle.rules.specs.Tree.{Tree, leaf, node, has, Distinct}
use Rattle.rules.specs.Order.{ready, greater, best}
use Rattle.basics.proofs.Bools.{or_left, or_right}
use Rattle.clades.proofs.Leaves.{has_left, has_right}
use Rattle.growing.specs.Ready.{Ready, Greatest, Sides}

-- so there is one only
pub greatest_one : (Q : Merge → Type 0) (m p : Merge) → Greatest Q m → Greatest Q p → p ≡ m
greatest_one Q m p g h =
    ⊎_elim (λ e. e) (λ l. ⊎_elim (λ e. sym e) (λ k. absurd (omega arith)) (h.others_below m g.is_one)) (g.others_below p h.is_one)

-- none where no merge satisfies the property, else one that does and that no other exceeds
Chosen : (Merge → Type 0) → Option Merge → Type 0
Chosen Q none = (p : Merge) → Q p → ⊥
Chosen Q (some m) = Q m × ((p : Merge) → Q p → p.1 ≤ m.1)

chosen_one : (o : Option Merge) → Chosen (λ p. o ≡ some p) o
unfolding Chosen
chosen_one none = λ p e. none-ne-some p e
chosen_one (some m) = (refl, λ p e. let q = some-injective m p e in omega (arith, ap (λ (x : Merge). x.1) q))

chosen_greater : (Q R : Merge → Type 0) (o p : Option Merge) → Chosen Q o → Chosen R p → Chosen (λ d. Q d ⊎ R d) (greater o p)
unfolding Chosen greater
chosen_greater Q R none none h k = λ d. ⊎_elim (h d) (k d)
chosen_greater Q R none (some c) h k = (inr k.0, λ d. ⊎_elim (λ q. absurd (h d q)) (k.1 d))
chosen_greater Q R (some b) none h k = (inl h.0, λ d. ⊎_elim (h.1 d) (λ q. absurd (k d q)))
chosen_greater Q R (some b) (some c) h k = go (ltb b.1 c.1) refl
  where
    go : (t : Bool) → ltb b.1 c.1 ≡ t → Chosen (λ d. Q d ⊎ R d) (cond t (some c) (some b))
    go true q = (inr k.0, λ d. ⊎_elim (λ x. omega (arith, h.1 d x, ltb-true b.1 c.1 q)) (k.1 d))
    go false q = (inl h.0, λ d. ⊎_elim (h.1 d) (λ x. omega (arith, k.1 d x, ltb-false b.1 c.1 q)))

chosen : (t : Tree) → Chosen (λ p. Ready p t) (best t)
unfolding Ready best
chosen (leaf x) = unfold Chosen in λ p e. e
chosen (node l r) =
    chosen_greater (λ p. ready l r ≡ some p) (λ p. Ready p l ⊎ Ready p r) (ready l r) (greater (best l) (best r)) (chosen_one (ready l r))
    (chosen_greater (λ p. Ready p l) (λ p. Ready p r) (best l) (best r) (chosen l) (chosen r))

-- a ready pair above all others is the best
pub best_is : (t : Tree) (m : Merge) → Greatest (λ p. Ready p t) m → best t ≡ some m
unfolding Chosen
best_is t m g = go (best t) refl (chosen t)
  where
    go : (o : Option Merge) → best t ≡ o → Chosen (λ p. Ready p t) o → best t ≡ some m
    go none e C = absurd (C m g.is_one)
    go (some b) e C = e ∙ ap some (⊎_elim (λ p. p) (λ l. absurd (omega (arith, C.1 m g.is_one))) (g.others_below b C.0))

-- a tree is a leaf or has a ready pair
ready_some : (t : Tree) → ((x : ℕ) × (t ≡ leaf x)) ⊎ ((m : Merge) × Ready m t)
unfolding Ready ready
ready_some (leaf x) = inl (x, refl)
ready_some (node l r) = inr (go (ready_some l) (ready_some r))
  where
    go : ((x : ℕ) × (l ≡ leaf x)) ⊎ ((m : Merge) × Ready m l) → ((x : ℕ) × (r ≡ leaf x)) ⊎ ((m : Merge) × Ready m r) → (m : Merge) × Ready m (node l r)
    go (inl a) (inl b) = ((min a.0 b.0, max a.0 b.0), inl (rw (a.1, b.1)))
    go (inl a) (inr k) = (k.0, inr (inr k.1))
    go (inr k) s = (k.0, inr (inl k.1))

-- the best pair of a tree is missing only for a leaf
pub best_some : (t : Tree) → ((x : ℕ) × (t ≡ leaf x)) ⊎ ((m : Merge) × (best t ≡ some m))
unfolding Chosen
best_some t = ⊎_elim (λ k. inl k) (λ k. inr (go (best t) (chosen t) k)) (ready_some t)
  where
    go : (o : Option Merge) → Chosen (λ p. Ready p t) o → (m : Merge) × Ready m t → (m : Merge) × (o ≡ some m)
    go none C k = absurd (C k.0 k.1)
    go (some m) C k = (m, refl)

-- the two parts of a ready pair are the leaves of its names
pub ready_sides : (m : Merge) (l r : Tree) → ready l r ≡ some m → (m.0 ≤ m.1) × Sides m l r
unfolding ready Sides
ready_sides m (leaf a) (leaf b) e =
    let p = some-injective (min a b, max a b) m e in
    go (ltb a b) refl (ap (λ (x : Merge). x.0) p) (ap (λ (x : Merge). x.1) p)
  where
    go : (t : Bool) → ltb a b ≡ t → min a b ≡ m.0 → max a b ≡ m.1 → (m.0 ≤ m.1) × Sides m (leaf a) (leaf b)
    go true q p₀ p₁ = let l = ltb-true a b q in let x : a ≡ m.0 = omega arith in let y : b ≡ m.1 = omega arith in (omega arith, inl (ap leaf x, ap leaf y))
    go false q p₀ p₁ = let l = ltb-false a b q in let x : a ≡ m.1 = omega arith in let y : b ≡ m.0 = omega arith in (omega arith, inr (ap leaf x, ap leaf y))
ready_sides m (leaf a) (node l r) e = absurd (none-ne-some m e)
ready_sides m (node l r) u e = absurd (none-ne-some m e)

-- both names of a ready pair are leaves
pub ready_has : (m : Merge) (t : Tree) → Ready m t → (has t m.0 ≡ true) × (has t m.1 ≡ true)
unfolding Ready has Sides
ready_has m (leaf x) h = absurd h
ready_has m (node l r) (inl e) = go (ready_sides m l r e).1
  where
    first : (a b : ℕ) → eqb a a || eqb b a ≡ true
    first a b = or_left (eqb a a) (eqb b a) (eq-eqb a a refl)

    second : (a b : ℕ) → eqb a b || eqb b b ≡ true
    second a b = or_right (eqb a b) (eqb b b) (eq-eqb b b refl)

    go : Sides m l r → (has l m.0 || has r m.0 ≡ true) × (has l m.1 || has r m.1 ≡ true)
    go (inl s) = rw (s.0, s.1) (first m.0 m.1, second m.0 m.1)
    go (inr s) = rw (s.0, s.1) (second m.1 m.0, first m.1 m.0)
ready_has m (node l r) (inr (inl h)) = let k = ready_has m l h in (has_left l r m.0 k.0, has_left l r m.1 k.1)
ready_has m (node l r) (inr (inr h)) = let k = ready_has m r h in (has_right l r m.0 k.0, has_right l r m.1 k.1)

-- the smaller name of a ready pair is smaller, where no leaf stands twice
pub ready_rising : (m : Merge) (t : Tree) → Distinct t → Ready m t → m.0 < m.1
unfolding Ready Distinct has Sides
ready_rising m (leaf x) D h = absurd h
ready_rising m (node l r) D (inl e) = let k = ready_sides m l r e in let p = k.0 in let ne = differ k.1 in omega arith
  where
    differ : Sides m l r → m.0 ≢ m.1
    differ (inl s) q = D.0 m.0 (rw s.0 (eq-eqb m.0 m.0 refl)) (rw s.1 (eq-eqb m.1 m.0 (sym q)))
    differ (inr s) q = D.0 m.0 (rw s.0 (eq-eqb m.1 m.0 (sym q))) (rw s.1 (eq-eqb m.0 m.0 refl))
ready_rising m (node l r) D (inr (inl h)) = ready_rising m l D.1 h
ready_rising m (node l r) D (inr (inr h)) = ready_rising m r D.2 h

-- a part with a ready pair is not complete
pub open_left : (m : Merge) (l r : Tree) → Ready m l → ready l r ≡ none
unfolding Ready ready
open_left m (leaf x) r h = absurd h
open_left m (node a b) r h = refl

pub open_right : (m : Merge) (l r : Tree) → Ready m r → ready l r ≡ none
unfolding Ready ready
open_right m (leaf x) (leaf y) h = absurd h
open_right m (leaf x) (node a b) h = refl
open_right m (node a b) r h = refl

-- two ready pairs with the same larger name are one
pub ready_unique : (p q : Merge) (t : Tree) → Distinct t → Ready p t → Ready q t → p.1 ≡ q.1 → p ≡ q
unfolding Ready Distinct
ready_unique p q (leaf x) D h k e = absurd h
ready_unique p q (node l r) D (inl h) (inl k) e = some-injective p q (sym h ∙ k)
ready_unique p q (node l r) D (inl h) (inr (inl k)) e = absurd (none-ne-some p (sym (open_left q l r k) ∙ h))
ready_unique p q (node l r) D (inl h) (inr (inr k)) e = absurd (none-ne-some p (sym (open_right q l r k) ∙ h))
ready_unique p q (node l r) D (inr (inl h)) (inl k) e = absurd (none-ne-some q (sym (open_left p l r h) ∙ k))
ready_unique p q (node l r) D (inr (inl h)) (inr (inl k)) e = ready_unique p q l D.1 h k e
ready_unique p q (node l r) D (inr (inl h)) (inr (inr k)) e = absurd (D.0 p.1 (ready_has p l h).1 (rw e (ready_has q r k).1))
ready_unique p q (node l r) D (inr (inr h)) (inl k) e = absurd (none-ne-some q (sym (open_right p l r h) ∙ k))
ready_unique p q (node l r) D (inr (inr h)) (inr (inl k)) e = absurd (D.0 p.1 (rw e (ready_has q l k).1) (ready_has p r h).1)
ready_unique p q (node l r) D (inr (inr h)) (inr (inr k)) e = ready_unique p q r D.2 h k e

-- best is "of the pairs whose two clusters are complete, the one whose larger name is greatest"
pub best_greatest : (t : Tree) (m : Merge) → Distinct t → best t ≡ some m → Greatest (λ p. Ready p t) m
unfolding Chosen
best_greatest t m D e = go (rw e at (chosen t))
  where
    go : Ready m t × ((p : Merge) → Ready p t → p.1 ≤ m.1) → Greatest (λ p. Ready p t) m
    go C = record { is_one = C.0; others_below = λ p h. below p h (C.1 p h) (eqb p.1 m.1) refl }
      where
        below : (p : Merge) → Ready p t → p.1 ≤ m.1 → (b : Bool) → eqb p.1 m.1 ≡ b → (p ≡ m) ⊎ (p.1 < m.1)
        below p h l true q = inl (ready_unique p m t D h C.0 (eqb-true p.1 m.1 q))
        below p h l false q = inr (omega (arith, eqb-false p.1 m.1 q))
