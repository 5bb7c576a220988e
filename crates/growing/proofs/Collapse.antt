-- The tree after a merge: its ready pair is one complete cluster. Grafting the pair gives the tree back, up to turning. Main results: collapsed,
-- collapsed_has, collapsed_least, collapsed_size, ready_before.
use Rattle.std.specs.Prelude.{◌≡◌, ◌≢◌, ◌⊎◌, Bool, true, false, ◌||◌, cond, ℕ, suc, ◌<◌, eqb}
use Rattle.std.proofs.Math.Path.{refl, sym, ap₂}
use Rattle.std.proofs.Common.{ap, ◌∙◌, inr, true≢false, arith}
use Rattle.std.proofs.Math.Logic.{inl, ⊎_elim}
use Rattle.std.proofs.lemmas.Bool.{false≢true}
use Rattle.std.proofs.Math.Option.{Option, none, some}
use borrow.Author.Tests.{eqb-true, lt-ltb, le-ltb, eq-eqb, ne_eqb}
use Rattle.rules.specs.Building.{Merge}
use Rattle.rules.specs.Tree.{Tree, leaf, node, has, least, size, Distinct}
use Rattle.rules.specs.Order.{ready, is_merge, collapse}
use Rattle.basics.proofs.Bools.{or_left, or_no, or_comm, and_left, and_right}
use Rattle.clades.proofs.Leaves.{has_left, distinct_swap, lacks}
use Rattle.clades.specs.Form.{join, form}
use Rattle.clades.proofs.Form.{form_has, form_least, form_size, form_distinct, form_swap}
use Rattle.growing.specs.Grown.{graft}
use Rattle.growing.proofs.Grown.{has_graft, graft_other, least_graft, size_graft, join_graft}
use Rattle.growing.specs.Ready.{Ready, Sides}
use Rattle.growing.proofs.Ready.{ready_sides, ready_has, ready_rising, open_left, open_right}
use Rattle.growing.specs.Collapse.{Cases, Collapsed, Clear}

is_merge_lem : (m : Merge) (o : Option Merge) → is_merge m o ≡ true → o ≡ some m
unfolding is_merge
is_merge_lem m none e = absurd (false≢true e)
is_merge_lem m (some p) e =
    ap some (ap₂ (λ (a b : ℕ). (a, b)) (sym (eqb-true m.0 p.0 (and_left (eqb m.0 p.0) (eqb m.1 p.1) e)))
    (sym (eqb-true m.1 p.1 (and_right (eqb m.0 p.0) (eqb m.1 p.1) e))))

is_own : (m : Merge) → is_merge m (some m) ≡ true
unfolding is_merge
is_own m = rw (eq-eqb m.0 m.0 refl) (eq-eqb m.1 m.1 refl)

pub collapse_cases : (m : Merge) (l r : Tree) → Cases m l r
unfolding collapse
collapse_cases m l r = go (is_merge m (ready l r)) refl
  where
    go : (b : Bool) → is_merge m (ready l r) ≡ b
        → ((ready l r ≡ some m) × (cond b (leaf m.0) (node (collapse m l) (collapse m r)) ≡ leaf m.0))
        ⊎ (cond b (leaf m.0) (node (collapse m l) (collapse m r)) ≡ node (collapse m l) (collapse m r))
    go true q = inl (is_merge_lem m (ready l r) q, refl)
    go false q = inr refl

pub collapse_here : (m : Merge) (l r : Tree) → ready l r ≡ some m → collapse m (node l r) ≡ leaf m.0
unfolding collapse
collapse_here m l r e = rw (e, is_own m)

-- a tree without the smaller name is as it was
collapse_other : (m : Merge) (t : Tree) → has t m.0 ≡ false → collapse m t ≡ t
unfolding has
collapse_other m (leaf x) e = unfold collapse in refl
collapse_other m (node l r) e =
    let k = or_no (has l m.0) (has r m.0) e in go (collapse_cases m l r) (collapse_other m l k.0) (collapse_other m r k.1)
  where
    go : Cases m l r → collapse m l ≡ l → collapse m r ≡ r → collapse m (node l r) ≡ node l r
    go (inl h) a b = absurd (true≢false (sym (ready_has m (node l r) (unfold Ready in inl h.0)).0 ∙ e))
    go (inr h) a b = h ∙ ap₂ node a b

collapse_inner : (m : Merge) (l r : Tree) → ready l r ≡ none → collapse m (node l r) ≡ node (collapse m l) (collapse m r)
unfolding collapse is_merge
collapse_inner m l r e = rw e

pub collapsed_has : (m : Merge) (t u : Tree) → Collapsed m t u → (x : ℕ) → has t x ≡ has u x || eqb m.1 x
collapsed_has m t u C x =
    sym (form_has t x) ∙ ap (λ (w : Tree). has w x) C.form_back ∙ has_graft m (form u) x ∙ rw (form_has u x, form_has u m.0, C.smaller)

collapsed_inside : (m : Merge) (t u : Tree) → Collapsed m t u → (x : ℕ) → has u x ≡ true → has t x ≡ true
collapsed_inside m t u C x e = collapsed_has m t u C x ∙ or_left (has u x) (eqb m.1 x) e

pub collapsed_least : (m : Merge) (t u : Tree) → m.0 < m.1 → Collapsed m t u → least u ≡ least t
collapsed_least m t u h C = sym (sym (form_least t) ∙ ap least C.form_back ∙ least_graft m h (form u) ∙ form_least u)

pub collapsed_size : (m : Merge) (t u : Tree) → Collapsed m t u → size t ≡ suc (size u)
collapsed_size m t u C =
    sym (form_size t) ∙ ap size C.form_back ∙ size_graft m (form u) (form_distinct u C.once) (form_has u m.0 ∙ C.smaller) ∙ ap suc (form_size u)

collapsed_here : (m : Merge) (l r : Tree) → m.0 < m.1 → Sides m l r → Collapsed m (node l r) (leaf m.0)
unfolding Sides has form join graft least
collapsed_here m l r h s =
    record { form_back = rw (eq-eqb m.0 m.0 refl) (go s); once = unfold Distinct in tt; smaller = eq-eqb m.0 m.0 refl; larger = ne_eqb m.0 m.1 (omega arith) }
  where
    go : ((l ≡ leaf m.0) × (r ≡ leaf m.1)) ⊎ ((l ≡ leaf m.1) × (r ≡ leaf m.0)) → join (form l) (form r) ≡ node (leaf m.0) (leaf m.1)
    go (inl k) = rw (k.0, k.1, lt-ltb m.0 m.1 h)
    go (inr k) = rw (k.0, k.1, le-ltb m.1 m.0 (omega arith))

collapsed_left : (m : Merge) (l r u : Tree) → Distinct (node l r) → m.0 < m.1
    → (has l m.0 ≡ true) × (has l m.1 ≡ true) → Collapsed m l u → Collapsed m (node l r) (node u r)
unfolding form Distinct has
collapsed_left m l r u D h k C = record {
  form_back =
      ap₂ join C.form_back (sym (graft_other m (form r) (form_has r m.0 ∙ lacks l r D m.0 k.0))) ∙ join_graft m h (form u) (form r);
  once = (λ x p q. D.0 x (collapsed_inside m l u C x p) q, C.once, D.2);
  smaller = has_left u r m.0 C.smaller;
  larger = rw C.larger (lacks l r D m.1 k.1);
}

collapsed_turn : (m : Merge) (l r u : Tree) → Distinct (node l r) → Collapsed m (node l r) (node u r) → Collapsed m (node r l) (node r u)
unfolding has
collapsed_turn m l r u D C = record {
  form_back = sym (form_swap l r D) ∙ C.form_back ∙ ap (graft m) (form_swap u r C.once);
  once = distinct_swap u r C.once;
  smaller = or_comm (has r m.0) (has u m.0) ∙ C.smaller;
  larger = or_comm (has r m.1) (has u m.1) ∙ C.larger;
}

-- to merge a ready pair is to put it back as its smaller name
pub collapsed : (m : Merge) (t : Tree) → Distinct t → Ready m t → Collapsed m t (collapse m t)
unfolding Ready Distinct
collapsed m (leaf x) D h = absurd h
collapsed m (node l r) D (inl e) = rw (collapse_here m l r e) (collapsed_here m l r (ready_rising m (node l r) D (inl e)) (ready_sides m l r e).1)
collapsed m (node l r) D (inr (inl h)) =
    let k = ready_has m l h in
    rw (collapse_inner m l r (open_left m l r h), collapse_other m r (lacks l r D m.0 k.0))
    (collapsed_left m l r (collapse m l) D (ready_rising m l D.1 h) k (collapsed m l D.1 h))
collapsed m (node l r) D (inr (inr h)) =
    let k = ready_has m r h in
    let E = distinct_swap l r D in
    rw (collapse_inner m l r (open_right m l r h), collapse_other m l (lacks r l E m.0 k.0))
    (collapsed_turn m r l (collapse m r) E (collapsed_left m r l (collapse m r) E (ready_rising m r D.2 h) k (collapsed m r D.2 h)))

-- a leaf that is not the merged cluster was there before
leaf_before : (m : Merge) (t : Tree) (x : ℕ) → collapse m t ≡ leaf x → x ≢ m.0 → t ≡ leaf x
leaf_before m (leaf y) x e ne = (unfold collapse in e)
leaf_before m (node l r) x e ne =
    ⊎_elim (λ h. absurd (ne (leaf_injective (sym e ∙ h.1)))) (λ h. absurd (leaf_not_node (sym e ∙ h))) (collapse_cases m l r)
  where
    leaf_injective : leaf x ≡ leaf m.0 → x ≡ m.0
    leaf_injective p = cc

    leaf_not_node : leaf x ≡ node (collapse m l) (collapse m r) → ⊥
    leaf_not_node p = let z : ◌≡◌ {A = ℕ} 0 1 = cc in omega arith

-- a ready pair that has nothing of the merged cluster was ready before
pub ready_before : (m p : Merge) (t : Tree) → Clear m p → Ready p (collapse m t) → Ready p t
unfolding Ready
ready_before m p (leaf x) k h = (unfold collapse in h)
ready_before m p (node l r) k h = go (collapse_cases m l r) (ready_before m p l k) (ready_before m p r k)
  where
    here : Sides p (collapse m l) (collapse m r) → (collapse m l ≡ l) × (collapse m r ≡ r)
    here s = unfold Sides Clear in ⊎_elim
        (λ q. (q.0 ∙ sym (leaf_before m l p.0 q.0 k.0), q.1 ∙ sym (leaf_before m r p.1 q.1 k.1)))
        (λ q. (q.0 ∙ sym (leaf_before m l p.1 q.0 k.1), q.1 ∙ sym (leaf_before m r p.0 q.1 k.0))) s

    inner : Ready p (node (collapse m l) (collapse m r)) → (Ready p (collapse m l) → Ready p l) → (Ready p (collapse m r) → Ready p r) → Ready p (node l r)
    inner (inl e) f g = let q = here (ready_sides p (collapse m l) (collapse m r) e).1 in inl (ap₂ ready (sym q.0) (sym q.1) ∙ e)
    inner (inr (inl x)) f g = inr (inl (f x))
    inner (inr (inr x)) f g = inr (inr (g x))

    go : Cases m l r → (Ready p (collapse m l) → Ready p l) → (Ready p (collapse m r) → Ready p r) → Ready p (node l r)
    go (inl e) f g = absurd (rw e.1 at h)
    go (inr e) f g = inner (rw e at h) f g
