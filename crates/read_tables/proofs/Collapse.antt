-- What a merge does to a tree.
-- Main results: ready_leaves, collapse_here, collapse_left, collapse_right, collapse_least, collapse_has, collapse_distinct, order_step.
use Rattle.std.specs.Prelude.{◌≡◌, ◌≢◌, Bool, true, false, [], ◌∷◌, ℕ, suc, ◌+◌, ◌-◌, ◌≤◌, min, max, eqb}
use Rattle.std.proofs.Math.Path.{refl}
use Rattle.std.proofs.Common.{sym, ap, ap₂, ◌∙◌, inl, inr, ⊎_elim, true≢false, arith, eqb-true, eq-eqb}
use Rattle.std.proofs.Math.Option.{Option, none, some, none-ne-some, some-injective}
use Rattle.rules.specs.Building.{Merge, follow}
use Rattle.rules.specs.Tree.{Tree, leaf, node, has, least, size, Distinct}
use Rattle.rules.specs.Order.{ready, best, is_merge, collapse, ordered, order}
use Rattle.basics.proofs.Bools.{and_left, and_right}
use Rattle.clades.proofs.Leaves.{has_left, has_right, has_cases, least_has}
use Rattle.read_tables.specs.Larger.{inner, Pair}
use Rattle.read_tables.proofs.Larger.{top_left, top_right, pair_apart}

-- two parts are complete where they are leaves
pub ready_leaves : (l r : Tree) → inner l + inner r ≡ 0 → ready l r ≡ some (min (least l) (least r), max (least l) (least r))
unfolding ready inner least
ready_leaves (leaf a) (leaf b) e = refl
ready_leaves (leaf a) (node x y) e = absurd (omega arith)
ready_leaves (node x y) r e = absurd (omega arith)

pub ready_is : (l r : Tree) (m : Merge) → ready l r ≡ some m
    → (inner l + inner r ≡ 0) × (m.0 ≡ min (least l) (least r)) × (m.1 ≡ max (least l) (least r))
unfolding ready inner least
ready_is (leaf a) (leaf b) m e =
    let p = some-injective (min a b, max a b) m e in
    (refl, sym (ap (λ (x : Merge). x.0) p), sym (ap (λ (x : Merge). x.1) p))
ready_is (leaf a) (node x y) m e = absurd (none-ne-some m e)
ready_is (node x y) r m e = absurd (none-ne-some m e)

-- a merge is the pair of two parts only where both are complete
pub merge_is : (m : Merge) (l r : Tree) → is_merge m (ready l r) ≡ true
    → (inner l + inner r ≡ 0) × (m.0 ≡ min (least l) (least r)) × (m.1 ≡ max (least l) (least r))
unfolding is_merge
merge_is m l r e = go (ready l r) refl e
  where
    go : (o : Option Merge) → ready l r ≡ o → is_merge m o ≡ true → (inner l + inner r ≡ 0) × (m.0 ≡ min (least l) (least r)) × (m.1 ≡ max (least l) (least r))
    go none q f = absurd (true≢false (sym f))
    go (some d) q f =
        let k = ready_is l r d q in (
          k.0,
          eqb-true m.0 d.0 (and_left (eqb m.0 d.0) (eqb m.1 d.1) f) ∙ k.1,
          eqb-true m.1 d.1 (and_right (eqb m.0 d.0) (eqb m.1 d.1) f) ∙ k.2,
        )

-- and where its larger name is another, it is not
pub merge_not : (m : Merge) (l r : Tree) → max (least l) (least r) ≢ m.1 → is_merge m (ready l r) ≡ false
merge_not m l r h = go (is_merge m (ready l r)) refl
  where
    go : (b : Bool) → is_merge m (ready l r) ≡ b → is_merge m (ready l r) ≡ false
    go true e = absurd (h (sym (merge_is m l r e).2))
    go false e = e

pub merge_true : (l r : Tree) (m : Merge) → inner l + inner r ≡ 0 → m.0 ≡ min (least l) (least r) → m.1 ≡ max (least l) (least r) → is_merge m (ready l r) ≡ true
unfolding is_merge
merge_true l r m z e f = rw (ready_leaves l r z) (rw (eq-eqb m.0 (min (least l) (least r)) e) (eq-eqb m.1 (max (least l) (least r)) f))

-- the two cases of a merge in an inner node
pub collapse_here : (m : Merge) (l r : Tree) → is_merge m (ready l r) ≡ true → collapse m (node l r) ≡ leaf m.0
unfolding collapse
collapse_here m l r e = rw e

pub collapse_below : (m : Merge) (l r : Tree) → is_merge m (ready l r) ≡ false → collapse m (node l r) ≡ node (collapse m l) (collapse m r)
unfolding collapse
collapse_below m l r e = rw e

-- a merge keeps the name of the whole
pub collapse_least : (m : Merge) (t : Tree) → least (collapse m t) ≡ least t
unfolding least
collapse_least m (leaf x) = unfold collapse in refl
collapse_least m (node l r) = go (is_merge m (ready l r)) refl (collapse_least m l) (collapse_least m r)
  where
    go : (b : Bool) → is_merge m (ready l r) ≡ b → least (collapse m l) ≡ least l → least (collapse m r) ≡ least r → least (collapse m (node l r)) ≡ min (least l) (least r)
    go true e f g = ap least (collapse_here m l r e) ∙ (merge_is m l r e).1
    go false e f g = ap least (collapse_below m l r e) ∙ ap₂ min f g

-- no leaf is new
pub collapse_has : (m : Merge) (t : Tree) (x : ℕ) → has (collapse m t) x ≡ true → has t x ≡ true
unfolding has least
collapse_has m (leaf y) x h = unfold collapse in h
collapse_has m (node l r) x h = go (is_merge m (ready l r)) refl (collapse_has m l x) (collapse_has m r x)
  where
    go : (b : Bool) → is_merge m (ready l r) ≡ b → (has (collapse m l) x ≡ true → has l x ≡ true) → (has (collapse m r) x ≡ true → has r x ≡ true) → has (node l r) x ≡ true
    go true e f g =
        let k : has (leaf m.0) x ≡ true = ap (λ (t : Tree). has t x) (sym (collapse_here m l r e)) ∙ h in
        let z : least (node l r) ≡ x = sym (merge_is m l r e).1 ∙ eqb-true m.0 x k in
        rw z at (least_has (node l r))
    go false e f g =
        ⊎_elim (λ k. has_left l r x (f k)) (λ k. has_right l r x (g k))
        (has_cases (collapse m l) (collapse m r) x (ap (λ (t : Tree). has t x) (sym (collapse_below m l r e)) ∙ h))

pub collapse_distinct : (m : Merge) (t : Tree) → Distinct t → Distinct (collapse m t)
unfolding Distinct
collapse_distinct m (leaf y) D = unfold collapse in tt
collapse_distinct m (node l r) D = go (is_merge m (ready l r)) refl (collapse_distinct m l D.1) (collapse_distinct m r D.2)
  where
    go : (b : Bool) → is_merge m (ready l r) ≡ b → Distinct (collapse m l) → Distinct (collapse m r) → Distinct (collapse m (node l r))
    go true e f g = rw (collapse_here m l r e) tt
    go false e f g = rw (collapse_below m l r e) (λ x h k. D.0 x (collapse_has m l x h) (collapse_has m r x k), f, g)

-- a merge of a pair that is not there changes nothing
pub collapse_other : (m : Merge) (t : Tree) → (Pair t m.1 → ⊥) → collapse m t ≡ t
unfolding Pair
collapse_other m (leaf x) h = unfold collapse in refl
collapse_other m (node l r) h =
    collapse_below m l r (merge_not m l r (λ e. h (inl e)))
    ∙ ap₂ node (collapse_other m l (λ k. h (inr (inl k)))) (collapse_other m r (λ k. h (inr (inr k))))

-- a merge in one part leaves the other as it is
pub collapse_left : (m : Merge) (l r : Tree) → Distinct (node l r) → Pair l m.1 → collapse m (node l r) ≡ node (collapse m l) r
collapse_left m l r D h =
    collapse_below m l r (merge_not m l r (λ e. top_left l r D (rw (sym e) at h)))
    ∙ ap (node (collapse m l)) (collapse_other m r (pair_apart l r m.1 D h))

pub collapse_right : (m : Merge) (l r : Tree) → Distinct (node l r) → Pair r m.1 → collapse m (node l r) ≡ node l (collapse m r)
collapse_right m l r D h =
    collapse_below m l r (merge_not m l r (λ e. top_right l r D (rw (sym e) at h)))
    ∙ ap (λ (t : Tree). node t (collapse m r)) (collapse_other m l (λ k. pair_apart l r m.1 D k h))

pub size_leaf : (t : Tree) → inner t ≡ 0 → size t ≡ 1
unfolding inner size
size_leaf (leaf x) e = refl
size_leaf (node l r) e = absurd (omega arith)

-- a tree has a leaf
pub size_pos : (t : Tree) → 1 ≤ size t
unfolding size
size_pos (leaf x) = omega arith
size_pos (node l r) = omega (arith, size_pos l)

-- the order of a tree's merges is its next merge and the order of what that leaves
pub order_step : (t : Tree) (m : Merge) → best t ≡ some m → size (collapse m t) + 1 ≡ size t → order t ≡ m ∷ order (collapse m t)
unfolding order ordered follow
order_step t m e k =
    let h = size_pos (collapse m t) in
    let n : size t - 1 ≡ suc (size (collapse m t) - 1) = omega arith in
    rw (n, e)

-- a complete cluster has no merges
pub order_leaf : (x : ℕ) → order (leaf x) ≡ []
unfolding order ordered size
order_leaf x = refl
