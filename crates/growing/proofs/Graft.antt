-- A graft and the ready pairs: a merge undoes its graft, which brings its own pair and takes those with its smaller name.
-- Main results: collapse_graft, ready_graft, ready_own.
use Rattle.std.specs.Prelude.{◌≡◌, ◌≢◌, ◌⊎◌, Bool, true, false, cond, ℕ, ◌<◌, min, max, eqb}
use Rattle.std.proofs.Math.Path.{refl}
use Rattle.std.proofs.Common.{sym, ap, ap₂, ◌∙◌, inl, inr, ⊎_elim, arith, eqb-true}
use Rattle.std.proofs.Math.Option.{some, some-injective}
use Rattle.std.proofs.lemmas.Bool.{eqb-false}
use Rattle.rules.specs.Building.{Merge}
use Rattle.rules.specs.Tree.{Tree, leaf, node, has}
use Rattle.rules.specs.Order.{ready, collapse}
use Rattle.clades.proofs.Leaves.{has_cases}
use Rattle.growing.specs.Grown.{graft}
use Rattle.growing.specs.Ready.{Ready, Sides}
use Rattle.growing.proofs.Ready.{ready_sides}
use Rattle.growing.specs.Collapse.{Cases, Clear}
use Rattle.growing.proofs.Collapse.{collapse_cases, collapse_here}

pair_ready : (m : Merge) → m.0 < m.1 → ready (leaf m.0) (leaf m.1) ≡ some m
unfolding ready
pair_ready m h =
    let a : min m.0 m.1 ≡ m.0 = omega arith in
    let b : max m.0 m.1 ≡ m.1 = omega arith in
    ap some (ap₂ (λ (x y : ℕ). (x, y)) a b)

-- a leaf of a graft is one of the tree, and not the one that was grafted on
leaf_grafted : (m : Merge) (t : Tree) (x : ℕ) → graft m t ≡ leaf x → (t ≡ leaf x) × (x ≢ m.0)
unfolding graft
leaf_grafted m (leaf y) x e = go (eqb y m.0) refl e
  where
    go : (b : Bool) → eqb y m.0 ≡ b → cond b (node (leaf m.0) (leaf m.1)) (leaf y) ≡ leaf x → (leaf y ≡ leaf x) × (x ≢ m.0)
    go true q p = absurd (let z : ◌≡◌ {A = ℕ} 0 1 = cc in omega arith)
    go false q p = (p, λ k. let s : y ≡ x = cc in eqb-false y m.0 q (s ∙ k))
leaf_grafted m (node l r) x e = absurd (let z : ◌≡◌ {A = ℕ} 0 1 = cc in omega arith)

-- a pair ready at a node of a graft was ready at that node
graft_node : (m p : Merge) (l r : Tree) → ready (graft m l) (graft m r) ≡ some p → (ready l r ≡ some p) × Clear m p
unfolding Sides Clear
graft_node m p l r e = go (ready_sides p (graft m l) (graft m r) e).1
  where
    whole : graft m l ≡ l → graft m r ≡ r → ready l r ≡ some p
    whole a b = ap₂ ready (sym a) (sym b) ∙ e

    go : Sides p (graft m l) (graft m r) → (ready l r ≡ some p) × Clear m p
    go (inl s) = let a = leaf_grafted m l p.0 s.0 in let b = leaf_grafted m r p.1 s.1 in
        (whole (s.0 ∙ sym a.0) (s.1 ∙ sym b.0), (a.1, b.1))
    go (inr s) = let a = leaf_grafted m l p.1 s.0 in let b = leaf_grafted m r p.0 s.1 in
        (whole (s.0 ∙ sym a.0) (s.1 ∙ sym b.0), (b.1, a.1))

-- the ready pairs of a graft: its own, and those of the tree that have nothing of it
pub ready_graft : (m p : Merge) → m.0 < m.1 → (t : Tree) → Ready p (graft m t) → (p ≡ m) ⊎ (Ready p t × Clear m p)
unfolding Ready graft
ready_graft m p h (leaf x) k = go (eqb x m.0) k
  where
    go : (b : Bool) → Ready p (cond b (node (leaf m.0) (leaf m.1)) (leaf x)) → (p ≡ m) ⊎ (⊥ × Clear m p)
    go true (inl e) = inl (some-injective p m (sym e ∙ pair_ready m h))
    go true (inr (inl z)) = absurd z
    go true (inr (inr z)) = absurd z
    go false z = absurd z
ready_graft m p h (node l r) (inl e) = let k = graft_node m p l r e in inr (inl k.0, k.1)
ready_graft m p h (node l r) (inr (inl k)) = ⊎_elim (λ q. inl q) (λ q. inr (inr (inl q.0), q.1)) (ready_graft m p h l k)
ready_graft m p h (node l r) (inr (inr k)) = ⊎_elim (λ q. inl q) (λ q. inr (inr (inr q.0), q.1)) (ready_graft m p h r k)

pub ready_own : (m : Merge) → m.0 < m.1 → (t : Tree) → has t m.0 ≡ true → Ready m (graft m t)
unfolding Ready graft has
ready_own m h (leaf x) e = rw e (inl (pair_ready m h))
ready_own m h (node l r) e =
    ⊎_elim (λ k. inr (inl (ready_own m h l k))) (λ k. inr (inr (ready_own m h r k))) (has_cases l r m.0 e)

-- a merge undoes its graft
pub collapse_graft : (m : Merge) → m.0 < m.1 → (t : Tree) → collapse m (graft m t) ≡ t
unfolding graft Clear
collapse_graft m h (leaf x) = go (eqb x m.0) refl
  where
    go : (b : Bool) → eqb x m.0 ≡ b → collapse m (cond b (node (leaf m.0) (leaf m.1)) (leaf x)) ≡ leaf x
    go true q = collapse_here m (leaf m.0) (leaf m.1) (pair_ready m h) ∙ ap leaf (sym (eqb-true x m.0 q))
    go false q = unfold collapse in refl
collapse_graft m h (node l r) = go (collapse_cases m (graft m l) (graft m r)) (collapse_graft m h l) (collapse_graft m h r)
  where
    go : Cases m (graft m l) (graft m r) → collapse m (graft m l) ≡ l → collapse m (graft m r) ≡ r → collapse m (node (graft m l) (graft m r)) ≡ node l r
    go (inl e) a b = absurd ((graft_node m m l r e.0).1.0 refl)
    go (inr e) a b = e ∙ ap₂ node a b
