-- The parts of a tree: the trees of its nodes. Main results: part_inside, part_size, part_distinct, part_turned, part_filled, part_own, part_ready.
use Rattle.std.specs.Prelude.{◌≡◌, refl, true, ℕ, ◌≤◌, min, max}
use Rattle.std.proofs.Common.{ap, inl, inr, ⊎_elim, arith}
use Rattle.rules.specs.Building.{Merge}
use Rattle.rules.specs.Tree.{Tree, leaf, node, Clusters, has, size, Distinct}
use Rattle.rules.specs.Order.{ready}
use Rattle.clades.specs.Leaves.{Inside}
use Rattle.clades.proofs.Leaves.{has_left, has_right, has_cases}
use Rattle.clades.specs.Form.{Turned}
use Rattle.growing.specs.Grown.{filled, graft}
use Rattle.growing.specs.Ready.{Ready}
use Rattle.growing.specs.Part.{Part}

part_whole : (t : Tree) → Part t t
unfolding Part
part_whole (leaf x) = refl
part_whole (node l r) = inl refl

pub part_inside : (s t : Tree) → Part s t → Inside s t
unfolding Part Inside has
part_inside s (leaf y) e x h = rw e at h
part_inside s (node l r) (inl e) x h = rw e at h
part_inside s (node l r) (inr (inl k)) x h = has_left l r x (part_inside s l k x h)
part_inside s (node l r) (inr (inr k)) x h = has_right l r x (part_inside s r k x h)

-- the two parts of a part
pub part_inside_both : (l r t : Tree) → Part (node l r) t → Inside l t × Inside r t
unfolding Inside has
part_inside_both l r t k =
    (λ x h. part_inside (node l r) t k x (has_left l r x h), λ x h. part_inside (node l r) t k x (has_right l r x h))

pub part_size : (s t : Tree) → Part s t → size s ≤ size t
unfolding Part size
part_size s (leaf y) e = omega (arith, ap size e)
part_size s (node l r) (inl e) = omega (arith, ap size e)
part_size s (node l r) (inr (inl k)) = omega (arith, part_size s l k)
part_size s (node l r) (inr (inr k)) = omega (arith, part_size s r k)

-- what a pair hands down to its two children, a tree hands down to all its parts
part_keeps : (Q : Tree → Type 0) → ((l r : Tree) → Q (node l r) → Q l × Q r) → (s t : Tree) → Part s t → Q t → Q s
unfolding Part
part_keeps Q down s (leaf y) e q = rw e q
part_keeps Q down s (node l r) (inl e) q = rw e q
part_keeps Q down s (node l r) (inr (inl k)) q = part_keeps Q down s l k (down l r q).0
part_keeps Q down s (node l r) (inr (inr k)) q = part_keeps Q down s r k (down l r q).1

pub part_distinct : (s t : Tree) → Part s t → Distinct t → Distinct s
unfolding Distinct
part_distinct = part_keeps Distinct (λ l r D. (D.1, D.2))

pub part_turned : (s t : Tree) → Part s t → Turned t → Turned s
unfolding Turned
part_turned = part_keeps Turned (λ l r T. (T.1, T.2))

pub part_filled : (c : Clusters) (s t : Tree) → Part s t → Part (filled c s) (filled c t)
unfolding Part filled
part_filled c s (leaf y) e = rw e (part_whole (c y))
part_filled c s (node l r) (inl e) = inl (ap (filled c) e)
part_filled c s (node l r) (inr (inl k)) = inr (inl (part_filled c s l k))
part_filled c s (node l r) (inr (inr k)) = inr (inr (part_filled c s r k))

-- the pair of a graft is a part
pub part_own : (m : Merge) (t : Tree) → has t m.0 ≡ true → Part (node (leaf m.0) (leaf m.1)) (graft m t)
unfolding Part graft has
part_own m (leaf x) e = rw e (inl refl)
part_own m (node l r) e = ⊎_elim (λ k. inr (inl (part_own m l k))) (λ k. inr (inr (part_own m r k))) (has_cases l r m.0 e)

-- two leaves that are a part are a ready pair
pub part_ready : (a b : ℕ) (t : Tree) → Part (node (leaf a) (leaf b)) t → Ready (min a b, max a b) t
unfolding Part Ready ready
part_ready a b (leaf x) e = absurd (let z : ◌≡◌ {A = ℕ} 0 1 = cc in omega arith)
part_ready a b (node l r) (inl e) =
    let p : l ≡ leaf a = cc in
    let q : r ≡ leaf b = cc in
    inl (rw (p, q))
part_ready a b (node l r) (inr (inl k)) = inr (inl (part_ready a b l k))
part_ready a b (node l r) (inr (inr k)) = inr (inr (part_ready a b r k))
