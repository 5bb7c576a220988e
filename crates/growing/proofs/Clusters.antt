-- Clusters put in for the leaves of a tree, where no leaf then stands twice: which parts of the filled tree are pairs of clusters.
-- Main results: filled_has, filled_one, clusters_ready.
use Rattle.std.specs.Prelude.{◌≡◌, ◌⊎◌}
use Rattle.std.proofs.Math.Path.{refl, sym, ap}
use Rattle.std.proofs.Common.{◌∙◌, arith}
use Rattle.std.proofs.Math.Logic.{inl, inr, ⊎_elim}
use Rattle.std.proofs.Math.Bool.{true}
use Prim.Native.Nat.{ℕ, min, max}
use borrow.Author.Tests.{eqb-true, eq-eqb}
use Rattle.rules.specs.Tree.{Tree, leaf, node, Clusters, has, least, size, Distinct}
use Rattle.clades.specs.Leaves.{Inside}
use Rattle.clades.proofs.Leaves.{has_left, has_right, has_cases, least_has, only_leaf}
use Rattle.clades.proofs.Size.{size_some}
use Rattle.growing.specs.Grown.{filled}
use Rattle.growing.specs.Ready.{Ready}
use Rattle.growing.specs.Part.{Part}
use Rattle.growing.proofs.Part.{part_inside_both, part_size, part_distinct, part_ready}

module _ (c : Clusters) where
  pub filled_has : (u : Tree) (x y : ℕ) → has u x ≡ true → has (c x) y ≡ true → has (filled c u) y ≡ true
  unfolding filled has
  filled_has (leaf z) x y h e = rw (eqb-true z x h) e
  filled_has (node l r) x y h e =
      ⊎_elim (λ k. has_left (filled c l) (filled c r) y (filled_has l x y k e))
      (λ k. has_right (filled c l) (filled c r) y (filled_has r x y k e)) (has_cases l r x h)

  -- a leaf is in one cluster only
  pub filled_one : (u : Tree) → Distinct (filled c u) → (a x y : ℕ) → has u a ≡ true → has u x ≡ true → has (c a) y ≡ true → has (c x) y ≡ true → a ≡ x
  unfolding filled has Distinct
  filled_one (leaf z) D a x y h k e f = sym (eqb-true z a h) ∙ eqb-true z x k
  filled_one (node l r) D a x y h k e f = go (has_cases l r a h) (has_cases l r x k) (filled_one l D.1 a x y) (filled_one r D.2 a x y)
    where
      go : (has l a ≡ true) ⊎ (has r a ≡ true) → (has l x ≡ true) ⊎ (has r x ≡ true)
          → (has l a ≡ true → has l x ≡ true → has (c a) y ≡ true → has (c x) y ≡ true → a ≡ x)
          → (has r a ≡ true → has r x ≡ true → has (c a) y ≡ true → has (c x) y ≡ true → a ≡ x) → a ≡ x
      go (inl p) (inl q) f₁ f₂ = f₁ p q e f
      go (inl p) (inr q) f₁ f₂ = absurd (D.0 y (filled_has l a y p e) (filled_has r x y q f))
      go (inr p) (inl q) f₁ f₂ = absurd (D.0 y (filled_has l x y q f) (filled_has r a y p e))
      go (inr p) (inr q) f₁ f₂ = f₂ p q e f

  -- where a part of a filled tree lies: in one cluster, or it is a fork of the tree, filled
  Lies : Tree → Tree → Type 0
  Lies s u = ((x : ℕ) × (has u x ≡ true) × Part s (c x)) ⊎ ((l : Tree) × (r : Tree) × Part (node l r) u × (s ≡ node (filled c l) (filled c r)))

  lies : (s u : Tree) → Part s (filled c u) → Lies s u
  unfolding Lies filled Part has
  lies s (leaf z) k = inl (z, eq-eqb z z refl, k)
  lies s (node l r) (inl e) = inr (l, r, inl refl, e)
  lies s (node l r) (inr (inl k)) =
      ⊎_elim (λ h. inl (h.0, has_left l r h.0 h.1, h.2)) (λ h. inr (h.0, h.1, inr (inl h.2), h.3)) (lies s l k)
  lies s (node l r) (inr (inr k)) =
      ⊎_elim (λ h. inl (h.0, has_right l r h.0 h.1, h.2)) (λ h. inr (h.0, h.1, inr (inr h.2), h.3)) (lies s r k)

  -- a part of the tree that is filled to one cluster is that cluster's leaf
  alone : (u : Tree) → Distinct u → Distinct (filled c u) → (a : ℕ) → has u a ≡ true → (l : Tree) → Distinct l → Inside l u → c a ≡ filled c l → l ≡ leaf a
  unfolding Inside
  alone u D E a h l Dl i e = only_leaf a l Dl (λ x k.
      sym (filled_one u E a x (least (c x)) h (i x k) (rw e (filled_has l x (least (c x)) k (least_has (c x)))) (least_has (c x))))

  -- a fork of the tree that is filled to two clusters is a ready pair
  two_clusters : (u : Tree) → Distinct u → Distinct (filled c u) → (a b : ℕ) → has u a ≡ true → has u b ≡ true
      → (l r : Tree) → Part (node l r) u → c a ≡ filled c l → c b ≡ filled c r → Ready (min a b, max a b) u
  unfolding Distinct
  two_clusters u D E a b h k l r p e f =
      let i = part_inside_both l r u p in
      let Dn = part_distinct (node l r) u p D in
      let q = alone u D E a h l Dn.1 i.0 e in
      let q' = alone u D E b k r Dn.2 i.1 f in
      part_ready a b u (rw (q, q') at p)

  -- a pair of clusters is not within one of them
  not_within : (u : Tree) → Distinct (filled c u) → (a b x : ℕ) → has u a ≡ true → has u x ≡ true → Part (node (c a) (c b)) (c x) → ⊥
  unfolding Inside size
  not_within u E a b x h k p =
      let y = least (c a) in
      let e : a ≡ x = filled_one u E a x y h k (least_has (c a)) ((part_inside_both (c a) (c b) (c x) p).0 y (least_has (c a))) in
      omega (arith, part_size (node (c a) (c b)) (c x) p, size_some (c b), ap (λ (z : ℕ). size (c z)) e)

  -- a pair of clusters that is a part of the filled tree is a ready pair of the tree
  pub clusters_ready : (u : Tree) → Distinct u → Distinct (filled c u) → (a b : ℕ) → has u a ≡ true → has u b ≡ true
      → Part (node (c a) (c b)) (filled c u) → Ready (min a b, max a b) u
  unfolding Lies
  clusters_ready u D E a b h k p = go (lies (node (c a) (c b)) u p)
    where
      go : Lies (node (c a) (c b)) u → Ready (min a b, max a b) u
      go (inl s) = absurd (not_within u E a b s.0 h s.1 s.2)
      go (inr s) =
          let q = s.3 in
          let e : c a ≡ filled c s.0 = cc in
          let f : c b ≡ filled c s.1 = cc in
          two_clusters u D E a b h k s.0 s.1 s.2 e f
