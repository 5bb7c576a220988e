-- The tree that merges build. The first merge (a, i) makes of the leaf a of the tree of the others the parts a and i. Main results: grown_filled,
-- grown_graft, grown_append, grown_keeps, has_grown, distinct_grown, form_grown, least_grown, size_grown, grown_below.
use Rattle.std.specs.Prelude.{◌≡◌, ◌≢◌, ◌⊎◌, Bool, true, ◌&&◌, ◌||◌, cond, List, [], ◌∷◌, ◌++◌, ℕ, suc, ◌+◌, ◌<◌, min, eqb, ltb, length}
use Rattle.std.proofs.Math.Path.{refl}
use Rattle.std.proofs.Common.{sym, ap, ap₂, ◌∙◌, inl, inr, ⊎_elim, true≢false, arith, eqb-true, lt-ltb}
use Rattle.std.proofs.Math.Bool.{false}
use Rattle.rules.specs.Building.{Merge}
use Rattle.rules.specs.Tree.{Tree, leaf, node, Clusters, joined, grown, has, least, size, Distinct, LeavesBelow}
use Rattle.basics.proofs.Bools.{or_cases, or_no, or_false, and_left, and_right}
use Rattle.clades.proofs.Leaves.{has_left, lacks}
use Rattle.clades.specs.Form.{join, form}
use Rattle.merging.specs.Named.{named, Good, Rising}
use Rattle.growing.specs.Grown.{filled, graft}

filled_cong : (c d : Clusters) → ((x : ℕ) → c x ≡ d x) → (t : Tree) → filled c t ≡ filled d t
unfolding filled
filled_cong c d e (leaf x) = e x
filled_cong c d e (node l r) = ap₂ node (filled_cong c d e l) (filled_cong c d e r)

filled_filled : (c d : Clusters) (t : Tree) → filled c (filled d t) ≡ filled (λ x. filled c (d x)) t
unfolding filled
filled_filled c d (leaf x) = refl
filled_filled c d (node l r) = ap₂ node (filled_filled c d l) (filled_filled c d r)

-- to fill in a graft is to fill in the merged clusters
filled_graft : (m : Merge) (c : Clusters) (t : Tree) → filled c (graft m t) ≡ filled (joined m c) t
unfolding graft filled joined
filled_graft m c t = filled_filled c (joined m leaf) t ∙ filled_cong (λ x. filled c (joined m leaf x)) (joined m c) (λ x. go x (eqb x m.0)) t
  where
    go : (x : ℕ) (b : Bool) → filled c (cond b (node (leaf m.0) (leaf m.1)) (leaf x)) ≡ cond b (node (c m.0) (c m.1)) (c x)
    go x true = refl
    go x false = refl

-- the clusters after some merges are those of single leaves, filled in
pub grown_filled : (P : List Merge) (c : Clusters) (x : ℕ) → grown P c x ≡ filled c (grown P leaf x)
unfolding grown filled graft
grown_filled [] c x = refl
grown_filled (m ∷ P) c x =
    grown_filled P (joined m c) x ∙ sym (filled_graft m c (grown P leaf x)) ∙ ap (filled c) (sym (grown_filled P (joined m leaf) x))

pub grown_graft : (m : Merge) (P : List Merge) (x : ℕ) → grown (m ∷ P) leaf x ≡ graft m (grown P leaf x)
unfolding grown graft
grown_graft m P x = grown_filled P (joined m leaf) x

pub grown_append : (Q R : List Merge) (c : Clusters) → grown (Q ++ R) c ≡ grown R (grown Q c)
unfolding grown
grown_append [] R c = refl
grown_append (m ∷ Q) R c = grown_append Q R (joined m c)

-- a cluster keeps its leaves
pub grown_keeps : (Q : List Merge) (c : Clusters) (x y : ℕ) → has (c x) y ≡ true → has (grown Q c x) y ≡ true
unfolding grown joined has
grown_keeps [] c x y h = h
grown_keeps (m ∷ Q) c x y h = grown_keeps Q (joined m c) x y (go (eqb x m.0) refl)
  where
    go : (b : Bool) → eqb x m.0 ≡ b → has (cond b (node (c m.0) (c m.1)) (c x)) y ≡ true
    go true q = has_left (c m.0) (c m.1) y (rw (eqb-true x m.0 q) at h)
    go false q = h

mix : (a p b q x : Bool) → (a || p && x) || (b || q && x) ≡ (a || b) || ((p || q) && x)
mix true p b q x = refl
mix false false b q x = refl
mix false true true q true = refl
mix false true true q false = refl
mix false true false q true = refl
mix false true false true false = refl
mix false true false false false = refl

pub has_graft : (m : Merge) (t : Tree) (x : ℕ) → has (graft m t) x ≡ has t x || (has t m.0 && eqb m.1 x)
unfolding has graft
has_graft m (leaf y) x = go (eqb y m.0) refl
  where
    go : (b : Bool) → eqb y m.0 ≡ b → has (cond b (node (leaf m.0) (leaf m.1)) (leaf y)) x ≡ eqb y x || (b && eqb m.1 x)
    go true q = rw (eqb-true y m.0 q)
    go false q = sym (or_false (eqb y x))
has_graft m (node l r) x = rw (has_graft m l x, has_graft m r x) (mix (has l x) (has l m.0) (has r x) (has r m.0) (eqb m.1 x))

pub has_grown : (P : List Merge) → Good P → (x : ℕ) → has (grown P leaf 0) x ≡ named P x
unfolding Good named
has_grown [] G x = unfold has grown in refl
has_grown (m ∷ P) G x = rw (grown_graft m P 0, has_graft m (grown P leaf 0) x, has_grown P G.2 x, has_grown P G.2 m.0, G.0)

-- a tree without the leaf is as it was
pub graft_other : (m : Merge) (t : Tree) → has t m.0 ≡ false → graft m t ≡ t
unfolding graft has
graft_other m (leaf x) e = rw e
graft_other m (node l r) e = let k = or_no (has l m.0) (has r m.0) e in ap₂ node (graft_other m l k.0) (graft_other m r k.1)

pub least_graft : (m : Merge) → m.0 < m.1 → (t : Tree) → least (graft m t) ≡ least t
unfolding least graft
least_graft m h (leaf x) = go (eqb x m.0) refl
  where
    go : (b : Bool) → eqb x m.0 ≡ b → least (cond b (node (leaf m.0) (leaf m.1)) (leaf x)) ≡ x
    go true q = omega (arith, eqb-true x m.0 q)
    go false q = refl
least_graft m h (node l r) = ap₂ min (least_graft m h l) (least_graft m h r)

pub join_graft : (m : Merge) → m.0 < m.1 → (l r : Tree) → join (graft m l) (graft m r) ≡ graft m (join l r)
unfolding join graft
join_graft m h l r = rw (least_graft m h l, least_graft m h r) (go (ltb (least l) (least r)))
  where
    go : (b : Bool) → cond b (node (graft m l) (graft m r)) (node (graft m r) (graft m l)) ≡ graft m (cond b (node l r) (node r l))
    go true = refl
    go false = refl

form_graft : (m : Merge) → m.0 < m.1 → (t : Tree) → form (graft m t) ≡ graft m (form t)
unfolding form graft
form_graft m h (leaf x) = go (eqb x m.0)
  where
    go : (b : Bool) → form (cond b (node (leaf m.0) (leaf m.1)) (leaf x)) ≡ cond b (node (leaf m.0) (leaf m.1)) (leaf x)
    go true = unfold join least in rw (lt-ltb m.0 m.1 h)
    go false = refl
form_graft m h (node l r) = ap₂ join (form_graft m h l) (form_graft m h r) ∙ join_graft m h (form l) (form r)

-- merges build a tree whose smaller least leaves stand first
pub form_grown : (P : List Merge) → Rising P → form (grown P leaf 0) ≡ grown P leaf 0
unfolding Rising
form_grown [] g = unfold form grown in refl
form_grown (m ∷ P) g = rw (grown_graft m P 0, form_graft m g.0 (grown P leaf 0), form_grown P g.1)

-- each cluster has the name of its least leaf
pub least_grown : (P : List Merge) → Rising P → (x : ℕ) → least (grown P leaf x) ≡ x
unfolding Rising
least_grown [] g x = unfold least grown in refl
least_grown (m ∷ P) g x = rw (grown_graft m P x, least_graft m g.0 (grown P leaf x)) (least_grown P g.1 x)

-- where a leaf of a graft comes from
in_graft : (m : Merge) (t : Tree) (x : ℕ) → has (graft m t) x ≡ true → (has t x ≡ true) ⊎ ((has t m.0 ≡ true) × (m.1 ≡ x))
in_graft m t x e =
    ⊎_elim (λ k. inl k) (λ k. inr (and_left (has t m.0) (eqb m.1 x) k, eqb-true m.1 x (and_right (has t m.0) (eqb m.1 x) k)))
    (or_cases (has t x) (has t m.0 && eqb m.1 x) (sym (has_graft m t x) ∙ e))

distinct_graft : (m : Merge) (t : Tree) → m.0 ≢ m.1 → has t m.1 ≡ false → Distinct t → Distinct (graft m t)
unfolding Distinct graft has
distinct_graft m (leaf x) ne h D = go (eqb x m.0)
  where
    go : (b : Bool) → Distinct (cond b (node (leaf m.0) (leaf m.1)) (leaf x))
    go true = (λ y p q. ne (eqb-true m.0 y p ∙ sym (eqb-true m.1 y q)), tt, tt)
    go false = tt
distinct_graft m (node l r) ne h D =
    let k = or_no (has l m.1) (has r m.1) h in
    (λ x p q. clash x k (in_graft m l x p) (in_graft m r x q), distinct_graft m l ne k.0 D.1, distinct_graft m r ne k.1 D.2)
  where
    clash : (x : ℕ) → (has l m.1 ≡ false) × (has r m.1 ≡ false)
        → (has l x ≡ true) ⊎ ((has l m.0 ≡ true) × (m.1 ≡ x)) → (has r x ≡ true) ⊎ ((has r m.0 ≡ true) × (m.1 ≡ x)) → ⊥
    clash x k (inl p) (inl q) = D.0 x p q
    clash x k (inl p) (inr q) = true≢false (sym p ∙ ap (has l) (sym q.1) ∙ k.0)
    clash x k (inr p) (inl q) = true≢false (sym q ∙ ap (has r) (sym p.1) ∙ k.1)
    clash x k (inr p) (inr q) = D.0 m.0 p.0 q.0

pub distinct_grown : (P : List Merge) → Rising P → Good P → Distinct (grown P leaf 0)
unfolding Rising Good
distinct_grown [] g G = unfold Distinct grown in tt
distinct_grown (m ∷ P) g G =
    let l = g.0 in rw (grown_graft m P 0) (distinct_graft m (grown P leaf 0) (omega arith) (has_grown P G.2 m.1 ∙ G.1) (distinct_grown P g.1 G.2))

-- a graft brings one leaf more
pub size_graft : (m : Merge) (t : Tree) → Distinct t → has t m.0 ≡ true → size (graft m t) ≡ suc (size t)
unfolding graft size has Distinct
size_graft m (leaf x) D h = rw h
size_graft m (node l r) D h = go (has l m.0) refl (size_graft m l D.1) (size_graft m r D.2)
  where
    go : (b : Bool) → has l m.0 ≡ b → (has l m.0 ≡ true → size (graft m l) ≡ suc (size l)) → (has r m.0 ≡ true → size (graft m r) ≡ suc (size r))
        → size (graft m l) + size (graft m r) ≡ suc (size l + size r)
    go true q f g = rw (graft_other m r (lacks l r D m.0 q)) (omega (arith, f q))
    go false q f g = rw (graft_other m l q) (omega (arith, g (rw q at h)))

pub size_grown : (P : List Merge) → Rising P → Good P → size (grown P leaf 0) ≡ suc (length P)
unfolding Rising Good
size_grown [] g G = unfold size grown in refl
size_grown (m ∷ P) g G =
    rw (grown_graft m P 0) (size_graft m (grown P leaf 0) (distinct_grown P g.1 G.2) (has_grown P G.2 m.0 ∙ G.0) ∙ ap suc (size_grown P g.1 G.2))

pub grown_below : (n : ℕ) (P : List Merge) → Rising P → Good P → ((x : ℕ) → named P x ≡ ltb x n) → LeavesBelow n (grown P leaf 0)
grown_below n P g G e = record { once = distinct_grown P g G; all = λ x. has_grown P G x ∙ e x }
