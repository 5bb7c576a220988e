-- The inner leaf sets of a tree: they are the numbers of its clades of two leaves or more, n-1 of them, pairwise different. Main results:
-- inner_clades, pair_occurs, inner_length, inner_different, inner_node, inner_lt.
use Rattle.std.specs.Prelude.{◌≡◌, refl, ◌⊎◌, ◌↔◌, Bool, true, false, ◌||◌, List, [], ◌∷◌, ◌++◌, ℕ, ◌+◌, ◌^◌, ◌≤◌, ◌<◌, eqb, length}
use Rattle.std.proofs.Common.{sym, ap, ◌∙◌, inl, ⊎_elim, true≢false, arith, pow_pos, length-append, ltb-true, eqb-true, eq-eqb}
use Rattle.std.proofs.Math.Logic.{inr}
use Rattle.std.specs.Int.Count.{ones}
use Rattle.rules.specs.Building.{member}
use Rattle.rules.specs.Tree.{Tree, leaf, node, has, size, least, Distinct, LeavesBelow, Clade}
use Rattle.rules.specs.CladeTable.{leaf_set, inner}
use Rattle.basics.proofs.Bools.{or_cases, or_left, or_right}
use Rattle.basics.proofs.Cases.{by_test}
use Rattle.clades.proofs.Leaves.{has_left, has_right, least_has, least_apart}
use Rattle.clades.proofs.Same.{clade_in, clade_some, clade_cong}
use Rattle.clades.proofs.Size.{size_some}
use Rattle.clade_laws.specs.Numbers.{Stands}
use Rattle.clade_laws.proofs.Numbers.{leaf_bit, bits_equal, ones_size, number_lt}
use Rattle.clade_laws.specs.Inner.{TwoOrMore, CladeNumber, Different, PairIn}

pub member_append : (m : ℕ) (a b : List ℕ) → member m (a ++ b) ≡ member m a || member m b
unfolding member
member_append m [] b = refl
member_append m (x ∷ a) b = rw (member_append m a b) (assoc (eqb m x) (member m a) (member m b))
  where
    assoc : (p q r : Bool) → p || (q || r) ≡ (p || q) || r
    assoc true q r = refl
    assoc false q r = refl

pub member_head : (m : ℕ) (l : List ℕ) → member m (m ∷ l) ≡ true
unfolding member
member_head m l = or_left (eqb m m) (member m l) (eq-eqb m m refl)

pub member_tail : (m k : ℕ) (l : List ℕ) → member m l ≡ true → member m (k ∷ l) ≡ true
unfolding member
member_tail m k l e = or_right (eqb m k) (member m l) e

pub member_cases : (m k : ℕ) (l : List ℕ) → member m (k ∷ l) ≡ true → (m ≡ k) ⊎ (member m l ≡ true)
unfolding member
member_cases m k l e = ⊎_elim (λ p. inl (eqb-true m k p)) (λ p. inr p) (or_cases (eqb m k) (member m l) e)

pub append_cases : (m : ℕ) (a b : List ℕ) → member m (a ++ b) ≡ true → (member m a ≡ true) ⊎ (member m b ≡ true)
append_cases m a b e = or_cases (member m a) (member m b) (sym (member_append m a b) ∙ e)

pub append_left : (m : ℕ) (a b : List ℕ) → member m a ≡ true → member m (a ++ b) ≡ true
append_left m a b e = member_append m a b ∙ or_left (member m a) (member m b) e

pub append_right : (m : ℕ) (a b : List ℕ) → member m b ≡ true → member m (a ++ b) ≡ true
append_right m a b e = member_append m a b ∙ or_right (member m a) (member m b) e

-- the inner sets of a pair
inner_cases : (l r : Tree) (m : ℕ) → member m (inner (node l r)) ≡ true
    → (m ≡ leaf_set (node l r)) ⊎ ((member m (inner l) ≡ true) ⊎ (member m (inner r) ≡ true))
unfolding inner
inner_cases l r m e = ⊎_elim (λ p. inl p) (λ p. inr (append_cases m (inner l) (inner r) p)) (member_cases m (leaf_set (node l r)) (inner l ++ inner r) e)

-- each is the number of a clade
inner_clade : (t : Tree) → Distinct t → (m : ℕ) → member m (inner t) ≡ true → CladeNumber t m
unfolding CladeNumber Clade TwoOrMore Distinct inner member
inner_clade (leaf x) D m e = absurd (true≢false (sym e))
inner_clade (node l r) D m e = go (inner_clade l D.1 m) (inner_clade r D.2 m) (inner_cases l r m e)
  where
    go : (member m (inner l) ≡ true → CladeNumber l m) → (member m (inner r) ≡ true → CladeNumber r m)
        → (m ≡ leaf_set (node l r)) ⊎ ((member m (inner l) ≡ true) ⊎ (member m (inner r) ≡ true)) → CladeNumber (node l r) m
    go f g (inl p) = (
      has (node l r),
      inl (λ x. refl),
      (least l, least r, least_apart l r D, has_left l r (least l) (least_has l), has_right l r (least r) (least_has r)),
      rw p (leaf_bit (node l r) D),
    )
    go f g (inr (inl p)) = let k = f p in (k.0, inr (inl k.1), k.2, k.3)
    go f g (inr (inr p)) = let k = g p in (k.0, inr (inr k.1), k.2, k.3)

-- each number of a clade is one
clade_inner : (t : Tree) → Distinct t → (m : ℕ) (c : ℕ → Bool) → Clade t c → TwoOrMore c → Stands m c → member m (inner t) ≡ true
unfolding Clade TwoOrMore Stands inner Distinct has
clade_inner (leaf y) D m c k w s =
    absurd (w.2 (sym (eqb-true y w.0 (sym (k w.0) ∙ w.3)) ∙ eqb-true y w.1 (sym (k w.1) ∙ w.4)))
clade_inner (node l r) D m c (inl k) w s =
    let e : m ≡ leaf_set (node l r) = bits_equal m (leaf_set (node l r)) (λ x. s x ∙ k x ∙ sym (leaf_bit (node l r) D x)) in
    rw e (member_head (leaf_set (node l r)) (inner l ++ inner r))
clade_inner (node l r) D m c (inr (inl k)) w s =
    member_tail m (leaf_set (node l r)) (inner l ++ inner r) (append_left m (inner l) (inner r) (clade_inner l D.1 m c k w s))
clade_inner (node l r) D m c (inr (inr k)) w s =
    member_tail m (leaf_set (node l r)) (inner l ++ inner r) (append_right m (inner l) (inner r) (clade_inner r D.2 m c k w s))

-- the inner sets are exactly the numbers of the clades of two leaves or more
pub inner_clades : (t : Tree) → Distinct t → (m : ℕ) → (member m (inner t) ≡ true) ↔ CladeNumber t m
unfolding CladeNumber
inner_clades t D m = (inner_clade t D m, λ k. clade_inner t D m k.0 k.1 k.2 k.3)

-- "trees times (n-1)": a tree of n leaves has n-1 of them
pub inner_length : (t : Tree) → length (inner t) + 1 ≡ size t
unfolding inner size
inner_length (leaf x) = omega arith
inner_length (node l r) = omega (arith, length-append (inner l) (inner r), inner_length l, inner_length r)

pub set_some : (t : Tree) → 1 ≤ leaf_set t
unfolding leaf_set
set_some (leaf x) = omega (arith, pow_pos x)
set_some (node l r) = omega (arith, set_some l)

inner_le : (t : Tree) (m : ℕ) → member m (inner t) ≡ true → m ≤ leaf_set t
unfolding inner member leaf_set
inner_le (leaf x) m e = absurd (true≢false (sym e))
inner_le (node l r) m e = go (inner_le l m) (inner_le r m) (inner_cases l r m e)
  where
    go : (member m (inner l) ≡ true → m ≤ leaf_set l) → (member m (inner r) ≡ true → m ≤ leaf_set r)
        → (m ≡ leaf_set (node l r)) ⊎ ((member m (inner l) ≡ true) ⊎ (member m (inner r) ≡ true)) → m ≤ leaf_set l + leaf_set r
    go f g (inl p) = omega (arith, p)
    go f g (inr (inl p)) = omega (arith, f p)
    go f g (inr (inr p)) = omega (arith, g p)

pub inner_some : (t : Tree) (m : ℕ) → member m (inner t) ≡ true → 1 ≤ m
unfolding inner member
inner_some (leaf x) m e = absurd (true≢false (sym e))
inner_some (node l r) m e = go (inner_some l m) (inner_some r m) (inner_cases l r m e)
  where
    go : (member m (inner l) ≡ true → 1 ≤ m) → (member m (inner r) ≡ true → 1 ≤ m)
        → (m ≡ leaf_set (node l r)) ⊎ ((member m (inner l) ≡ true) ⊎ (member m (inner r) ≡ true)) → 1 ≤ m
    go f g (inl p) = omega (arith, p, set_some (node l r))
    go f g (inr (inl p)) = f p
    go f g (inr (inr p)) = g p

-- two parts have no inner set in common
inner_apart : (l r : Tree) → Distinct (node l r) → (m : ℕ) → member m (inner l) ≡ true → member m (inner r) ≡ true → ⊥
unfolding Distinct CladeNumber Stands
inner_apart l r D m p q =
    let a : CladeNumber l m = inner_clade l D.1 m p in
    let b : CladeNumber r m = inner_clade r D.2 m q in
    let w : (x : ℕ) × (a.0 x ≡ true) = clade_some a.0 l a.1 in
    D.0 w.0 (clade_in a.0 l a.1 w.0 w.1) (clade_in b.0 r b.1 w.0 (sym (b.3 w.0) ∙ a.3 w.0 ∙ w.1))

pub different_append : (a b : List ℕ) → Different a → Different b → ((m : ℕ) → member m a ≡ true → member m b ≡ true → ⊥) → Different (a ++ b)
unfolding Different
different_append [] b p q h = q
different_append (m ∷ a) b p q h = (
  by_test (member m (a ++ b)) (λ e. absurd (go (append_cases m a b e))) (λ e. e),
  different_append a b p.1 q (λ k f g. h k (member_tail k m a f) g),
)
  where
    go : (member m a ≡ true) ⊎ (member m b ≡ true) → ⊥
    go (inl e) = true≢false (sym e ∙ p.0)
    go (inr e) = h m (member_head m a) e

-- within one tree with distinct leaves the inner sets are pairwise different
pub inner_different : (t : Tree) → Distinct t → Different (inner t)
unfolding Different inner Distinct leaf_set
inner_different (leaf x) D = tt
inner_different (node l r) D = (
  by_test (member (leaf_set (node l r)) (inner l ++ inner r))
      (λ e. absurd (go (append_cases (leaf_set (node l r)) (inner l) (inner r) e))) (λ e. e),
  different_append (inner l) (inner r) (inner_different l D.1) (inner_different r D.2) (inner_apart l r D),
)
  where
    go : (member (leaf_set (node l r)) (inner l) ≡ true) ⊎ (member (leaf_set (node l r)) (inner r) ≡ true) → ⊥
    go (inl e) = omega (arith, inner_le l (leaf_set (node l r)) e, set_some r)
    go (inr e) = omega (arith, inner_le r (leaf_set (node l r)) e, set_some l)

-- each inner set is that of a node, and its number of bits is the node's number of leaves, two or more
pub inner_node : (t : Tree) → Distinct t → (m : ℕ) → member m (inner t) ≡ true
    → (u : Tree) × PairIn u t × (leaf_set u ≡ m) × (ones m ≡ size u) × (2 ≤ size u)
unfolding PairIn inner member Distinct
inner_node (leaf x) D m e = absurd (true≢false (sym e))
inner_node (node l r) D m e = go (inner_node l D.1 m) (inner_node r D.2 m) (inner_cases l r m e)
  where
    Node : Tree → Type 0
    Node t = (u : Tree) × PairIn u t × (leaf_set u ≡ m) × (ones m ≡ size u) × (2 ≤ size u)

    go : (member m (inner l) ≡ true → Node l) → (member m (inner r) ≡ true → Node r)
        → (m ≡ leaf_set (node l r)) ⊎ ((member m (inner l) ≡ true) ⊎ (member m (inner r) ≡ true)) → Node (node l r)
    go f g (inl p) = (node l r, inl refl, sym p, ap ones p ∙ ones_size (node l r) D, unfold size in omega (arith, size_some l, size_some r))
    go f g (inr (inl p)) = let k = f p in (k.0, inr (inl k.1), k.2, k.3, k.4)
    go f g (inr (inr p)) = let k = g p in (k.0, inr (inr k.1), k.2, k.3, k.4)

-- with leaves below n each is below 2^n: for n up to 64 it fits 64 bits
pub inner_lt : (n : ℕ) (t : Tree) → LeavesBelow n t → (m : ℕ) → member m (inner t) ≡ true → m < 2 ^ n
inner_lt n t L m e =
    omega (arith, inner_le t m e, number_lt n t L.once (λ x h. ltb-true x n (sym (L.all x) ∙ h)))

-- a pair's leaf set is among those of t exactly when its leaves are a clade of t
pub pair_occurs : (t l r : Tree) → Distinct t → Distinct (node l r) → (member (leaf_set (node l r)) (inner t) ≡ true) ↔ Clade t (has (node l r))
unfolding CladeNumber TwoOrMore Stands
pair_occurs t l r D E = (
  λ e. let k : CladeNumber t (leaf_set (node l r)) = inner_clade t D (leaf_set (node l r)) e in
      clade_cong k.0 (has (node l r)) t (λ x. sym (leaf_bit (node l r) E x) ∙ k.3 x) k.1,
  λ c. clade_inner t D (leaf_set (node l r)) (has (node l r)) c
      (least l, least r, least_apart l r E, has_left l r (least l) (least_has l), has_right l r (least r) (least_has r)) (leaf_bit (node l r) E),
)
