-- More on the chains of a tree: their length, their keys, and what a node has of its parts.
-- Main results: chain_short, falling_high, one_chain, smaller_less, smaller_cong, chain_of_left, chain_of_right.
use Rattle.std.specs.Prelude.{◌≡◌, refl, ◌⊎◌, Bool, true, false, cond, ℕ, zero, suc, ◌≤◌, ◌<◌, min, max, eqb, length}
use Rattle.std.proofs.Common.{sym, ◌∙◌, inl, inr, arith, length-append, eqb-true}
use Rattle.std.proofs.Math.Path.{ap}
use Rattle.std.proofs.Math.Logic.{⊎_elim}
use mathlib.Core.List.{List, [], ◌∷◌, ◌++◌, append-nil}
use Rattle.std.proofs.lemmas.Bool.{eqb-false}
use Rattle.rules.specs.Tree.{Tree, leaf, node, has, least, size, Distinct}
use Rattle.clades.proofs.Leaves.{least_apart}
use Rattle.read_tables.specs.Larger.{Pair}
use Rattle.read_tables.proofs.Larger.{pair_has, pair_apart, top_left, top_right}
use Rattle.read_tables.specs.Chains.{lowest, chain, falling, Smaller, In, Bounded}
use Rattle.read_tables.proofs.Chains.{bounded_left, bounded_right, in_cases, chain_own, chain_other, chain_in, chain_none}

-- a tree has fewer pairs than leaves
pub chain_short : (m : ℕ) (t : Tree) (k : ℕ) → length (chain m t k) < size t
unfolding chain size
chain_short m (leaf x) k = omega arith
chain_short m (node l r) k =
    let own : List ℕ = cond (eqb k (lowest m (node l r))) (max (least l) (least r) ∷ []) [] in
    omega (arith, length-append (chain m l k ++ chain m r k) own, length-append (chain m l k) (chain m r k), chain_short m l k, chain_short m r k, one (eqb k (lowest m (node l r))))
  where
    one : (b : Bool) → length (cond b (max (least l) (least r) ∷ []) []) ≤ 1
    one true = omega arith
    one false = omega arith

-- keys from n on without chains
pub falling_high : (c : ℕ → List ℕ) (n m : ℕ) → ((k : ℕ) → n ≤ k → c k ≡ []) → n ≤ m → falling c m ≡ falling c n
unfolding falling
falling_high c n zero f h = let e : n ≡ 0 = omega arith in rw e
falling_high c n (suc m) f h = go (eqb n (suc m)) refl (falling_high c n m f)
  where
    go : (b : Bool) → eqb n (suc m) ≡ b → (n ≤ m → falling c m ≡ falling c n) → falling c (suc m) ≡ falling c n
    go true q ih = ap (falling c) (sym (eqb-true n (suc m) q))
    go false q ih =
        let d = eqb-false n (suc m) q in
        let l : n ≤ m = omega arith in
        rw (f m l) (ih l)

-- a larger name is in one chain only
pub one_chain : (m : ℕ) (t : Tree) (j k x : ℕ) → Distinct t → In x (chain m t j) → In x (chain m t k) → j ≡ k
unfolding Distinct
one_chain m (leaf y) j k x D a b = unfold chain In in absurd a
one_chain m (node l r) j k x D a b =
    go (where_in j a) (where_in k b) (one_chain m l j k x D.1) (one_chain m r j k x D.2)
  where
    -- in one of the parts, or the node's own
    where_in : (k : ℕ) → In x (chain m (node l r) k) → (In x (chain m l k) ⊎ In x (chain m r k)) ⊎ ((x ≡ max (least l) (least r)) × (k ≡ lowest m (node l r)))
    where_in k h = test (eqb k (lowest m (node l r))) refl
      where
        own : In x (max (least l) (least r) ∷ []) → x ≡ max (least l) (least r)
        own i = unfold In in ⊎_elim (λ e. e) (λ e. absurd e) i

        test : (b : Bool) → eqb k (lowest m (node l r)) ≡ b → (In x (chain m l k) ⊎ In x (chain m r k)) ⊎ ((x ≡ max (least l) (least r)) × (k ≡ lowest m (node l r)))
        test true q =
            let e = eqb-true k (lowest m (node l r)) q in
            ⊎_elim (λ i. inl (in_cases x (chain m l k) (chain m r k) i)) (λ i. inr (own i, e))
            (in_cases x (chain m l k ++ chain m r k) (max (least l) (least r) ∷ []) (rw (chain_own m l r k e) at h))
        test false q = inl (in_cases x (chain m l k) (chain m r k) (rw (chain_other m l r k (eqb-false k (lowest m (node l r)) q)) at h))

    go : (In x (chain m l j) ⊎ In x (chain m r j)) ⊎ ((x ≡ max (least l) (least r)) × (j ≡ lowest m (node l r)))
        → (In x (chain m l k) ⊎ In x (chain m r k)) ⊎ ((x ≡ max (least l) (least r)) × (k ≡ lowest m (node l r)))
        → (In x (chain m l j) → In x (chain m l k) → j ≡ k) → (In x (chain m r j) → In x (chain m r k) → j ≡ k) → j ≡ k
    go (inl (inl p)) (inl (inl q)) f g = f p q
    go (inl (inl p)) (inl (inr q)) f g = absurd (pair_apart l r x D (chain_in m l j x p) (chain_in m r k x q))
    go (inl (inr p)) (inl (inl q)) f g = absurd (pair_apart l r x D (chain_in m l k x q) (chain_in m r j x p))
    go (inl (inr p)) (inl (inr q)) f g = g p q
    go (inl (inl p)) (inr q) f g = absurd (top_left l r D (rw q.0 at (chain_in m l j x p)))
    go (inl (inr p)) (inr q) f g = absurd (top_right l r D (rw q.0 at (chain_in m r j x p)))
    go (inr p) (inl (inl q)) f g = absurd (top_left l r D (rw p.0 at (chain_in m l k x q)))
    go (inr p) (inl (inr q)) f g = absurd (top_right l r D (rw p.0 at (chain_in m r k x q)))
    go (inr p) (inr q) f g = p.1 ∙ sym q.1

-- ---- smaller names
pub smaller_less : (s : ℕ → ℕ) (t : Tree) (x : ℕ) → Distinct t → Smaller s t → Pair t x → s x < x
unfolding Smaller Pair Distinct
smaller_less s (leaf y) x D S p = absurd p
smaller_less s (node l r) x D S (inl e) =
    let a = least_apart l r D in
    let b : s x ≡ min (least l) (least r) = rw (sym e) S.0 in
    omega arith
smaller_less s (node l r) x D S (inr (inl p)) = smaller_less s l x D.1 S.1 p
smaller_less s (node l r) x D S (inr (inr p)) = smaller_less s r x D.2 S.2 p

pub smaller_cong : (s s' : ℕ → ℕ) (t : Tree) → ((x : ℕ) → Pair t x → s' x ≡ s x) → Smaller s t → Smaller s' t
unfolding Smaller Pair
smaller_cong s s' (leaf y) h S = tt
smaller_cong s s' (node l r) h S = (
  h (max (least l) (least r)) (inl refl) ∙ S.0,
  smaller_cong s s' l (λ x p. h x (inr (inl p))) S.1,
  smaller_cong s s' r (λ x p. h x (inr (inr p))) S.2,
)

-- ---- the chains of a node's parts
module _ (m : ℕ) (l r : Tree) (D : Distinct (node l r)) (B : Bounded m (node l r)) (x : ℕ) where
  -- a leaf of one part has its chain there
  pub chain_of_left : has l x ≡ true → chain m l x ++ chain m r x ≡ chain m l x
  unfolding Distinct
  chain_of_left h =
      ap (λ (c : List ℕ). chain m l x ++ c) (chain_none m r x D.2 (bounded_right m l r B) (λ p. D.0 x h (pair_has r x p))) ∙ append-nil (chain m l x)

  pub chain_of_right : has r x ≡ true → chain m l x ++ chain m r x ≡ chain m r x
  unfolding Distinct
  chain_of_right h = ap (λ (c : List ℕ). c ++ chain m r x) (chain_none m l x D.1 (bounded_left m l r B) (λ p. D.0 x (pair_has l x p) h))
