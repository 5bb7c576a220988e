-- The larger names of a tree: each of its inner nodes is the pair of exactly one of them. Main results: top_has, pair_has, pair_above, pair_of,
-- pair_apart, top_left, top_right.
use Rattle.std.specs.Prelude.{◌≡◌, refl, ◌≢◌, ◌⊎◌, Bool, true, false, ℕ, ◌<◌, min, max, eqb, ltb}
use Rattle.std.proofs.Common.{sym, inl, inr, arith, ltb-true, ltb-false, eqb-true}
use Rattle.std.proofs.lemmas.Bool.{eqb-false}
use Rattle.rules.specs.Tree.{Tree, leaf, node, has, least, Distinct}
use Rattle.basics.proofs.Bools.{or_cases}
use Rattle.clades.proofs.Leaves.{has_left, has_right, least_has, least_apart}
use Rattle.read_tables.specs.Larger.{Pair}

-- which of two numbers is the lesser
pub lesser : (a b : ℕ) → ((min a b ≡ a) × (max a b ≡ b)) ⊎ ((min a b ≡ b) × (max a b ≡ a))
lesser a b = go (ltb a b) refl
  where
    go : (t : Bool) → ltb a b ≡ t → ((min a b ≡ a) × (max a b ≡ b)) ⊎ ((min a b ≡ b) × (max a b ≡ a))
    go true q = let h = ltb-true a b q in inl (omega arith)
    go false q = let h = ltb-false a b q in inr (omega arith)

-- the larger name of a node's pair is one of its leaves
pub top_has : (l r : Tree) → has (node l r) (max (least l) (least r)) ≡ true
top_has l r = go (lesser (least l) (least r))
  where
    go : ((min (least l) (least r) ≡ least l) × (max (least l) (least r) ≡ least r)) ⊎ ((min (least l) (least r) ≡ least r) × (max (least l) (least r) ≡ least l))
        → has (node l r) (max (least l) (least r)) ≡ true
    go (inl k) = rw k.1 (has_right l r (least r) (least_has r))
    go (inr k) = rw k.1 (has_left l r (least l) (least_has l))

pub pair_has : (t : Tree) (i : ℕ) → Pair t i → has t i ≡ true
unfolding Pair
pair_has (leaf x) i p = absurd p
pair_has (node l r) i (inl e) = rw e at (top_has l r)
pair_has (node l r) i (inr (inl p)) = has_left l r i (pair_has l i p)
pair_has (node l r) i (inr (inr p)) = has_right l r i (pair_has r i p)

-- a larger name stands above the least leaf
pub pair_above : (t : Tree) (i : ℕ) → Distinct t → Pair t i → least t < i
unfolding Pair Distinct least
pair_above (leaf x) i D p = absurd p
pair_above (node l r) i D (inl e) = let k = least_apart l r D in omega arith
pair_above (node l r) i D (inr (inl p)) = omega (arith, pair_above l i D.1 p)
pair_above (node l r) i D (inr (inr p)) = omega (arith, pair_above r i D.2 p)

-- a node's own larger name is not one of its parts'
pub top_left : (l r : Tree) → Distinct (node l r) → Pair l (max (least l) (least r)) → ⊥
unfolding Distinct
top_left l r D p =
    let i = max (least l) (least r) in
    let h = pair_above l (max (least l) (least r)) D.1 p in
    let e : max (least l) (least r) ≡ least r = omega arith in
    D.0 (least r) (rw e at (pair_has l (max (least l) (least r)) p)) (least_has r)

pub top_right : (l r : Tree) → Distinct (node l r) → Pair r (max (least l) (least r)) → ⊥
unfolding Distinct
top_right l r D p =
    let h = pair_above r (max (least l) (least r)) D.2 p in
    let e : max (least l) (least r) ≡ least l = omega arith in
    D.0 (least l) (least_has l) (rw e at (pair_has r (max (least l) (least r)) p))

-- a pair is in one part only
pub pair_apart : (l r : Tree) (i : ℕ) → Distinct (node l r) → Pair l i → Pair r i → ⊥
unfolding Distinct
pair_apart l r i D p q = D.0 i (pair_has l i p) (pair_has r i q)

-- each leaf but the least is a larger name
pub pair_of : (t : Tree) (x : ℕ) → has t x ≡ true → x ≢ least t → Pair t x
unfolding has Pair least
pair_of (leaf y) x e k = absurd (k (sym (eqb-true y x e)))
pair_of (node l r) x e k = go (or_cases (has l x) (has r x) e) (eqb x (least l)) refl (eqb x (least r)) refl (pair_of l x) (pair_of r x)
  where
    go : (has l x ≡ true) ⊎ (has r x ≡ true) → (b : Bool) → eqb x (least l) ≡ b → (c : Bool) → eqb x (least r) ≡ c
        → (has l x ≡ true → x ≢ least l → Pair l x) → (has r x ≡ true → x ≢ least r → Pair r x)
        → (max (least l) (least r) ≡ x) ⊎ (Pair l x ⊎ Pair r x)
    go (inl h) true q c q' f g = inl (let e' = eqb-true x (least l) q in omega arith)
    go (inl h) false q c q' f g = inr (inl (f h (eqb-false x (least l) q)))
    go (inr h) b q true q' f g = inl (let e' = eqb-true x (least r) q' in omega arith)
    go (inr h) b q false q' f g = inr (inr (g h (eqb-false x (least r) q')))
