-- The order of a tree's merges by chains: pairs merge by the falling least larger name under them, and those of one such name from the bottom up.
-- Main results: chain_starts, lowest_starts, chain_in, chain_none, falling_in, in_falling.
use Rattle.std.specs.Prelude.{◌≡◌, ◌≢◌, ◌⊎◌, Bool, true, false, cond, List, [], ◌∷◌, ◌++◌, ℕ, zero, suc, ◌≤◌, ◌<◌, min, max, eqb}
use Rattle.std.proofs.Math.Path.{refl}
use Rattle.std.proofs.Common.{sym, ◌∙◌, inr, append-nil, eqb-true, eq-eqb, ne_eqb}
use Rattle.std.proofs.Math.Logic.{inl, ⊎_elim}
use native.Mathlib.Omega.{arith}
use Rattle.std.proofs.lemmas.Bool.{eqb-false}
use Rattle.rules.specs.Tree.{Tree, leaf, node, least, Distinct}
use Rattle.clades.proofs.Leaves.{has_left, has_right}
use Rattle.read_tables.specs.Larger.{Pair}
use Rattle.read_tables.proofs.Larger.{lesser, top_has, top_left, top_right, pair_apart}
use Rattle.read_tables.proofs.Count.{last_or_before}
use Rattle.read_tables.specs.Chains.{lowest, chain, falling, In, Apart, Bounded, Starts}

pub bounded_left : (m : ℕ) (l r : Tree) → Bounded m (node l r) → Bounded m l
bounded_left m l r B x h = B x (has_left l r x h)

pub bounded_right : (m : ℕ) (l r : Tree) → Bounded m (node l r) → Bounded m r
bounded_right m l r B x h = B x (has_right l r x h)

pub in_left : (x : ℕ) (xs ys : List ℕ) → In x xs → In x (xs ++ ys)
unfolding In
in_left x [] ys h = absurd h
in_left x (z ∷ xs) ys (inl e) = inl e
in_left x (z ∷ xs) ys (inr h) = inr (in_left x xs ys h)

pub in_right : (x : ℕ) (xs ys : List ℕ) → In x ys → In x (xs ++ ys)
unfolding In
in_right x [] ys h = h
in_right x (z ∷ xs) ys h = inr (in_right x xs ys h)

pub in_cases : (x : ℕ) (xs ys : List ℕ) → In x (xs ++ ys) → In x xs ⊎ In x ys
unfolding In
in_cases x [] ys h = inr h
in_cases x (z ∷ xs) ys (inl e) = inl (inl e)
in_cases x (z ∷ xs) ys (inr h) = ⊎_elim (λ k. inl (inr k)) (λ k. inr k) (in_cases x xs ys h)

pub apart_append : (xs ys : List ℕ) → Apart xs → Apart ys → ((x : ℕ) → In x xs → In x ys → ⊥) → Apart (xs ++ ys)
unfolding In Apart
apart_append [] ys a b f = b
apart_append (z ∷ xs) ys a b f =
    (λ h. ⊎_elim a.0 (f z (inl refl)) (in_cases z xs ys h), apart_append xs ys a.1 b (λ x h. f x (inr h)))

pub falling_none : (c : ℕ → List ℕ) (n : ℕ) → ((k : ℕ) → k < n → c k ≡ []) → falling c n ≡ []
unfolding falling
falling_none c zero h = refl
falling_none c (suc n) h = rw (h n (omega arith)) (falling_none c n (λ k l. h k (omega arith)))

-- what is in one of the runs is in the row of them
pub run_in : (c : ℕ → List ℕ) (n k x : ℕ) → k < n → In x (c k) → In x (falling c n)
unfolding falling
run_in c zero k x l h = absurd (omega arith)
run_in c (suc n) k x l h = go (last_or_before n k (omega arith)) (λ j. run_in c n k x j h)
  where
    go : (k ≡ n) ⊎ (k < n) → (k < n → In x (falling c n)) → In x (c n ++ falling c n)
    go (inl e) f = in_left x (c n) (falling c n) (rw e at h)
    go (inr j) f = in_right x (c n) (falling c n) (f j)

-- and the other way round
pub in_run : (c : ℕ → List ℕ) (n x : ℕ) → In x (falling c n) → (k : ℕ) × (k < n) × In x (c k)
unfolding falling In
in_run c zero x h = absurd h
in_run c (suc n) x h =
    ⊎_elim (λ j. (n, omega arith, j)) (λ j. let k = in_run c n x j in (k.0, omega arith, k.2)) (in_cases x (c n) (falling c n) h)

-- no larger name is below the lowest
pub lowest_le : (m : ℕ) (t : Tree) (i : ℕ) → Pair t i → lowest m t ≤ i
unfolding lowest Pair
lowest_le m (leaf x) i h = absurd h
lowest_le m (node l r) i (inl e) = omega arith
lowest_le m (node l r) i (inr (inl h)) = omega (arith, lowest_le m l i h)
lowest_le m (node l r) i (inr (inr h)) = omega (arith, lowest_le m r i h)

-- the chain of a node's lowest name ends with the node's own larger name
pub chain_own : (m : ℕ) (l r : Tree) (k : ℕ) → k ≡ lowest m (node l r) → chain m (node l r) k ≡ (chain m l k ++ chain m r k) ++ (max (least l) (least r) ∷ [])
unfolding chain
chain_own m l r k e = rw (eq-eqb k (lowest m (node l r)) e)

-- and its other chains are those of its parts
pub chain_other : (m : ℕ) (l r : Tree) (k : ℕ) → k ≢ lowest m (node l r) → chain m (node l r) k ≡ chain m l k ++ chain m r k
unfolding chain
chain_other m l r k e = rw (ne_eqb k (lowest m (node l r)) e) (append-nil (chain m l k ++ chain m r k))

-- the numbers of a chain are larger names of the tree
pub chain_in : (m : ℕ) (t : Tree) (k x : ℕ) → In x (chain m t k) → Pair t x
unfolding chain Pair In
chain_in m (leaf y) k x h = absurd h
chain_in m (node l r) k x h =
    go (eqb k (lowest m (node l r))) (in_cases x (chain m l k ++ chain m r k) (cond (eqb k (lowest m (node l r))) (max (least l) (least r) ∷ []) []) h) (chain_in m l k x) (chain_in m r k x)
  where
    go : (b : Bool) → In x (chain m l k ++ chain m r k) ⊎ In x (cond b (max (least l) (least r) ∷ []) [])
        → (In x (chain m l k) → Pair l x) → (In x (chain m r k) → Pair r x) → (max (least l) (least r) ≡ x) ⊎ (Pair l x ⊎ Pair r x)
    go b (inl j) f g = inr (⊎_elim (λ q. inl (f q)) (λ q. inr (g q)) (in_cases x (chain m l k) (chain m r k) j))
    go true (inr (inl e)) f g = inl (sym e)
    go true (inr (inr q)) f g = absurd q
    go false (inr q) f g = absurd q

append_none : (xs ys : List ℕ) → xs ++ ys ≡ [] → (xs ≡ []) × (ys ≡ [])
append_none [] ys e = (refl, e)
append_none (x ∷ xs) ys e = let z : ◌≡◌ {A = ℕ} 0 1 = cc in absurd (omega arith)

-- a tree with a pair has a chain of its lowest name
lowest_some : (m : ℕ) (t : Tree) → lowest m t < m → chain m t (lowest m t) ≡ [] → ⊥
unfolding lowest
lowest_some m (leaf x) h e = omega arith
lowest_some m (node l r) h e =
    let k = lowest m (node l r) in
    let q = (append_none (chain m l k ++ chain m r k) (max (least l) (least r) ∷ []) (sym (chain_own m l r k refl) ∙ e)).1 in
    let z : ◌≡◌ {A = ℕ} 0 1 = cc in
    omega arith

-- where no part has a chain of a node's lowest name, that name is the node's own larger name
top_lowest : (m : ℕ) (l r : Tree) (k : ℕ) → Bounded m (node l r) → k ≡ lowest m (node l r) → chain m l k ++ chain m r k ≡ [] → max (least l) (least r) ≡ k
unfolding lowest
top_lowest m l r k B e q = go (eqb (max (least l) (least r)) k) refl (lesser (lowest m l) (lowest m r)) (B (max (least l) (least r)) (top_has l r))
  where
    go : (b : Bool) → eqb (max (least l) (least r)) k ≡ b
        → ((min (lowest m l) (lowest m r) ≡ lowest m l) × (max (lowest m l) (lowest m r) ≡ lowest m r)) ⊎ ((min (lowest m l) (lowest m r) ≡ lowest m r) × (max (lowest m l) (lowest m r) ≡ lowest m l))
        → max (least l) (least r) < m → max (least l) (least r) ≡ k
    go true f j z = eqb-true (max (least l) (least r)) k f
    go false f (inl j) z =
        let y = eqb-false (max (least l) (least r)) k f in
        let x : k ≡ lowest m l = omega arith in
        absurd (lowest_some m l (omega arith) (rw x at (append_none (chain m l k) (chain m r k) q).0))
    go false f (inr j) z =
        let y = eqb-false (max (least l) (least r)) k f in
        let x : k ≡ lowest m r = omega arith in
        absurd (lowest_some m r (omega arith) (rw x at (append_none (chain m l k) (chain m r k) q).1))

-- a run in one of two parts is that of both
starts_either : (k : ℕ) (xs ys : List ℕ) → (xs ≡ []) ⊎ (ys ≡ []) → Starts k xs → Starts k ys → Starts k (xs ++ ys)
starts_either k xs ys (inl e) a b = rw e b
starts_either k xs ys (inr e) a b = rw (e, append-nil xs) a

-- no number has a chain in both parts
pub chain_either : (m : ℕ) (l r : Tree) (k : ℕ) → Distinct (node l r) → Starts k (chain m l k) → Starts k (chain m r k) → (chain m l k ≡ []) ⊎ (chain m r k ≡ [])
unfolding In
chain_either m l r k D (inl e) b = inl e
chain_either m l r k D (inr a) (inl e) = inr e
chain_either m l r k D (inr a) (inr b) =
    absurd (pair_apart l r k D (chain_in m l k k (rw a.1 (inl refl))) (chain_in m r k k (rw b.1 (inl refl))))

-- a chain starts with the lowest name under it, and goes on above it
pub chain_starts : (m : ℕ) (t : Tree) (k : ℕ) → Distinct t → Bounded m t → Starts k (chain m t k)
unfolding chain Distinct In
chain_starts m (leaf x) k D B = inl refl
chain_starts m (node l r) k D B =
    go (eqb k (lowest m (node l r))) refl (chain_starts m l k D.1 (bounded_left m l r B)) (chain_starts m r k D.2 (bounded_right m l r B))
  where
    top_not : In k (chain m l k ++ chain m r k) → k ≢ max (least l) (least r)
    top_not h e = ⊎_elim (λ j. top_left l r D (rw e at (chain_in m l k k j))) (λ j. top_right l r D (rw e at (chain_in m r k k j))) (in_cases k (chain m l k) (chain m r k) h)

    own : k ≡ lowest m (node l r) → Starts k (chain m l k ++ chain m r k) → Starts k (chain m (node l r) k)
    own e (inl q) = rw (chain_own m l r k e, q, top_lowest m l r k B e q) (inr ([], refl, λ y h. absurd h))
    own e (inr q) =
        let z = top_not (rw q.1 (inl refl)) in
        let y : k ≤ max (least l) (least r) = unfold lowest in omega arith in
        rw (chain_own m l r k e, q.1) (inr (
          q.0 ++ (max (least l) (least r) ∷ []),
          refl,
          λ y h. ⊎_elim (q.2 y) (⊎_elim (λ f. omega arith) (λ f. absurd f)) (in_cases y q.0 (max (least l) (least r) ∷ []) h),
        ))

    go : (b : Bool) → eqb k (lowest m (node l r)) ≡ b → Starts k (chain m l k) → Starts k (chain m r k) → Starts k (chain m (node l r) k)
    go true e a b = own (eqb-true k (lowest m (node l r)) e) (starts_either k (chain m l k) (chain m r k) (chain_either m l r k D a b) a b)
    go false e a b = rw (chain_other m l r k (eqb-false k (lowest m (node l r)) e)) (starts_either k (chain m l k) (chain m r k) (chain_either m l r k D a b) a b)

-- and the lowest name of a tree with a pair has a chain
pub lowest_starts : (m : ℕ) (t : Tree) → Distinct t → Bounded m t → lowest m t < m → (ys : List ℕ) × (chain m t (lowest m t) ≡ lowest m t ∷ ys)
lowest_starts m t D B h = go (chain_starts m t (lowest m t) D B)
  where
    go : Starts (lowest m t) (chain m t (lowest m t)) → (ys : List ℕ) × (chain m t (lowest m t) ≡ lowest m t ∷ ys)
    go (inl e) = absurd (lowest_some m t h e)
    go (inr k) = (k.0, k.1)

-- only a larger name has a chain
pub chain_none : (m : ℕ) (t : Tree) (k : ℕ) → Distinct t → Bounded m t → (Pair t k → ⊥) → chain m t k ≡ []
chain_none m t k D B f = go (chain_starts m t k D B)
  where
    go : Starts k (chain m t k) → chain m t k ≡ []
    go (inl e) = e
    go (inr q) = absurd (f (chain_in m t k k (rw q.1 (unfold In in inl refl))))

-- each larger name is in the chain of a number below m
chain_of : (m : ℕ) (t : Tree) (x : ℕ) → Bounded m t → Pair t x → (k : ℕ) × (k < m) × In x (chain m t k)
unfolding Pair chain In
chain_of m (leaf y) x B h = absurd h
chain_of m (node l r) x B (inl e) =
    let k = lowest m (node l r) in
    let z = B (max (least l) (least r)) (top_has l r) in
    (k, unfold lowest in omega arith, rw (chain_own m l r k refl) (in_right x (chain m l k ++ chain m r k) (max (least l) (least r) ∷ []) (inl (sym e))))
chain_of m (node l r) x B (inr (inl h)) =
    let k = chain_of m l x (bounded_left m l r B) h in
    (k.0, k.1, in_left x (chain m l k.0 ++ chain m r k.0) _ (in_left x (chain m l k.0) (chain m r k.0) k.2))
chain_of m (node l r) x B (inr (inr h)) =
    let k = chain_of m r x (bounded_right m l r B) h in
    (k.0, k.1, in_left x (chain m l k.0 ++ chain m r k.0) _ (in_right x (chain m l k.0) (chain m r k.0) k.2))

-- the chains have the larger names of the tree, and no others
pub falling_in : (m : ℕ) (t : Tree) (x : ℕ) → Bounded m t → Pair t x → In x (falling (chain m t) m)
falling_in m t x B h = let k = chain_of m t x B h in run_in (chain m t) m k.0 x k.1 k.2

pub in_falling : (m : ℕ) (t : Tree) (x : ℕ) → In x (falling (chain m t) m) → Pair t x
in_falling m t x h = let k = in_run (chain m t) m x h in chain_in m t k.0 x k.2
