-- Merges without the one of the greatest leaf build the tree without that leaf; so does a vector cut short. Main results: pruned_grown, pruned_pairs.
use Rattle.std.specs.Prelude.{◌≡◌, Bool, true, false, cond, List, [], ◌∷◌, ℕ, zero, suc, ◌≤◌, ◌<◌, eqb, ltb}
use Rattle.std.proofs.Math.Path.{refl}
use Rattle.std.proofs.Common.{sym, ap, ◌∙◌, true≢false, arith, ltb-true, ltb-false, lt-ltb, le-ltb, eqb-true, eq-eqb}
use Rattle.std.proofs.Math.Option.{Option, none, some}
use Rattle.std.proofs.lemmas.Bool.{eqb-false}
use Rattle.rules.specs.Building.{Merge}
use Rattle.rules.specs.Tree.{Tree, leaf, node, grown, has}
use Rattle.clades.proofs.Leaves.{has_left, has_right}
use Rattle.clades.specs.Pruned.{beside, pruned}
use Rattle.clades.proofs.Pruned.{pruned_twice, pruned_all}
use Rattle.merging.specs.Insertion.{pairs_of, Bounded}
use Rattle.merging.specs.Once.{without}
use Rattle.merging.proofs.Once.{without_insert, never, fits}
use Rattle.merging.specs.Greedy.{Under}
use Rattle.merging.proofs.Greedy.{under_pairs}
use Rattle.merging.specs.Named.{named, Good, Rising}
use Rattle.merging.proofs.Named.{good, rising, under_unnamed, pairs_named}
use Rattle.growing.specs.Grown.{graft}
use Rattle.growing.proofs.Grown.{grown_graft, has_grown}
use Rattle.growing.specs.Shortened.{keep_below}

-- a graft in what is left
grafted : Merge → Option Tree → Option Tree
grafted m none = none
grafted m (some t) = some (graft m t)

grafted_beside : (m : Merge) (a b : Option Tree) → beside (grafted m a) (grafted m b) ≡ grafted m (beside a b)
unfolding grafted beside graft
grafted_beside m none b = refl
grafted_beside m (some t) none = refl
grafted_beside m (some t) (some u) = refl

-- a pair that is kept stays grafted
graft_kept : (keep : ℕ → Bool) (m : Merge) → keep m.0 ≡ true → keep m.1 ≡ true → (t : Tree) → pruned keep (graft m t) ≡ grafted m (pruned keep t)
unfolding pruned graft grafted beside
graft_kept keep m p q (leaf x) = go (eqb x m.0) (keep x) refl refl
  where
    go : (b k : Bool) → eqb x m.0 ≡ b → keep x ≡ k → pruned keep (cond b (node (leaf m.0) (leaf m.1)) (leaf x)) ≡ grafted m (cond k (some (leaf x)) none)
    go true true e f = rw (p, q, e)
    go true false e f = absurd (true≢false (sym p ∙ ap keep (sym (eqb-true x m.0 e)) ∙ f))
    go false true e f = rw (f, e)
    go false false e f = rw f
graft_kept keep m p q (node l r) = rw (graft_kept keep m p q l, graft_kept keep m p q r) (grafted_beside m (pruned keep l) (pruned keep r))

-- a pair that loses its larger name is the leaf it was grafted on
graft_lost : (keep : ℕ → Bool) (m : Merge) → keep m.1 ≡ false → (t : Tree) → ((x : ℕ) → has t x ≡ true → keep x ≡ true) → pruned keep (graft m t) ≡ some t
unfolding pruned graft beside has
graft_lost keep m q (leaf x) h = go (eqb x m.0) refl
  where
    go : (b : Bool) → eqb x m.0 ≡ b → pruned keep (cond b (node (leaf m.0) (leaf m.1)) (leaf x)) ≡ some (leaf x)
    go true e = rw (sym (eqb-true x m.0 e), h x (eq-eqb x x refl), q)
    go false e = rw (h x (eq-eqb x x refl))
graft_lost keep m q (node l r) h =
    rw (graft_lost keep m q l (λ x e. h x (has_left l r x e)), graft_lost keep m q r (λ x e. h x (has_right l r x e)))

-- where all larger names are at most k and none is k, all names are below k
below_last : (k : ℕ) (P : List Merge) → 1 ≤ k → Under (suc k) P → named P k ≡ false → (x : ℕ) → named P x ≡ true → x < k
below_last k P h u e x n = go (ltb x k) refl
  where
    go : (b : Bool) → ltb x k ≡ b → x < k
    go true q = ltb-true x k q
    go false q = let l = ltb-false x k q in absurd (true≢false (sym n ∙ miss (eqb x k) refl l))
      where
        miss : (b : Bool) → eqb x k ≡ b → k ≤ x → named P x ≡ false
        miss true q l = rw (eqb-true x k q) e
        miss false q l = let ne = eqb-false x k q in under_unnamed (suc k) P u x (omega arith) (omega arith)

-- merges without the one of the greatest leaf k build the tree without k
pub pruned_grown : (k : ℕ) (P : List Merge) → 1 ≤ k → Rising P → Good P → Under (suc k) P → pruned (keep_below k) (grown P leaf 0) ≡ some (grown (without k P) leaf 0)
unfolding without Rising Good Under keep_below grafted
pruned_grown k [] h g G u = unfold pruned grown in rw (lt-ltb 0 k h)
pruned_grown k (m ∷ P) h g G u = ap (pruned (keep_below k)) (grown_graft m P 0) ∙ go (eqb k m.1) refl (pruned_grown k P h g.1 G.2 u.1)
  where
    go : (b : Bool) → eqb k m.1 ≡ b → pruned (keep_below k) (grown P leaf 0) ≡ some (grown (without k P) leaf 0)
        → pruned (keep_below k) (graft m (grown P leaf 0)) ≡ some (grown (cond b P (m ∷ without k P)) leaf 0)
    go true q ih = let e : named P k ≡ false = rw (eqb-true k m.1 q) G.1 in
        graft_lost (keep_below k) m (le-ltb m.1 k (omega (arith, eqb-true k m.1 q))) (grown P leaf 0)
        (λ x n. lt-ltb x k (below_last k P h u.1 e x (sym (has_grown P G.2 x) ∙ n)))
    go false q ih =
        let l = u.0 in let s = g.0 in let ne = eqb-false k m.1 q in
        graft_kept (keep_below k) m (lt-ltb m.0 k (omega arith)) (lt-ltb m.1 k (omega arith)) (grown P leaf 0)
        ∙ ap (grafted m) ih ∙ ap some (sym (grown_graft m (without k P) 0))

-- the merges of a vector without the last leaf's are those of the entries before it
without_last : (v : ℕ → ℕ) (n : ℕ) → Bounded v (suc n) → without n (pairs_of v (suc n)) ≡ pairs_of v n
unfolding pairs_of
without_last v zero b = unfold without in refl
without_last v (suc n) b = without_insert (suc n) (v (suc n)) (pairs_of v (suc n)) (never v (suc n) (suc n) (omega arith)) (fits v n b)

-- the first m entries of a vector build the tree of the leaves below m
pub pruned_pairs : (v : ℕ → ℕ) (n m : ℕ) → Bounded v n → 1 ≤ m → m ≤ n → pruned (keep_below m) (grown (pairs_of v n) leaf 0) ≡ some (grown (pairs_of v m) leaf 0)
unfolding Bounded keep_below
pruned_pairs v zero m b h l = absurd (omega arith)
pruned_pairs v (suc n) m b h l = go (eqb m (suc n)) refl (λ k. pruned_pairs v n m (λ i j. b i (omega arith)) h k)
  where
    whole : pruned (keep_below (suc n)) (grown (pairs_of v (suc n)) leaf 0) ≡ some (grown (pairs_of v (suc n)) leaf 0)
    whole = pruned_all (keep_below (suc n)) (grown (pairs_of v (suc n)) leaf 0)
        (λ x e. sym (pairs_named v (suc n) (omega arith) x) ∙ sym (has_grown (pairs_of v (suc n)) (good v (suc n) b) x) ∙ e)

    last : 1 ≤ n → pruned (keep_below n) (grown (pairs_of v (suc n)) leaf 0) ≡ some (grown (pairs_of v n) leaf 0)
    last k = pruned_grown n (pairs_of v (suc n)) k (rising v (suc n) b) (good v (suc n) b) (under_pairs v (suc n))
        ∙ ap (λ (P : List Merge). some (grown P leaf 0)) (without_last v n b)

    go : (t : Bool) → eqb m (suc n) ≡ t → (m ≤ n → pruned (keep_below m) (grown (pairs_of v n) leaf 0) ≡ some (grown (pairs_of v m) leaf 0))
        → pruned (keep_below m) (grown (pairs_of v (suc n)) leaf 0) ≡ some (grown (pairs_of v m) leaf 0)
    go true q ih = rw (eqb-true m (suc n) q) whole
    go false q ih =
        let ne = eqb-false m (suc n) q in
        let k : m ≤ n = omega arith in
        pruned_twice (keep_below n) (keep_below m) (λ x e. let f = ltb-false x n e in le-ltb x m (omega arith)) (grown (pairs_of v (suc n)) leaf 0) (grown (pairs_of v n) leaf 0)
        (grown (pairs_of v m) leaf 0) (last (omega arith)) (ih k)
