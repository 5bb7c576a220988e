-- In how many trees of an archive a clade occurs, by the reader of tree r and by 01's clades, and how many leaves it has. Main results:
-- how_many_once, how_many_some, occurs_in_trees, occurs_somewhere, set_size.
use Rattle.std.specs.Prelude.{Bool, true, false, cond, List, [], ◌∷◌, ◌++◌, ◌↔◌, ◌≡◌, refl, ℕ, zero, suc, ◌+◌, ◌≤◌, ◌<◌, get_or}
use Rattle.std.proofs.Common.{true≢false, inl, inr, sym, ap, subst, ◌∙◌, arith, ltb-true}
use Rattle.std.specs.Int.Count.{ones}
use Rattle.rules.specs.Building.{member}
use Rattle.rules.specs.Tree.{Tree, leaf, node, tree_of, has, Distinct, LeavesBelow}
use Rattle.rules.specs.Archive.{trees_in}
use Rattle.rules.specs.CladeTable.{inner, occurs, trees_of}
use Rattle.basics.proofs.Cases.{by_lt}
use Rattle.basics.specs.Sums.{one}
use Rattle.basics.proofs.Sums.{sum_cong}
use Rattle.accepting.proofs.Answers.{made_same}
use Rattle.clades.proofs.Leaves.{has_left, has_right}
use Rattle.clades.proofs.Size.{leaves_sum, size_sum}
use Rattle.clade_laws.specs.Numbers.{bit, Stands}
use Rattle.clade_laws.proofs.Numbers.{leaf_bit}
use Rattle.clade_laws.specs.Inner.{CladeNumber, PairIn}
use Rattle.clade_laws.proofs.Inner.{inner_clades, inner_node}
use Rattle.clade_laws.specs.Entries.{Each, InSome}
use Rattle.clade_laws.proofs.Entries.{occurs_some}
use Rattle.demands.specs.LawCladeTable.{lists_below}
use Rattle.demands.specs.TreesRead.{AllRead}
use Rattle.demands.proofs.TreesRead.{lists_again}
use Rattle.clade_demands.specs.Occurs.{HasClade, HowMany, none_below, one_more, no_more, leaves_in}

pub how_many_once : (P : ℕ → Type 0) (n j k : ℕ) → HowMany P n j → HowMany P n k → j ≡ k
how_many_once P n j k none_below none_below = refl
how_many_once P n j k (one_more p c) (one_more q d) = ap suc (how_many_once P _ _ _ c d)
how_many_once P n j k (one_more p c) (no_more q d) = absurd (q p)
how_many_once P n j k (no_more p c) (one_more q d) = absurd (p q)
how_many_once P n j k (no_more p c) (no_more q d) = how_many_once P _ _ _ c d

-- one has it at least where there is one, and only there
pub how_many_some : (P : ℕ → Type 0) (top all : ℕ) → HowMany P top all → (1 ≤ all) ↔ ((r : ℕ) × (r < top) × P r)
how_many_some P top all none_below = (λ h. absurd (omega arith), λ w. absurd (omega (arith, w.1)))
how_many_some P top all (one_more {n} p c) = (λ h. (n, omega arith, p), λ w. omega arith)
how_many_some P top all (no_more {n} {k} p c) = go (how_many_some P n k c)
  where
    go : (1 ≤ k) ↔ ((r : ℕ) × (r < n) × P r) → (1 ≤ k) ↔ ((r : ℕ) × (r < suc n) × P r)
    go ih = (
      λ h. let w = ih.0 h in (w.0, omega (arith, w.1), w.2),
      λ w. by_lt w.0 n (λ l. ih.1 (w.0, l, w.2)) (λ l. let e : w.0 ≡ n = omega (arith, w.1) in absurd (p (subst P e w.2))),
    )

how_many_same : (P Q : ℕ → Type 0) (top all : ℕ) → ((r : ℕ) → r < top → P r ↔ Q r) → HowMany P top all → HowMany Q top all
how_many_same P Q top all h none_below = none_below
how_many_same P Q top all h (one_more {n} {k} p c) = one_more ((h n (omega arith)).0 p) (how_many_same P Q n k (λ r l. h r (omega arith)) c)
how_many_same P Q top all h (no_more {n} {k} p c) = no_more (λ q. p ((h n (omega arith)).1 q)) (how_many_same P Q n k (λ r l. h r (omega arith)) c)

-- one tree more
occurs_next : (m : ℕ) (vs : List (List ℕ)) (v : List ℕ) → occurs m (trees_of (vs ++ (v ∷ []))) ≡ occurs m (trees_of vs) + cond (member m (inner (tree_of v))) 1 0
unfolding occurs trees_of
occurs_next m [] v = omega arith
occurs_next m (w ∷ vs) v = omega (arith, occurs_next m vs v)

occurs_below : (m : ℕ) (f : ℕ → List ℕ) (k : ℕ) → ((r : ℕ) → r < k → Distinct (tree_of (f r)))
    → HowMany (λ r. CladeNumber (tree_of (f r)) m) k (occurs m (trees_of (lists_below f k)))
unfolding lists_below
occurs_below m f zero D = unfold occurs in unfold trees_of in none_below
occurs_below m f (suc k) D =
    rw (occurs_next m (lists_below f k) (f k)) (go (member m (inner (tree_of (f k)))) refl (occurs_below m f k (λ r h. D r (omega arith))))
  where
    P : ℕ → Type 0
    P r = CladeNumber (tree_of (f r)) m

    same : (member m (inner (tree_of (f k))) ≡ true) ↔ P k
    same = inner_clades (tree_of (f k)) (D k (omega arith)) m

    go : (b : Bool) → member m (inner (tree_of (f k))) ≡ b → HowMany P k (occurs m (trees_of (lists_below f k)))
        → HowMany P (suc k) (occurs m (trees_of (lists_below f k)) + cond b 1 0)
    go true q c =
        let j = occurs m (trees_of (lists_below f k)) in
        let z : suc j ≡ j + 1 = omega arith in
        subst (HowMany P (suc k)) z (one_more (same.0 q) c)
    go false q c =
        let j = occurs m (trees_of (lists_below f k)) in
        let z : j ≡ j + 0 = omega arith in
        subst (HowMany P (suc k)) z (no_more (λ p. true≢false (sym (same.1 p) ∙ q)) c)

module _ (s : List ℕ) (vs : List (List ℕ)) (A : AllRead s vs) (D : (r : ℕ) → r < trees_in s → Distinct (tree_of (get_or vs r []))) where
  -- "in how many trees it occurs", by the trees that are read
  pub occurs_in_trees : (m : ℕ) → HowMany (HasClade s m) (trees_in s) (occurs m (trees_of vs))
  occurs_in_trees m =
      how_many_same (λ r. CladeNumber (tree_of (get_or vs r [])) m) (HasClade s m) (trees_in s) (occurs m (trees_of vs))
      (λ r h. (
        λ p. (get_or vs r [], A.1 r h, p),
        λ p. let e : p.0 ≡ get_or vs r [] = made_same (sym p.1 ∙ A.1 r h) in subst (λ (v : List ℕ). CladeNumber (tree_of v) m) e p.2,
      ))
      (subst (λ (l : List (List ℕ)). HowMany (λ r. CladeNumber (tree_of (get_or vs r [])) m) (trees_in s) (occurs m (trees_of l)))
      (lists_again vs (trees_in s) A.0) (occurs_below m (λ r. get_or vs r []) (trees_in s) D))

  -- and whether it occurs
  pub occurs_somewhere : (m : ℕ) → InSome m (trees_of vs) ↔ ((r : ℕ) × (r < trees_in s) × HasClade s m r)
  occurs_somewhere m =
      let some = how_many_some (HasClade s m) (trees_in s) (occurs m (trees_of vs)) (occurs_in_trees m) in
      let any = occurs_some m (trees_of vs) in
      (λ p. some.0 (any.1 p), λ w. any.0 (some.1 w))

pub leaves_same : (n : ℕ) (c d : ℕ → Bool) → ((x : ℕ) → c x ≡ d x) → leaves_in n c ≡ leaves_in n d
unfolding leaves_in
leaves_same n c d h = sum_cong (λ x. one (c x)) (λ x. one (d x)) n (λ x l. ap one (h x))

-- a pair of a tree has leaves of it, each once
pair_leaves : (u t : Tree) → PairIn u t → Distinct t → Distinct u × ((x : ℕ) → has u x ≡ true → has t x ≡ true)
unfolding PairIn Distinct
pair_leaves u (leaf y) p D = absurd p
pair_leaves u (node l r) (inl e) D = rw e (D, λ x h. h)
pair_leaves u (node l r) (inr (inl p)) D = let k = pair_leaves u l p D.1 in (k.0, λ x h. has_left l r x (k.1 x h))
pair_leaves u (node l r) (inr (inr p)) D = let k = pair_leaves u r p D.2 in (k.0, λ x h. has_right l r x (k.1 x h))

tree_set_size : (n : ℕ) (t : Tree) → LeavesBelow n t → (m : ℕ) → member m (inner t) ≡ true → ones m ≡ leaves_in n (bit m)
unfolding leaves_in one Stands
tree_set_size n t L m e =
    let k = inner_node t L.once m e in
    let u = k.0 in
    let p = pair_leaves u t k.1 L.once in
    k.3 ∙ sym (size_sum u) ∙ leaves_sum (λ x. 1) n u p.0 (λ x h. ltb-true x n (sym (L.all x) ∙ p.1 x h))
    ∙ leaves_same n (has u) (bit m) (λ x. sym (leaf_bit u p.0 x) ∙ ap (λ (j : ℕ). bit j x) k.2)

-- "its size": as many bits of a clade's number are set as it has leaves
pub set_size : (n : ℕ) (ts : List Tree) → Each (LeavesBelow n) ts → (m : ℕ) → InSome m ts → ones m ≡ leaves_in n (bit m)
unfolding Each InSome
set_size n [] L m p = absurd p
set_size n (t ∷ ts) L m (inl p) = tree_set_size n t L.0 m p
set_size n (t ∷ ts) L m (inr p) = set_size n ts L.1 m p
