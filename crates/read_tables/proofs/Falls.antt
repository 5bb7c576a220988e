-- The order of a tree's merges is that of its chains: at each node the orders of the two parts merge by the greater larger name, which is run by run,
-- and the node's own pair comes last. Main results: order_falls, falling_apart.
use Rattle.std.specs.Prelude.{◌≡◌, refl, ◌≢◌, ◌⊎◌, Bool, true, false, cond, ℕ, zero, suc, ◌+◌, ◌≤◌, ◌<◌, min, max, eqb}
use Rattle.std.proofs.Common.{sym, ap, ◌∙◌, inl, inr, ⊎_elim, arith, eqb-true, ne_eqb, lt-ltb, le-ltb}
use mathlib.Core.List.{List, [], ◌∷◌, ◌++◌, append-nil, append_assoc}
use Rattle.std.proofs.Math.Option.{none, some}
use Rattle.std.proofs.lemmas.Bool.{eqb-false}
use Rattle.rules.specs.Building.{Merge}
use Rattle.rules.specs.Tree.{Tree, leaf, node, least, size, Distinct}
use Rattle.rules.specs.Order.{ready, greater, best, collapse, order}
use Rattle.read_tables.specs.Larger.{inner, Pair}
use Rattle.read_tables.proofs.Larger.{top_has, top_left, top_right, pair_apart}
use Rattle.read_tables.proofs.Collapse.{ready_leaves, merge_true, collapse_here, collapse_least, collapse_has, collapse_distinct, collapse_left, collapse_right, size_leaf, order_step, order_leaf}
use Rattle.read_tables.specs.Chains.{lowest, chain, falling, merges_of, Smaller, In, Apart, Bounded, Starts}
use Rattle.read_tables.proofs.Chains.{bounded_left, bounded_right, apart_append, falling_none, lowest_le, chain_either, chain_starts, chain_none, in_falling}
use Rattle.read_tables.specs.Falls.{HeadBelow, Merged, ends, first, second, Goes}

-- a run whose numbers are all above the other list's head goes first as a whole
run_first : (rs : List ℕ) {xs ys zs : List ℕ} → ((x : ℕ) → In x rs → HeadBelow x ys) → Merged xs ys zs → Merged (rs ++ xs) ys (rs ++ zs)
unfolding In
run_first [] h M = M
run_first (r ∷ rs) h M = first (h r (inl refl)) (run_first rs (λ x k. h x (inr k)) M)

run_second : (rs : List ℕ) {xs ys zs : List ℕ} → ((x : ℕ) → In x rs → HeadBelow x xs) → Merged xs ys zs → Merged xs (rs ++ ys) (rs ++ zs)
unfolding In
run_second [] h M = M
run_second (r ∷ rs) h M = second (h r (inl refl)) (run_second rs (λ x k. h x (inr k)) M)

-- the numbers of a run of k are k and more
starts_le : (k x : ℕ) (xs : List ℕ) → Starts k xs → In x xs → k ≤ x
unfolding In
starts_le k x xs (inl e) h = absurd (rw e at h)
starts_le k x xs (inr q) h = ⊎_elim (λ e. omega arith) (λ j. omega (arith, q.2 x j)) (rw q.1 at h)

-- runs below n in a row start below n
falling_head : (c : ℕ → List ℕ) (n x : ℕ) → ((k : ℕ) → Starts k (c k)) → n ≤ x → HeadBelow x (falling c n)
unfolding falling HeadBelow
falling_head c zero x h l = tt
falling_head c (suc n) x h l = go (h n) (falling_head c n x h (omega arith))
  where
    go : Starts n (c n) → HeadBelow x (falling c n) → HeadBelow x (c n ++ falling c n)
    go (inl e) u = rw e u
    go (inr q) u = rw q.1 (omega arith)

-- rows of runs merge run by run
falling_merged : (c d : ℕ → List ℕ) (n : ℕ) → ((k : ℕ) → Starts k (c k)) → ((k : ℕ) → Starts k (d k)) → ((k : ℕ) → (c k ≡ []) ⊎ (d k ≡ []))
    → Merged (falling c n) (falling d n) (falling (λ k. c k ++ d k) n)
unfolding falling
falling_merged c d zero hc hd e = ends
falling_merged c d (suc n) hc hd e = go (e n) (falling_merged c d n hc hd e)
  where
    go : (c n ≡ []) ⊎ (d n ≡ []) → Merged (falling c n) (falling d n) (falling (λ k. c k ++ d k) n)
        → Merged (c n ++ falling c n) (d n ++ falling d n) ((c n ++ d n) ++ falling (λ k. c k ++ d k) n)
    go (inl q) M = rw q (run_second (d n) (λ x h. falling_head c n x hc (starts_le n x (d n) (hd n) h)) M)
    go (inr q) M = rw (q, append-nil (c n)) (run_first (c n) (λ x h. falling_head d n x hd (starts_le n x (c n) (hc n) h)) M)

-- what ends the lowest run comes last
falling_last : (c : ℕ → List ℕ) (a y n : ℕ) → ((k : ℕ) → k < a → c k ≡ []) → a < n
    → falling (λ k. c k ++ cond (eqb k a) (y ∷ []) []) n ≡ falling c n ++ (y ∷ [])
unfolding falling
falling_last c a y zero h l = absurd (omega arith)
falling_last c a y (suc n) h l = go (eqb n a) refl (falling_last c a y n h)
  where
    empty : (k : ℕ) → k < n → n ≡ a → c k ++ cond (eqb k a) (y ∷ []) [] ≡ []
    empty k j e = let z : k ≢ a = λ q. omega arith in rw (ne_eqb k a z, h k (omega arith))

    go : (b : Bool) → eqb n a ≡ b → (a < n → falling (λ k. c k ++ cond (eqb k a) (y ∷ []) []) n ≡ falling c n ++ (y ∷ []))
        → (c n ++ cond (eqb n a) (y ∷ []) []) ++ falling (λ k. c k ++ cond (eqb k a) (y ∷ []) []) n ≡ (c n ++ falling c n) ++ (y ∷ [])
    go true e f =
        let z = eqb-true n a e in
        rw (e, falling_none (λ k. c k ++ cond (eqb k a) (y ∷ []) []) n (λ k j. empty k j z), falling_none c n (λ k j. h k (omega arith)), append-nil (c n), append-nil (c n ++ (y ∷ [])))
    go false e f =
        let z = eqb-false n a e in
        rw (e, append-nil (c n), f (omega arith)) (sym (append_assoc (c n) (falling c n) (y ∷ [])))

goes_next : (s : ℕ → ℕ) (t u : Tree) (i : ℕ) (is : List ℕ) → collapse (s i, i) t ≡ u
    → Pair t i → best t ≡ some (s i, i) → size u + 1 ≡ size t → Goes s u is → Goes s t (i ∷ is)
unfolding Goes
goes_next s t u i is q p e z g = (p, e, rw q z, rw q g)

-- such a list is the order of the tree's merges
goes_order : (s : ℕ → ℕ) (t : Tree) (is : List ℕ) → Goes s t is → order t ≡ merges_of s is
unfolding Goes merges_of inner
goes_order s (leaf x) [] g = order_leaf x
goes_order s (node l r) [] g = absurd (omega arith)
goes_order s t (i ∷ is) g =
    order_step t (s i, i) g.1 g.2 ∙ ap (λ (ms : List Merge). (s i, i) ∷ ms) (goes_order s (collapse (s i, i) t) is g.3)

-- a node with an inner node as a part waits
ready_none : (l r : Tree) (i : ℕ) → Pair l i ⊎ Pair r i → ready l r ≡ none
unfolding ready Pair
ready_none (leaf a) (leaf b) i h = absurd (⊎_elim (λ p. p) (λ p. p) h)
ready_none (leaf a) (node x y) i h = refl
ready_none (node x y) r i h = refl

best_none : (t : Tree) → inner t ≡ 0 → best t ≡ none
unfolding best inner
best_none (leaf x) e = refl
best_none (node l r) e = absurd (omega arith)

-- the best merge of a part is that of the node where the other part's is below it
best_first : (s : ℕ → ℕ) (l r : Tree) (i : ℕ) (is : List ℕ) → Pair l i → best l ≡ some (s i, i) → Goes s r is → HeadBelow i is → best (node l r) ≡ some (s i, i)
unfolding Goes HeadBelow best greater
best_first s l r i [] p e g u = rw (ready_none l r i (inl p), e, best_none r g)
best_first s l r i (j ∷ is) p e g u = rw (ready_none l r i (inl p), e, g.1, le-ltb i j (omega arith))

best_second : (s : ℕ → ℕ) (l r : Tree) (i : ℕ) (is : List ℕ) → Pair r i → best r ≡ some (s i, i) → Goes s l is → HeadBelow i is → best (node l r) ≡ some (s i, i)
unfolding Goes HeadBelow best greater
best_second s l r i [] p e g u = rw (ready_none l r i (inr p), best_none l g, e)
best_second s l r i (j ∷ is) p e g u = rw (ready_none l r i (inr p), g.1, e, lt-ltb j i (omega arith))

-- after the merges of the parts the node's own is the last
goes_node : (s : ℕ → ℕ) (l r : Tree) {xs ys zs : List ℕ} → Distinct (node l r) → s (max (least l) (least r)) ≡ min (least l) (least r)
    → Goes s l xs → Goes s r ys → Merged xs ys zs → Goes s (node l r) (zs ++ (max (least l) (least r) ∷ []))
unfolding Goes Pair best greater inner size Distinct
goes_node s l r D e g h ends =
    let k : inner l + inner r ≡ 0 = omega arith in
    let m : Merge = (s (max (least l) (least r)), max (least l) (least r)) in
    let q = collapse_here m l r (merge_true l r m k e refl) in
    (inl refl, rw (ready_leaves l r k, best_none l g, best_none r h, e), rw q (omega (arith, size_leaf l g, size_leaf r h)), rw q refl)
goes_node s l r D e g h (first {x} {xs} {ys} {zs} u M) =
    let k = collapse_least (s x, x) l in
    let D' : Distinct (node (collapse (s x, x) l) r) = (λ z a b. D.0 z (collapse_has (s x, x) l z a) b, collapse_distinct (s x, x) l D.1, D.2) in
    let rest = goes_node s (collapse (s x, x) l) r D' (rw k e) g.3 h M in
    goes_next s (node l r) (node (collapse (s x, x) l) r) x (zs ++ (max (least l) (least r) ∷ [])) (collapse_left (s x, x) l r D g.0)
    (inr (inl g.0)) (best_first s l r x ys g.0 g.1 h u) (omega (arith, g.2)) (rw k at rest)
goes_node s l r D e g h (second {y} {xs} {ys} {zs} u M) =
    let k = collapse_least (s y, y) r in
    let D' : Distinct (node l (collapse (s y, y) r)) = (λ z a b. D.0 z a (collapse_has (s y, y) r z b), D.1, collapse_distinct (s y, y) r D.2) in
    let rest = goes_node s l (collapse (s y, y) r) D' (rw k e) g h.3 M in
    goes_next s (node l r) (node l (collapse (s y, y) r)) y (zs ++ (max (least l) (least r) ∷ [])) (collapse_right (s y, y) l r D h.0)
    (inr (inr h.0)) (best_second s l r y xs h.0 h.1 g u) (omega (arith, h.2)) (rw k at rest)

-- The chains of a node, from those of its parts.
module _ (m : ℕ) (l r : Tree) (D : Distinct (node l r)) (B : Bounded m (node l r)) where
  starts_left : (k : ℕ) → Starts k (chain m l k)
  unfolding Distinct
  starts_left k = chain_starts m l k D.1 (bounded_left m l r B)

  starts_right : (k : ℕ) → Starts k (chain m r k)
  unfolding Distinct
  starts_right k = chain_starts m r k D.2 (bounded_right m l r B)

  parts_merged : Merged (falling (chain m l) m) (falling (chain m r) m) (falling (λ k. chain m l k ++ chain m r k) m)
  parts_merged =
      falling_merged (chain m l) (chain m r) m starts_left starts_right (λ k. chain_either m l r k D (starts_left k) (starts_right k))

  own_last : falling (chain m (node l r)) m ≡ falling (λ k. chain m l k ++ chain m r k) m ++ (max (least l) (least r) ∷ [])
  unfolding chain lowest Distinct
  own_last =
      falling_last (λ k. chain m l k ++ chain m r k) (lowest m (node l r)) (max (least l) (least r)) m none_below
      (omega (arith, B (max (least l) (least r)) (top_has l r)))
    where
      none_below : (k : ℕ) → k < lowest m (node l r) → chain m l k ++ chain m r k ≡ []
      none_below k h =
          rw (chain_none m l k D.1 (bounded_left m l r B) (λ p. omega (arith, lowest_le m l k p)))
          (chain_none m r k D.2 (bounded_right m l r B) (λ p. omega (arith, lowest_le m r k p)))

falls_goes : (m : ℕ) (t : Tree) (s : ℕ → ℕ) → Distinct t → Bounded m t → Smaller s t → Goes s t (falling (chain m t) m)
unfolding Distinct Smaller Goes
falls_goes m (leaf x) s D B S = rw (falling_none (chain m (leaf x)) m (λ k h. unfold chain in refl)) (unfold inner in refl)
falls_goes m (node l r) s D B S =
    rw (own_last m l r D B) (goes_node s l r D S.0
    (falls_goes m l s D.1 (bounded_left m l r B) S.1) (falls_goes m r s D.2 (bounded_right m l r B) S.2)
    (parts_merged m l r D B))

-- the merges of a tree in their order are those of its chains, falling
pub order_falls : (m : ℕ) (t : Tree) (s : ℕ → ℕ) → Distinct t → Bounded m t → Smaller s t → order t ≡ merges_of s (falling (chain m t) m)
order_falls m t s D B S = goes_order s t (falling (chain m t) m) (falls_goes m t s D B S)

merged_in : {xs ys zs : List ℕ} (x : ℕ) → Merged xs ys zs → In x zs → In x xs ⊎ In x ys
unfolding In
merged_in x ends h = inl h
merged_in x (first u M) (inl e) = inl (inl e)
merged_in x (first u M) (inr h) = ⊎_elim (λ k. inl (inr k)) (λ k. inr k) (merged_in x M h)
merged_in x (second u M) (inl e) = inr (inl e)
merged_in x (second u M) (inr h) = ⊎_elim (λ k. inl k) (λ k. inr (inr k)) (merged_in x M h)

merged_apart : {xs ys zs : List ℕ} → Apart xs → Apart ys → ((x : ℕ) → In x xs → In x ys → ⊥) → Merged xs ys zs → Apart zs
unfolding In Apart
merged_apart a b f ends = tt
merged_apart a b f (first {x} u M) = (λ h. ⊎_elim a.0 (f x (inl refl)) (merged_in x M h), merged_apart a.1 b (λ z h. f z (inr h)) M)
merged_apart a b f (second {y} u M) = (λ h. ⊎_elim (λ k. f y k (inl refl)) b.0 (merged_in y M h), merged_apart a b.1 (λ z h k. f z h (inr k)) M)

-- no larger name is in the chains twice
pub falling_apart : (m : ℕ) (t : Tree) → Distinct t → Bounded m t → Apart (falling (chain m t) m)
unfolding Distinct In Apart
falling_apart m (leaf x) D B = rw (falling_none (chain m (leaf x)) m (λ k h. unfold chain in refl)) tt
falling_apart m (node l r) D B =
    let M = parts_merged m l r D B in
    let a = falling_apart m l D.1 (bounded_left m l r B) in
    let b = falling_apart m r D.2 (bounded_right m l r B) in
    let c = merged_apart a b (λ x h k. pair_apart l r x D (in_falling m l x h) (in_falling m r x k)) M in
    rw (own_last m l r D B) (apart_append (falling (λ k. chain m l k ++ chain m r k) m) (max (least l) (least r) ∷ []) c (λ h. h, tt) (λ x h k. other x M h k))
  where
    other : (x : ℕ) → Merged (falling (chain m l) m) (falling (chain m r) m) (falling (λ k. chain m l k ++ chain m r k) m)
        → In x (falling (λ k. chain m l k ++ chain m r k) m) → In x (max (least l) (least r) ∷ []) → ⊥
    other x M h (inl e) = ⊎_elim (λ k. top_left l r D (rw e at (in_falling m l x k))) (λ k. top_right l r D (rw e at (in_falling m r x k))) (merged_in x M h)
    other x M h (inr q) = q
