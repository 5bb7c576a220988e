-- The pairs of a tree, in the order in which their brackets close, are the rows of an accepted table of the tree. Main results: closed_length,
-- closed_tree, closed_accepted.
use Rattle.std.specs.Prelude.{◌≡◌, cond, ◌||◌, ◌⊎◌, eqb, length}
use Rattle.std.proofs.Math.Path.{refl, ap, ap₂, sym}
use Rattle.std.proofs.Common.{subst, ◌∙◌, true≢false, inl, inr, ⊎_elim}
use Rattle.std.proofs.Math.Bool.{Bool, true, false}
use Rattle.std.proofs.Math.Option.{none}
use mathlib.Core.List.{List, [], ◌∷◌, ◌++◌, map, append_assoc, append-nil}
use Prim.Native.Nat.{ℕ, suc, ◌+◌, ◌-◌, ◌≤◌, ◌<◌}
use native.Mathlib.Omega.{arith}
use Rattle.std.proofs.Math.Dec.{ltb}
use Rattle.std.proofs.Math.ListN.{length-map}
use borrow.Author.Tests.{ne_eqb, eq-eqb, lt-ltb, le-ltb, ltb-true}
use Rattle.rules.specs.Tree.{Tree, leaf, node, has, Distinct, LeavesBelow, Clusters}
use Rattle.rules.specs.Table.{Row, nodes_of, table_tree, row_fault, table_fault, children_below, named_twice}
use Rattle.basics.proofs.Bools.{or_no, or_false}
use Rattle.basics.proofs.Cases.{by_test}
use Rattle.clades.proofs.Leaves.{has_left, has_right}
use Rattle.clades.proofs.Size.{size_below}
use Rattle.written_tables.specs.Tied.{tied}
use Rattle.written_tables.proofs.Tied.{tied_length}
use Rattle.grammar.specs.Pairs.{pair_count, child_code, pairs_from}
use Rattle.grammar.proofs.Pairs.{pairs_length, size_pairs}
use Rattle.grammar.specs.Closed.{child_number, closed_rows, rows_for, number_of, tree_rows, Small, Made, named_by, Apart, its_root, no_leaf, before, behind, Both, Free}

last_row : (n k x y : ℕ) → rows_for n k ((x, y) ∷ []) ≡ (child_number n x, child_number n y, n + k) ∷ []
unfolding rows_for tied
last_row n k x y = refl

pub small_left : {n : ℕ} {l r : Tree} → Small n (node l r) → Small n l
unfolding has
small_left {n} {l} {r} h = record { few = h.few; below = λ x e. h.below x (has_left l r x e) }

pub small_right : {n : ℕ} {l r : Tree} → Small n (node l r) → Small n r
unfolding has
small_right {n} {l} {r} h = record { few = h.few; below = λ x e. h.below x (has_right l r x e) }

code_number : (n k : ℕ) (t : Tree) → Small n t → child_number n (child_code k t) ≡ number_of n k t
unfolding child_number child_code number_of has
code_number n k (leaf x) h = let l : x < n = h.below x (eq-eqb x x refl) in let f : n ≤ 16384 = h.few in rw (lt-ltb x 16384 (omega arith))
code_number n k (node l r) h =
    let e : 16384 + (k + pair_count l + pair_count r) - 16384 ≡ k + pair_count l + pair_count r = omega arith in
    rw (le-ltb (16384 + (k + pair_count l + pair_count r)) 16384 (omega arith), e)

-- rows of pairs that are closed in a row
rows_append : (n k : ℕ) (P Q : List (ℕ × ℕ))
    → rows_for n k (P ++ Q) ≡ rows_for n k P ++ rows_for n (k + length P) Q
unfolding rows_for tied
rows_append n k [] Q = let e : k ≡ k + 0 = omega arith in ap (λ (j : ℕ). rows_for n j Q) e
rows_append n k (p ∷ P) Q =
    let e : k + 1 + length P ≡ k + suc (length P) = omega arith in
    let f : n + k + 1 ≡ n + (k + 1) = omega arith in
    ap (λ (rs : List Row). (child_number n p.0, child_number n p.1, n + k) ∷ rs)
    (ap (λ (j : ℕ). tied j (map (λ c. child_number n c.0) (P ++ Q)) (map (λ c. child_number n c.1) (P ++ Q))) f ∙ rows_append n (k + 1) P Q
    ∙ ap₂ ◌++◌ (ap (λ (j : ℕ). tied j (map (λ c. child_number n c.0) P) (map (λ c. child_number n c.1) P)) (sym f)) (ap (λ (j : ℕ). rows_for n j Q) e))

no_rows : (n k : ℕ) → rows_for n k [] ≡ []
unfolding rows_for tied
no_rows n k = refl

tree_rows_lem : (n k : ℕ) (t : Tree) → Small n t → rows_for n k (pairs_from k t) ≡ tree_rows n k t
unfolding pairs_from tree_rows
tree_rows_lem n k (leaf x) h = no_rows n k
tree_rows_lem n k (node l r) h =
    let a : k + length (pairs_from k l) ≡ k + pair_count l = omega (arith, pairs_length k l) in
    let b : k + pair_count l + length (pairs_from (k + pair_count l) r) ≡ k + pair_count l + pair_count r = omega (arith, pairs_length (k + pair_count l) r) in
    let c : ℕ × ℕ = (child_code k l, child_code (k + pair_count l) r) in
    rows_append n k (pairs_from k l) (pairs_from (k + pair_count l) r ++ (c ∷ []))
    ∙ ap₂ ◌++◌ (tree_rows_lem n k l (small_left h))
    (ap (λ (j : ℕ). rows_for n j (pairs_from (k + pair_count l) r ++ (c ∷ []))) a
    ∙ rows_append n (k + pair_count l) (pairs_from (k + pair_count l) r) (c ∷ [])
    ∙ ap₂ ◌++◌ (tree_rows_lem n (k + pair_count l) r (small_right h))
    (ap (λ (j : ℕ). rows_for n j (c ∷ [])) b ∙ last_row n (k + pair_count l + pair_count r) (child_code k l) (child_code (k + pair_count l) r)
    ∙ ap₂ (λ (x y : ℕ). (x, y, n + (k + pair_count l + pair_count r)) ∷ []) (code_number n k l (small_left h)) (code_number n (k + pair_count l) r (small_right h))))

number_bound : (n k : ℕ) (t : Tree) → Small n t → number_of n k t < n + k + pair_count t
unfolding number_of pair_count has
number_bound n k (leaf x) h = let l : x < n = h.below x (eq-eqb x x refl) in omega arith
number_bound n k (node l r) h = omega arith

-- a node is a leaf, or stands behind the pairs closed before it
number_place : (n k : ℕ) (t : Tree) → Small n t → (number_of n k t < n) ⊎ (n + k ≤ number_of n k t)
unfolding number_of has
number_place n k (leaf x) h = inl (h.below x (eq-eqb x x refl))
number_place n k (node l r) h = inr (omega arith)

nodes_append : (a b : List Row) (c : Clusters) → nodes_of (a ++ b) c ≡ nodes_of b (nodes_of a c)
unfolding nodes_of
nodes_append [] b c = refl
nodes_append (r ∷ a) b c = nodes_append a b (λ k. cond (eqb k r.2) (node (c r.0) (c r.1)) (c k))

-- the last row joins two trees that are made
join_made : (n k : ℕ) (l r : Tree) (c c₁ c₂ : Clusters) → Small n l → Small n r → Made n k l c c₁ → Made n (k + pair_count l) r c₁ c₂
    → Made n k (node l r) c (λ y. cond (eqb y (n + (k + pair_count l + pair_count r))) (node (c₂ (number_of n k l)) (c₂ (number_of n (k + pair_count l) r))) (c₂ y))
unfolding number_of pair_count
join_made n k l r c c₁ c₂ hl hr a b =
    record {
      root = rw (eq-eqb (n + (k + pair_count l + pair_count r)) (n + (k + pair_count l + pair_count r)) refl)
          (ap₂ node (b.others (number_of n k l) (inl (omega (arith, number_bound n k l hl))) ∙ a.root) b.root);
      others = λ y h. go y h;
    }
  where
    outside : (y : ℕ) → (y < n + k) ⊎ (n + k + (pair_count l + pair_count r + 1) ≤ y) → ((y < n + k) ⊎ (n + k + pair_count l ≤ y)) × ((y < n + (k + pair_count l)) ⊎ (n + (k + pair_count l) + pair_count r ≤ y)) × (y ≡ n + (k + pair_count l + pair_count r) → ⊥)
    outside y (inl h) = (inl h, inl (omega arith), λ q. omega arith)
    outside y (inr h) = (inr (omega arith), inr (omega arith), λ q. omega arith)

    go : (y : ℕ) → (y < n + k) ⊎ (n + k + (pair_count l + pair_count r + 1) ≤ y)
        → cond (eqb y (n + (k + pair_count l + pair_count r))) (node (c₂ (number_of n k l)) (c₂ (number_of n (k + pair_count l) r))) (c₂ y) ≡ c y
    go y h =
        let o = outside y h in
        rw (ne_eqb y (n + (k + pair_count l + pair_count r)) o.2) (b.others y o.1 ∙ a.others y o.0)

tree_made : (n k : ℕ) (t : Tree) (c : Clusters) → Small n t → ((x : ℕ) → x < n → c x ≡ leaf x) → Made n k t c (nodes_of (tree_rows n k t) c)
unfolding tree_rows nodes_of number_of has pair_count
tree_made n k (leaf x) c h e = record { root = e x (h.below x (eq-eqb x x refl)); others = λ y o. refl }
tree_made n k (node l r) c h e =
    let a : Made n k l c (nodes_of (tree_rows n k l) c) = tree_made n k l c (small_left h) e in
    let f : (x : ℕ) → x < n → nodes_of (tree_rows n k l) c x ≡ leaf x = λ x i. a.others x (inl (omega arith)) ∙ e x i in
    let b : Made n (k + pair_count l) r (nodes_of (tree_rows n k l) c) (nodes_of (tree_rows n (k + pair_count l) r) (nodes_of (tree_rows n k l) c)) =
    tree_made n (k + pair_count l) r (nodes_of (tree_rows n k l) c) (small_right h) f in
    subst (Made n k (node l r) c)
    (sym (nodes_append (tree_rows n k l) (tree_rows n (k + pair_count l) r ++ ((number_of n k l, number_of n (k + pair_count l) r, n + (k + pair_count l + pair_count r)) ∷ [])) c
    ∙ nodes_append (tree_rows n (k + pair_count l) r) ((number_of n k l, number_of n (k + pair_count l) r, n + (k + pair_count l + pair_count r)) ∷ []) (nodes_of (tree_rows n k l) c)))
    (join_made n k l r c (nodes_of (tree_rows n k l) c) (nodes_of (tree_rows n (k + pair_count l) r) (nodes_of (tree_rows n k l) c)) (small_left h) (small_right h) a b)

not_its_number : (n k : ℕ) (t : Tree) (y : ℕ) → y < n → has t y ≡ false → y ≡ number_of n k t → ⊥
unfolding number_of has
not_its_number n k (leaf x) y h q e = true≢false (sym (eq-eqb x y (sym e)) ∙ q)
not_its_number n k (node l r) y h q e = omega arith

not_placed : (n k : ℕ) (t : Tree) (y : ℕ) → Small n t → n ≤ y → y < n + k → y ≡ number_of n k t → ⊥
not_placed n k t y h a b e = ⊎_elim (λ p. omega arith) (λ p. omega arith) (number_place n k t h)

both : (n k : ℕ) (l r : Tree) (y : ℕ) → Small n l → Small n r → Apart n k (node l r) y → Both n k l r y
unfolding number_of has pair_count
both n k l r y hl hr (its_root e) =
    record {
      left = behind (omega arith);
      right = behind (omega arith);
      not_left = λ q. omega (arith, number_bound n k l hl);
      not_right = λ q. omega (arith, number_bound n (k + pair_count l) r hr);
    }
both n k l r y hl hr (no_leaf h q) =
    let o : (has l y ≡ false) × (has r y ≡ false) = or_no (has l y) (has r y) q in
    record {
      left = no_leaf h o.0;
      right = no_leaf h o.1;
      not_left = not_its_number n k l y h o.0;
      not_right = not_its_number n (k + pair_count l) r y h o.1;
    }
both n k l r y hl hr (before a b) =
    record {
      left = before a b;
      right = before a (omega arith);
      not_left = not_placed n k l y hl a b;
      not_right = not_placed n (k + pair_count l) r y hr a (omega arith);
    }
both n k l r y hl hr (behind a) =
    record {
      left = behind (omega arith);
      right = behind (omega arith);
      not_left = λ q. omega (arith, number_bound n k l hl);
      not_right = λ q. omega (arith, number_bound n (k + pair_count l) r hr);
    }

apart_named : (n k : ℕ) (t : Tree) (named : ℕ → Bool) (y : ℕ) → Small n t → Apart n k t y → named_by n k t named y ≡ named y
unfolding named_by
apart_named n k (leaf x) named y h a = refl
apart_named n k (node l r) named y h a =
    let b : Both n k l r y = both n k l r y (small_left h) (small_right h) a in
    rw (ne_eqb y (number_of n k l) b.not_left, ne_eqb y (number_of n (k + pair_count l) r) b.not_right)
    (or_false (named_by n (k + pair_count l) r (named_by n k l named) y || false) ∙ or_false (named_by n (k + pair_count l) r (named_by n k l named) y)
    ∙ apart_named n (k + pair_count l) r (named_by n k l named) y (small_right h) b.right ∙ apart_named n k l named y (small_left h) b.left)

number_has : (n k : ℕ) (t : Tree) → number_of n k t < n → has t (number_of n k t) ≡ true
unfolding number_of has
number_has n k (leaf x) h = eq-eqb x x refl
number_has n k (node l r) h = absurd (omega arith)

number_free : (n k : ℕ) (t : Tree) (named : ℕ → Bool) → Small n t → Free n k t named → named (number_of n k t) ≡ false
number_free n k t named h f = ⊎_elim (λ p. f.leaves (number_of n k t) (number_has n k t p)) (λ p. f.nodes (number_of n k t) p) (number_place n k t h)

module _ (n k : ℕ) (l r : Tree) (hl : Small n l) (hr : Small n r) (d : (x : ℕ) → has l x ≡ true → has r x ≡ true → ⊥) where
  not_right_leaf : (x : ℕ) → has l x ≡ true → has r x ≡ false
  not_right_leaf x e = by_test (has r x) (λ q. absurd (d x e q)) (λ q. q)

  not_left_leaf : (x : ℕ) → has r x ≡ true → has l x ≡ false
  not_left_leaf x e = by_test (has l x) (λ q. absurd (d x q e)) (λ q. q)

  left_apart : Apart n (k + pair_count l) r (number_of n k l)
  left_apart =
      ⊎_elim (λ p. no_leaf p (not_right_leaf (number_of n k l) (number_has n k l p)))
      (λ p. before (omega arith) (omega (arith, number_bound n k l hl))) (number_place n k l hl)

  two_numbers : number_of n k l ≡ number_of n (k + pair_count l) r → ⊥
  two_numbers e =
      ⊎_elim (λ p. ⊎_elim (λ q. d (number_of n k l) (number_has n k l p) (subst (λ (x : ℕ). has r x ≡ true) (sym e) (number_has n (k + pair_count l) r q))) (λ q. omega arith) (number_place n (k + pair_count l) r hr))
      (λ p. ⊎_elim (λ q. omega arith) (λ q. omega (arith, number_bound n k l hl)) (number_place n (k + pair_count l) r hr)) (number_place n k l hl)

  module _ (named : ℕ → Bool) (f : Free n k (node l r) named) where
    free_left : Free n k l named
    unfolding has
    free_left = record { leaves = λ x e. f.leaves x (has_left l r x e); nodes = f.nodes }

    free_right : Free n (k + pair_count l) r (named_by n k l named)
    unfolding has
    free_right =
        record {
          leaves = λ x e. apart_named n k l named x hl (no_leaf (hr.below x e) (not_left_leaf x e)) ∙ f.leaves x (has_right l r x e);
          nodes = λ y h. apart_named n k l named y hl (behind (omega arith)) ∙ f.nodes y (omega arith);
        }

    -- the tree's own row is accepted
    own_row : (rest : List Row)
        → row_fault n (k + pair_count l + pair_count r) (named_by n (k + pair_count l) r (named_by n k l named)) ((number_of n k l, number_of n (k + pair_count l) r, n + (k + pair_count l + pair_count r)) ∷ rest)
        ≡ row_fault n (k + pair_count l + pair_count r + 1) (named_by n k (node l r) named) rest
    unfolding row_fault children_below named_twice named_by
    own_row rest =
        let m₁ : ℕ → Bool = named_by n k l named in
        let m₂ : ℕ → Bool = named_by n (k + pair_count l) r m₁ in
        let a : m₂ (number_of n k l) ≡ false =
        apart_named n (k + pair_count l) r m₁ (number_of n k l) hr left_apart ∙ apart_named n k l named (number_of n k l) hl (its_root refl) ∙ number_free n k l named hl free_left in
        let b : m₂ (number_of n (k + pair_count l) r) ≡ false =
        apart_named n (k + pair_count l) r m₁ (number_of n (k + pair_count l) r) hr (its_root refl) ∙ number_free n (k + pair_count l) r m₁ hr free_right in
        let p : ltb (number_of n k l) (n + (k + pair_count l + pair_count r)) ≡ true =
        lt-ltb (number_of n k l) (n + (k + pair_count l + pair_count r)) (omega (arith, number_bound n k l hl)) in
        let q : ltb (number_of n (k + pair_count l) r) (n + (k + pair_count l + pair_count r)) ≡ true =
        lt-ltb (number_of n (k + pair_count l) r) (n + (k + pair_count l + pair_count r)) (omega (arith, number_bound n (k + pair_count l) r hr)) in
        rw (eq-eqb (n + (k + pair_count l + pair_count r)) (n + (k + pair_count l + pair_count r)) refl, p, q, a, b, ne_eqb (number_of n k l) (number_of n (k + pair_count l) r) two_numbers)

leaf_named : (n k x : ℕ) (named : ℕ → Bool) → named_by n k (leaf x) named ≡ named
unfolding named_by
leaf_named n k x named = refl

-- a tree's rows are accepted
rows_accepted : (n k : ℕ) (t : Tree) (named : ℕ → Bool) (rest : List Row) → Small n t → Distinct t → Free n k t named
    → row_fault n k named (tree_rows n k t ++ rest) ≡ row_fault n (k + pair_count t) (named_by n k t named) rest
unfolding tree_rows Distinct pair_count
rows_accepted n k (leaf x) named rest h d f =
    let e : k ≡ k + 0 = omega arith in
    ap₂ (λ (j : ℕ) (m : ℕ → Bool). row_fault n j m rest) e (sym (leaf_named n k x named))
rows_accepted n k (node l r) named rest h d f =
    let row : Row = (number_of n k l, number_of n (k + pair_count l) r, n + (k + pair_count l + pair_count r)) in
    let e : k + pair_count l + pair_count r + 1 ≡ k + (pair_count l + pair_count r + 1) = omega arith in
    ap (row_fault n k named) (append_assoc (tree_rows n k l) (tree_rows n (k + pair_count l) r ++ (row ∷ [])) rest
    ∙ ap (λ (x : List Row). tree_rows n k l ++ x) (append_assoc (tree_rows n (k + pair_count l) r) (row ∷ []) rest))
    ∙ rows_accepted n k l named (tree_rows n (k + pair_count l) r ++ (row ∷ rest)) (small_left h) d.1 (free_left n k l r (small_left h) (small_right h) d.0 named f)
    ∙ rows_accepted n (k + pair_count l) r (named_by n k l named) (row ∷ rest) (small_right h) d.2 (free_right n k l r (small_left h) (small_right h) d.0 named f)
    ∙ own_row n k l r (small_left h) (small_right h) d.0 named f rest
    ∙ ap (λ (j : ℕ). row_fault n j (named_by n k (node l r) named) rest) e

-- the last number is that of the whole tree
last_number : (n : ℕ) (t : Tree) → Small n t → pair_count t + 1 ≡ n → n + (n - 1) - 1 ≡ number_of n 0 t
unfolding number_of pair_count has
last_number n (leaf x) h e = let l : x < n = h.below x (eq-eqb x x refl) in omega arith
last_number n (node l r) h e = omega arith

module _ (n : ℕ) (t : Tree) (h : LeavesBelow n t) (few : n ≤ 16384) where
  pub leaves_small : Small n t
  leaves_small = record { few = few; below = λ x e. ltb-true x n (sym (h.all x) ∙ e) }

  rows_of_tree : closed_rows n (pairs_from 0 t) ≡ tree_rows n 0 t
  unfolding closed_rows rows_for
  rows_of_tree = let e : n ≡ n + 0 = omega arith in
      ap (λ (j : ℕ). tied j (map (λ c. child_number n c.0) (pairs_from 0 t)) (map (λ c. child_number n c.1) (pairs_from 0 t))) e ∙ tree_rows_lem n 0 t leaves_small

  pub closed_length : length (closed_rows n (pairs_from 0 t)) ≡ n - 1
  unfolding closed_rows
  closed_length =
      tied_length n (map (λ c. child_number n c.0) (pairs_from 0 t)) (map (λ c. child_number n c.1) (pairs_from 0 t))
      (length-map (pairs_from 0 t) (λ c. child_number n c.0) ∙ sym (length-map (pairs_from 0 t) (λ c. child_number n c.1)))
      ∙ length-map (pairs_from 0 t) (λ c. child_number n c.0) ∙ pairs_length 0 t ∙ omega (arith, size_pairs t, size_below n t h)

  -- the rows of the closed pairs are an accepted table
  pub closed_accepted : table_fault n (closed_rows n (pairs_from 0 t)) ≡ none
  unfolding table_fault row_fault
  closed_accepted =
      ap (row_fault n 0 (λ c. false)) (rows_of_tree ∙ sym (append-nil (tree_rows n 0 t)))
      ∙ rows_accepted n 0 t (λ c. false) [] leaves_small h.once (record { leaves = λ x e. refl; nodes = λ y e. refl })

  -- and its tree is the tree read
  pub closed_tree : table_tree n (closed_rows n (pairs_from 0 t)) ≡ t
  unfolding table_tree
  closed_tree =
      let m : Made n 0 t leaf (nodes_of (tree_rows n 0 t) leaf) = tree_made n 0 t leaf leaves_small (λ x e. refl) in
      ap₂ (λ (rs : List Row) (k : ℕ). nodes_of rs leaf (n + k - 1)) rows_of_tree closed_length ∙ ap (nodes_of (tree_rows n 0 t) leaf) (last_number n t leaves_small (omega (arith, size_pairs t, size_below n t h))) ∙ m.root
