-- The clades of a table that is read, told by its rows, are those of its tree. Main results: under_has, has_under, rows_clades.
use Rattle.std.specs.Prelude.{◌≡◌, ◌⊎◌, ◌↔◌, Bool, not, ◌||◌, eqb}
use Rattle.std.proofs.Math.Path.{refl, ap, subst}
use Rattle.std.proofs.Common.{sym, ap₂, ◌∙◌, arith}
use Rattle.std.proofs.Math.Logic.{inl, inr, ⊎_elim}
use Rattle.std.proofs.Math.Bool.{true, false}
use Rattle.std.proofs.lemmas.Bool.{false≢true}
use mathlib.Core.List.Memᴰ
use mathlib.Core.List.{List, [], ◌∷◌, Memᴰ}
use Rattle.std.proofs.Math.Option.{none}
use Prim.Native.Nat.{ℕ, zero, suc, ◌+◌, ◌-◌, ◌≤◌, ◌<◌}
use Rattle.std.proofs.Math.Dec.{ltb}
use Rattle.std.proofs.Math.ListN.{length}
use borrow.Author.Tests.{eqb-true, eqb-false, eq-eqb, ne_eqb, ltb-true, ltb-false}
use Rattle.rules.specs.Tree.{Tree, leaf, node, has, Clade, Clusters}
use Rattle.rules.specs.Table.{Row, row_fault, table_fault, nodes_of, table_tree, Under, TableClade}
use Rattle.rules.specs.Table.Under.{itself, left, right}
use Rattle.basics.proofs.Bools.{or_cases, both}
use Rattle.clades.proofs.Leaves.{has_left, has_right, has_cases}
use Rattle.read_tables.specs.Count.{count}
use Rattle.read_tables.proofs.Count.{count_only}
use Rattle.written_tables.specs.Nodes.{noded}
use Rattle.read_tables.specs.Forest.{named_also, named_in, RowOk}
use Rattle.read_tables.proofs.Forest.{fault_none, forest_table}
use Rattle.read_tables.specs.Clades.{Linked}

-- later rows leave the nodes below theirs as they are
pub nodes_keep : (n t : ℕ) (named : ℕ → Bool) (c : Clusters) (rs : List Row) → row_fault n t named rs ≡ none → (k : ℕ) → k < n + t → nodes_of rs c k ≡ c k
unfolding nodes_of
nodes_keep n t named c [] e k h = refl
nodes_keep n t named c (r ∷ rs) e k h =
    let q = fault_none n t named r rs e in
    nodes_keep n (t + 1) (named_also named r) (noded c r) rs q.1 k (omega arith)
    ∙ rw (ne_eqb k r.2 (λ z. let y = q.0.parent in omega arith))

row_linked : (n t : ℕ) (named : ℕ → Bool) (c : Clusters) (rs : List Row) → row_fault n t named rs ≡ none → (r : Row) → Memᴰ r rs
    → Linked (n + t) (n + t + length rs) (nodes_of rs c) r
unfolding nodes_of Linked
row_linked n t named c [] e r m = absurd (Memᴰ.not-nil m)
row_linked n t named c (x ∷ rs) e r m = go (Memᴰ.cases_cons m) (row_linked n (t + 1) (named_also named x) (noded c x) rs (fault_none n t named x rs e).1 r)
  where
    R : RowOk n t named x
    R = (fault_none n t named x rs e).0

    kept : (k : ℕ) → k < n + (t + 1) → nodes_of rs (noded c x) k ≡ noded c x k
    kept = nodes_keep n (t + 1) (named_also named x) (noded c x) rs (fault_none n t named x rs e).1

    old : (k : ℕ) → k < n + t → nodes_of rs (noded c x) k ≡ c k
    old k h = kept k (omega arith) ∙ rw (ne_eqb k x.2 (λ z. let y = R.parent in omega arith))

    here : Linked (n + t) (n + t + length (x ∷ rs)) (nodes_of rs (noded c x)) x
    here = (
      omega (arith, R.first, R.parent),
      omega (arith, R.second, R.parent),
      omega (arith, R.parent),
      omega (arith, R.parent),
      kept x.2 (omega (arith, R.parent)) ∙ rw (eq-eqb x.2 x.2 refl) (ap₂ node (sym (old x.0 R.first)) (sym (old x.1 R.second))),
    )

    go : (r ≡ x) ⊎ Memᴰ r rs → (Memᴰ r rs → Linked (n + (t + 1)) (n + (t + 1) + length rs) (nodes_of rs (noded c x)) r)
        → Linked (n + t) (n + t + length (x ∷ rs)) (nodes_of rs (noded c x)) r
    go (inl q) f = subst (λ (y : Row). Linked (n + t) (n + t + length (x ∷ rs)) (nodes_of rs (noded c x)) y) (sym q) here
    go (inr k) f = let L = f k in (L.0, L.1, omega (arith, L.2), omega (arith, L.3), L.4)

-- each number from n on is a row's parent
row_at : (n t : ℕ) (named : ℕ → Bool) (rs : List Row) → row_fault n t named rs ≡ none → (k : ℕ) → n + t ≤ k → k < n + t + length rs → (r : Row) × Memᴰ r rs × (r.2 ≡ k)
row_at n t named [] e k a b = absurd (omega arith)
row_at n t named (x ∷ rs) e k a b = go (eqb k (n + t)) refl (λ h. row_at n (t + 1) (named_also named x) rs (fault_none n t named x rs e).1 k h (omega arith))
  where
    go : (y : Bool) → eqb k (n + t) ≡ y → (n + (t + 1) ≤ k → (r : Row) × Memᴰ r rs × (r.2 ≡ k)) → (r : Row) × Memᴰ r (x ∷ rs) × (r.2 ≡ k)
    go true q f = (x, Memᴰ.head refl, (fault_none n t named x rs e).0.parent ∙ sym (eqb-true k (n + t) q))
    go false q f = let z = eqb-false k (n + t) q in let s = f (omega arith) in (s.0, Memᴰ.tail s.1, s.2)

-- a node that is named is a row's child
row_of : (named : ℕ → Bool) (rs : List Row) (k : ℕ) → named_in named rs k ≡ true → (named k ≡ true) ⊎ ((r : Row) × Memᴰ r rs × ((r.0 ≡ k) ⊎ (r.1 ≡ k)))
unfolding named_in named_also
row_of named [] k e = inl e
row_of named (x ∷ rs) k e = go (row_of (named_also named x) rs k e)
  where
    here : (named k || eqb k x.0 ≡ true) ⊎ (eqb k x.1 ≡ true) → (named k ≡ true) ⊎ ((r : Row) × Memᴰ r (x ∷ rs) × ((r.0 ≡ k) ⊎ (r.1 ≡ k)))
    here (inl h) = ⊎_elim (λ a. inl a) (λ a. inr (x, Memᴰ.head refl, inl (sym (eqb-true k x.0 a)))) (or_cases (named k) (eqb k x.0) h)
    here (inr h) = inr (x, Memᴰ.head refl, inr (sym (eqb-true k x.1 h)))

    go : (named_also named x k ≡ true) ⊎ ((r : Row) × Memᴰ r rs × ((r.0 ≡ k) ⊎ (r.1 ≡ k))) → (named k ≡ true) ⊎ ((r : Row) × Memᴰ r (x ∷ rs) × ((r.0 ≡ k) ⊎ (r.1 ≡ k)))
    go (inl h) = here (or_cases (named k || eqb k x.0) (eqb k x.1) h)
    go (inr s) = inr (s.0, Memᴰ.tail s.1, s.2)

-- An accepted table.
module _ (n : ℕ) (rs : List Row) (ok : table_fault n rs ≡ none) where
  abbrev nodes : Clusters
  nodes = nodes_of rs leaf

  abbrev taken : ℕ → Bool
  taken = named_in (λ c. false) rs

  linked : (r : Row) → Memᴰ r rs → Linked (n + 0) (n + 0 + length rs) nodes r
  unfolding table_fault
  linked = row_linked n 0 (λ c. false) leaf rs ok

  leaves : (k : ℕ) → k < n → nodes k ≡ leaf k
  unfolding table_fault
  leaves k h = nodes_keep n 0 (λ c. false) leaf rs ok k (omega arith)

  row : (k : ℕ) → n ≤ k → k < n + length rs → (r : Row) × Memᴰ r rs × (r.2 ≡ k)
  unfolding table_fault
  row k a b = row_at n 0 (λ c. false) rs ok k (omega arith) (omega arith)

  -- node k is a leaf or the pair of two lower nodes, by a row
  unfoldable Node : ℕ → Type 0
  Node k = (r : Row) × Memᴰ r rs × (r.2 ≡ k) × (r.0 < k) × (r.1 < k) × (nodes k ≡ node (nodes r.0) (nodes r.1))

  node_of : (k : ℕ) → k < n + length rs → (nodes k ≡ leaf k) ⊎ Node k
  unfolding Linked Node
  node_of k h = go (ltb k n) refl
    where
      go : (b : Bool) → ltb k n ≡ b → (nodes k ≡ leaf k) ⊎ Node k
      go true e = inl (leaves k (ltb-true k n e))
      go false e =
          let s = row k (ltb-false k n e) h in
          let L = linked s.0 s.1 in
          let q = s.2 in
          inr (s.0, s.1, q, omega (arith, L.0), omega (arith, L.1), ap nodes (sym q) ∙ L.4)

  -- the leaves under a node, by the rows, are those of its tree
  pub under_has : {x k : ℕ} → x < n → Under rs x k → has (nodes k) x ≡ true
  unfolding Linked has
  under_has {x} h itself = rw (leaves x h) (eq-eqb x x refl)
  under_has {x} h (left r m d) = rw (linked r m).4 (has_left (nodes r.0) (nodes r.1) x (under_has h d))
  under_has {x} h (right r m d) = rw (linked r m).4 (has_right (nodes r.0) (nodes r.1) x (under_has h d))

  pub has_under : (b k x : ℕ) → k < b → k < n + length rs → has (nodes k) x ≡ true → Under rs x k
  unfolding Node has
  has_under zero k x l h e = absurd (omega arith)
  has_under (suc b) k x l h e = go (node_of k h) (λ j a g f. has_under b j x a g f)
    where
      go : (nodes k ≡ leaf k) ⊎ Node k → ((j : ℕ) → j < b → j < n + length rs → has (nodes j) x ≡ true → Under rs x j) → Under rs x k
      go (inl q) f =
          let z : k ≡ x = eqb-true k x (rw q at e) in
          subst (λ (y : ℕ). Under rs x y) (sym z) itself
      go (inr s) f = ⊎_elim
          (λ d. subst (λ (y : ℕ). Under rs x y) s.2 (left s.0 s.1 (f s.0.0 (omega (arith, s.3)) (omega (arith, s.3)) d)))
          (λ d. subst (λ (y : ℕ). Under rs x y) s.2 (right s.0 s.1 (f s.0.1 (omega (arith, s.4)) (omega (arith, s.4)) d)))
          (has_cases (nodes s.0.0) (nodes s.0.1) x (rw s.5 at e))

  -- a clade of a node's tree is the leaf set of one of the nodes
  clade_node : (b k : ℕ) (c : ℕ → Bool) → k < b → k < n + length rs → Clade (nodes k) c → (j : ℕ) × (j < n + length rs) × ((x : ℕ) → c x ≡ has (nodes j) x)
  unfolding Node Clade
  clade_node zero k c l h d = absurd (omega arith)
  clade_node (suc b) k c l h d = go (node_of k h) (λ j a g f. clade_node b j c a g f)
    where
      part : (s : Node k) → ((j : ℕ) → j < b → j < n + length rs → Clade (nodes j) c → (i : ℕ) × (i < n + length rs) × ((x : ℕ) → c x ≡ has (nodes i) x))
          → Clade (node (nodes s.0.0) (nodes s.0.1)) c → (j : ℕ) × (j < n + length rs) × ((x : ℕ) → c x ≡ has (nodes j) x)
      part s f (inl q) = (k, h, λ x. q x ∙ ap (λ (t : Tree). has t x) (sym s.5))
      part s f (inr (inl q)) = f s.0.0 (omega (arith, s.3)) (omega (arith, s.3)) q
      part s f (inr (inr q)) = f s.0.1 (omega (arith, s.4)) (omega (arith, s.4)) q

      go : (nodes k ≡ leaf k) ⊎ Node k → ((j : ℕ) → j < b → j < n + length rs → Clade (nodes j) c → (i : ℕ) × (i < n + length rs) × ((x : ℕ) → c x ≡ has (nodes i) x))
          → (j : ℕ) × (j < n + length rs) × ((x : ℕ) → c x ≡ has (nodes j) x)
      go (inl q) f =
          let z : Clade (leaf k) c = subst (λ (t : Tree). Clade t c) q d in
          (k, h, λ x. z x ∙ ap (λ (t : Tree). has t x) (sym q))
      go (inr s) f = part s f (subst (λ (t : Tree). Clade t c) s.5 d)

  -- the leaf set of a tree is a clade of it
  clade_whole : (t : Tree) (c : ℕ → Bool) → ((x : ℕ) → c x ≡ has t x) → Clade t c
  unfolding Clade
  clade_whole (leaf y) c h = h
  clade_whole (node a b) c h = inl h

  module _ (long : length rs ≡ n - 1) (some_leaf : 1 ≤ n) where
    abbrev root : ℕ
    root = n + length rs - 1

    -- a node that no row names is the last one
    root_is : (k : ℕ) → k < n + length rs → taken k ≡ false → k ≡ root
    root_is k h e =
        let F = forest_table n rs ok in
        let one : count (λ j. not (taken j)) (n + length rs) ≡ 1 = omega (arith, F.left) in
        count_only (λ j. not (taken j)) k root (n + length rs) one h (omega arith) (rw e) (rw (F.last some_leaf))

    -- a clade of a node's tree is a clade of the whole
    clade_up : (b k : ℕ) (c : ℕ → Bool) → n + length rs ≤ k + b → k < n + length rs → Clade (nodes k) c → Clade (nodes root) c
    unfolding Linked Clade
    clade_up zero k c l h d = absurd (omega arith)
    clade_up (suc b) k c l h d = go (taken k) refl (λ j a g f. clade_up b j c a g f)
      where
        go : (y : Bool) → taken k ≡ y → ((j : ℕ) → n + length rs ≤ j + b → j < n + length rs → Clade (nodes j) c → Clade (nodes root) c) → Clade (nodes root) c
        go false e f = subst (λ (j : ℕ). Clade (nodes j) c) (root_is k h e) d
        go true e f = ⊎_elim (λ z. absurd (false≢true z)) child (row_of (λ c. false) rs k e)
          where
            child : (r : Row) × Memᴰ r rs × ((r.0 ≡ k) ⊎ (r.1 ≡ k)) → Clade (nodes root) c
            child s = at s.2
              where
                L : Linked (n + 0) (n + 0 + length rs) nodes s.0
                L = linked s.0 s.1

                wider : Clade (node (nodes s.0.0) (nodes s.0.1)) c → k < s.0.2 → Clade (nodes root) c
                wider q a = f s.0.2 (omega arith) (omega (arith, L.3)) (subst (λ (t : Tree). Clade t c) (sym L.4) q)

                at : (s.0.0 ≡ k) ⊎ (s.0.1 ≡ k) → Clade (nodes root) c
                at (inl q) = wider (inr (inl (subst (λ (j : ℕ). Clade (nodes j) c) (sym q) d))) (omega (arith, L.0))
                at (inr q) = wider (inr (inr (subst (λ (j : ℕ). Clade (nodes j) c) (sym q) d))) (omega (arith, L.1))

    -- the two ways to say the leaves under a node
    leaf_set : (k : ℕ) (c : ℕ → Bool) → k < n + length rs → ((x : ℕ) → c x ≡ has (nodes k) x) → (x : ℕ) → (c x ≡ true) ↔ ((x < n) × Under rs x k)
    leaf_set k c h e x = (
      λ q. ((forest_table n rs ok).below k x h (sym (e x) ∙ q), has_under (suc k) k x (omega arith) h (sym (e x) ∙ q)),
      λ q. e x ∙ under_has q.0 q.1,
    )

    set_leaf : (k : ℕ) (c : ℕ → Bool) → k < n + length rs → ((x : ℕ) → (c x ≡ true) ↔ ((x < n) × Under rs x k)) → (x : ℕ) → c x ≡ has (nodes k) x
    set_leaf k c h e x = both (c x) (has (nodes k) x)
        (λ q. let u = (e x).0 q in under_has u.0 u.1)
        (λ q. (e x).1 ((forest_table n rs ok).below k x h q, has_under (suc k) k x (omega arith) h q))

-- the clades of an accepted table, by its rows, are those of its tree
pub rows_clades : (n : ℕ) (rs : List Row) → table_fault n rs ≡ none → length rs ≡ n - 1 → 1 ≤ n → (c : ℕ → Bool) → Clade (table_tree n rs) c ↔ TableClade n rs c
unfolding table_tree TableClade
rows_clades n rs ok long some_leaf c = (
  λ d. let s = clade_node n rs ok (n + length rs) (n + length rs - 1) c (omega arith) (omega arith) d in (s.0, s.1, leaf_set n rs ok long some_leaf s.0 c s.1 s.2),
  λ s. clade_up n rs ok long some_leaf (n + length rs) s.0 c (omega arith) s.1
      (clade_whole n rs ok (nodes_of rs leaf s.0) c (set_leaf n rs ok long some_leaf s.0 c s.1 s.2)),
)
