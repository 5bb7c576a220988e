-- What accepted rows leave: the nodes not yet named as a child have disjoint leaf sets that together are 0..n-1; after n-1 rows one is left. Main
-- results: forest_start, forest_next, forest_rows, forest_end, rows_make_a_tree.
use Rattle.std.specs.Prelude.{◌≡◌, refl, ◌≢◌, ◌⊎◌, Bool, true, false, ◌&&◌, ◌||◌, cond, List, [], ◌∷◌, ◌++◌, ltb, length}
use Rattle.std.proofs.Common.{sym, ap, ◌∙◌, inl, inr}
use Rattle.std.proofs.Math.Logic.{⊎_elim}
use Rattle.std.proofs.Math.Bool.{not}
use Rattle.std.proofs.lemmas.Bool.{false≢true}
use Rattle.std.proofs.Math.Option.{none, some, none-ne-some}
use Prim.Native.Nat.{ℕ, suc, ◌+◌, ◌-◌, ◌≤◌, ◌<◌}
use native.Mathlib.Omega.{arith}
use Rattle.std.proofs.Math.Dec.{eqb}
use borrow.Author.Tests.{eqb-true, eqb-false, eq-eqb, ne_eqb, ltb-true, lt-ltb}
use Rattle.rules.specs.Tree.{leaf, node, has, Distinct, LeavesBelow, Clusters}
use Rattle.rules.specs.Table.{Row, children_below, named_twice, row_fault, table_fault, nodes_of, table_tree}
use Rattle.basics.proofs.Bools.{or_cases, or_no, or_false, both}
use Rattle.clades.proofs.Leaves.{has_left, has_right, has_cases}
use Rattle.written_tables.specs.Nodes.{noded}
use Rattle.read_tables.specs.Count.{bit, count}
use Rattle.read_tables.proofs.Count.{last_or_before, count_all, count_without, count_only}
use Rattle.read_tables.specs.Forest.{named_also, named_in, RowOk, Forest}

pub forest_start : (n : ℕ) → Forest n 0 (λ c. false) leaf
unfolding has Distinct
forest_start n = record {
  early = λ k e. absurd (false≢true e);
  last = λ h. refl;
  left = omega (arith, count_all (λ k. true) (n + 0) (λ x h. refl));
  once = λ k h. tt;
  below = λ k x h e. omega (arith, eqb-true k x e);
  apart = λ k h x a b p q e d. eqb-true k x e ∙ sym (eqb-true h x d);
  cover = λ x h. (x, omega arith, refl, eq-eqb x x refl);
}

pub named_no : (named : ℕ → Bool) (r : Row) (k : ℕ) → named_also named r k ≡ false → (named k ≡ false) × (k ≢ r.0) × (k ≢ r.1)
unfolding named_also
named_no named r k e =
    let a = or_no (named k || eqb k r.0) (eqb k r.1) e in
    let b = or_no (named k) (eqb k r.0) a.0 in
    (b.0, eqb-false k r.0 b.1, eqb-false k r.1 a.1)

named_not : (named : ℕ → Bool) (r : Row) (k : ℕ) → named k ≡ false → k ≢ r.0 → k ≢ r.1 → named_also named r k ≡ false
unfolding named_also
named_not named r k e h j = rw (e, ne_eqb k r.0 h, ne_eqb k r.1 j)

-- One row more.
module _ (n t : ℕ) (named : ℕ → Bool) (c : Clusters) (r : Row) (F : Forest n t named c) (R : RowOk n t named r) where
  noded_new : (k : ℕ) → k ≡ n + t → noded c r k ≡ node (c r.0) (c r.1)
  noded_new k e = rw (eq-eqb k r.2 (e ∙ sym R.parent))

  noded_old : (k : ℕ) → k < n + t → noded c r k ≡ c k
  noded_old k h = rw (ne_eqb k r.2 (λ e. let z = R.parent in omega arith))

  new_or_old : (k : ℕ) → k < n + (t + 1) → (k ≡ n + t) ⊎ (k < n + t)
  new_or_old k h = last_or_before (n + t) k (omega arith)

  next_early : (k : ℕ) → named_also named r k ≡ true → k < n + (t + 1)
  unfolding named_also
  next_early k e = go (or_cases (named k || eqb k r.0) (eqb k r.1) e)
    where
      go : (named k || eqb k r.0 ≡ true) ⊎ (eqb k r.1 ≡ true) → k < n + (t + 1)
      go (inl h) = ⊎_elim (λ a. omega (arith, F.early k a)) (λ a. omega (arith, eqb-true k r.0 a, R.first)) (or_cases (named k) (eqb k r.0) h)
      go (inr h) = omega (arith, eqb-true k r.1 h, R.second)

  new_free : named_also named r (n + t) ≡ false
  new_free = named_not named r (n + t) (old (named (n + t)) refl) (λ e. let z = R.first in omega arith) (λ e. let z = R.second in omega arith)
    where
      old : (b : Bool) → named (n + t) ≡ b → named (n + t) ≡ false
      old true e = absurd (omega (arith, F.early (n + t) e))
      old false e = e

  next_left : count (λ k. not (named_also named r k)) (n + (t + 1)) + (t + 1) ≡ n
  unfolding named_also count bit
  next_left =
      let e : n + (t + 1) ≡ suc (n + t) = omega arith in
      let one = count_without (λ k. not (named k)) (λ k. not (named k || eqb k r.0)) r.0 (n + t) R.first
      (rw R.first_new) (rw (R.first_new, eq-eqb r.0 r.0 refl)) (λ x h. rw (ne_eqb x r.0 h) (ap not (or_false (named x)))) in
      let two = count_without (λ k. not (named k || eqb k r.0)) (λ k. not (named k || eqb k r.0 || eqb k r.1)) r.1 (n + t) R.second
      (rw (R.second_new, ne_eqb r.1 r.0 (λ q. R.differ (sym q)))) (rw (R.second_new, ne_eqb r.1 r.0 (λ q. R.differ (sym q)), eq-eqb r.1 r.1 refl))
      (λ x h. rw (ne_eqb x r.1 h) (ap not (or_false (named x || eqb x r.0)))) in
      rw (e, new_free) (omega (arith, F.left))

  next_once : (k : ℕ) → k < n + (t + 1) → Distinct (noded c r k)
  unfolding Distinct
  next_once k h = go (new_or_old k h)
    where
      go : (k ≡ n + t) ⊎ (k < n + t) → Distinct (noded c r k)
      go (inl e) = rw (noded_new k e) (
        λ x a b. R.differ (F.apart r.0 r.1 x R.first R.second R.first_new R.second_new a b),
        F.once r.0 R.first,
        F.once r.1 R.second,
      )
      go (inr l) = rw (noded_old k l) (F.once k l)

  next_below : (k x : ℕ) → k < n + (t + 1) → has (noded c r k) x ≡ true → x < n
  next_below k x h e = go (new_or_old k h)
    where
      go : (k ≡ n + t) ⊎ (k < n + t) → x < n
      go (inl q) = ⊎_elim (F.below r.0 x R.first) (F.below r.1 x R.second) (has_cases (c r.0) (c r.1) x (rw (noded_new k q) at e))
      go (inr l) = F.below k x l (rw (noded_old k l) at e)

  -- an old node that is still free has no leaf of the new one
  old_apart : (k x : ℕ) → k < n + t → named_also named r k ≡ false → has (c k) x ≡ true → has (node (c r.0) (c r.1)) x ≡ true → ⊥
  old_apart k x h e d f =
      let q = named_no named r k e in
      ⊎_elim (λ g. q.1 (F.apart k r.0 x h R.first q.0 R.first_new d g))
      (λ g. q.2 (F.apart k r.1 x h R.second q.0 R.second_new d g)) (has_cases (c r.0) (c r.1) x f)

  next_apart : (k h x : ℕ) → k < n + (t + 1) → h < n + (t + 1) → named_also named r k ≡ false → named_also named r h ≡ false
      → has (noded c r k) x ≡ true → has (noded c r h) x ≡ true → k ≡ h
  next_apart k h x a b p q e d = go (new_or_old k a) (new_or_old h b)
    where
      go : (k ≡ n + t) ⊎ (k < n + t) → (h ≡ n + t) ⊎ (h < n + t) → k ≡ h
      go (inl y) (inl z) = y ∙ sym z
      go (inl y) (inr z) = absurd (old_apart h x z q (rw (noded_old h z) at d) (rw (noded_new k y) at e))
      go (inr y) (inl z) = absurd (old_apart k x y p (rw (noded_old k y) at e) (rw (noded_new h z) at d))
      go (inr y) (inr z) = F.apart k h x y z (named_no named r k p).0 (named_no named r h q).0 (rw (noded_old k y) at e) (rw (noded_old h z) at d)

  next_cover : (x : ℕ) → x < n → (k : ℕ) × (k < n + (t + 1)) × (named_also named r k ≡ false) × (has (noded c r k) x ≡ true)
  next_cover x h = go (F.cover x h)
    where
      new : has (node (c r.0) (c r.1)) x ≡ true → (k : ℕ) × (k < n + (t + 1)) × (named_also named r k ≡ false) × (has (noded c r k) x ≡ true)
      new e = (n + t, omega arith, new_free, rw (noded_new (n + t) refl) e)

      go : (k : ℕ) × (k < n + t) × (named k ≡ false) × (has (c k) x ≡ true) → (k : ℕ) × (k < n + (t + 1)) × (named_also named r k ≡ false) × (has (noded c r k) x ≡ true)
      go k = at (eqb k.0 r.0) (eqb k.0 r.1) refl refl
        where
          at : (a b : Bool) → eqb k.0 r.0 ≡ a → eqb k.0 r.1 ≡ b → (k : ℕ) × (k < n + (t + 1)) × (named_also named r k ≡ false) × (has (noded c r k) x ≡ true)
          at true b p q = new (has_left (c r.0) (c r.1) x (rw (eqb-true k.0 r.0 p) at k.3))
          at false true p q = new (has_right (c r.0) (c r.1) x (rw (eqb-true k.0 r.1 q) at k.3))
          at false false p q = (
            k.0,
            omega (arith, k.1),
            named_not named r k.0 k.2 (eqb-false k.0 r.0 p) (eqb-false k.0 r.1 q),
            rw (noded_old k.0 k.1) k.3,
          )

  pub forest_next : Forest n (t + 1) (named_also named r) (noded c r)
  forest_next = record {
    early = next_early;
    last = λ h. let e : n + (t + 1) - 1 ≡ n + t = omega arith in rw e new_free;
    left = next_left;
    once = next_once;
    below = next_below;
    apart = next_apart;
    cover = next_cover;
  }

-- a row that is no fault is accepted, and the rest has no fault
pub fault_none : (n t : ℕ) (named : ℕ → Bool) (r : Row) (rs : List Row) → row_fault n t named (r ∷ rs) ≡ none
    → RowOk n t named r × (row_fault n (t + 1) (named_also named r) rs ≡ none)
unfolding row_fault children_below named_twice named_also
fault_none n t named r rs e = go (eqb r.2 (n + t)) refl (ltb r.0 (n + t)) refl (ltb r.1 (n + t)) refl (named r.0) refl (named r.1) refl (eqb r.0 r.1) refl e
  where
    go : (a : Bool) → eqb r.2 (n + t) ≡ a → (b : Bool) → ltb r.0 (n + t) ≡ b → (c : Bool) → ltb r.1 (n + t) ≡ c
        → (x : Bool) → named r.0 ≡ x → (y : Bool) → named r.1 ≡ y → (z : Bool) → eqb r.0 r.1 ≡ z
        → cond (not a) (some (5, t)) (cond (not (b && c)) (some (6, t)) (cond (x || y || z) (some (7, t)) (row_fault n (t + 1) (named_also named r) rs))) ≡ none
        → RowOk n t named r × (row_fault n (t + 1) (named_also named r) rs ≡ none)
    go false p b q c s x u y v z w f = absurd (none-ne-some (5, t) (sym f))
    go true p false q c s x u y v z w f = absurd (none-ne-some (6, t) (sym f))
    go true p true q false s x u y v z w f = absurd (none-ne-some (6, t) (sym f))
    go true p true q true s true u y v z w f = absurd (none-ne-some (7, t) (sym f))
    go true p true q true s false u true v z w f = absurd (none-ne-some (7, t) (sym f))
    go true p true q true s false u false v true w f = absurd (none-ne-some (7, t) (sym f))
    go true p true q true s false u false v false w f = (
      record {
        parent = eqb-true r.2 (n + t) p;
        first = ltb-true r.0 (n + t) q;
        second = ltb-true r.1 (n + t) s;
        first_new = u;
        second_new = v;
        differ = eqb-false r.0 r.1 w;
      },
      f,
    )

-- and the other way round
pub fault_step : (n t : ℕ) (named : ℕ → Bool) (r : Row) (rs : List Row) → RowOk n t named r
    → row_fault n t named (r ∷ rs) ≡ row_fault n (t + 1) (named_also named r) rs
unfolding row_fault children_below named_twice named_also
fault_step n t named r rs R =
    rw (eq-eqb r.2 (n + t) R.parent, lt-ltb r.0 (n + t) R.first, lt-ltb r.1 (n + t) R.second, R.first_new, R.second_new, ne_eqb r.0 r.1 R.differ)

-- accepted rows leave a forest
pub forest_rows : (n t : ℕ) (named : ℕ → Bool) (c : Clusters) (rs : List Row) → Forest n t named c → row_fault n t named rs ≡ none
    → Forest n (t + length rs) (named_in named rs) (nodes_of rs c)
unfolding named_in nodes_of
forest_rows n t named c [] F e = let z : t + 0 ≡ t = omega arith in rw z F
forest_rows n t named c (r ∷ rs) F e =
    let k = fault_none n t named r rs e in
    let z : t + suc (length rs) ≡ t + 1 + length rs = omega arith in
    rw z (forest_rows n (t + 1) (named_also named r) (noded c r) rs (forest_next n t named c r F k.0) k.1)

-- n-1 rows leave one tree, at the last node
pub forest_end : (n t : ℕ) (named : ℕ → Bool) (c : Clusters) → Forest n t named c → t + 1 ≡ n → LeavesBelow n (c (n + t - 1))
forest_end n t named c F e = record {
  once = F.once (n + t - 1) (omega arith);
  all = λ x. both (has (c (n + t - 1)) x) (ltb x n) (λ h. lt-ltb x n (F.below (n + t - 1) x (omega arith) h)) (λ h. there x (F.cover x (ltb-true x n h)));
}
  where
    there : (x : ℕ) → (k : ℕ) × (k < n + t) × (named k ≡ false) × (has (c k) x ≡ true) → has (c (n + t - 1)) x ≡ true
    there x k =
        let one : count (λ k. not (named k)) (n + t) ≡ 1 = omega (arith, F.left) in
        let q = count_only (λ k. not (named k)) k.0 (n + t - 1) (n + t) one k.1 (omega arith) (rw k.2) (rw (F.last (omega arith))) in
        rw q at k.3

-- the same for a whole table
pub forest_table : (n : ℕ) (rs : List Row) → table_fault n rs ≡ none → Forest n (length rs) (named_in (λ c. false) rs) (nodes_of rs leaf)
unfolding table_fault
forest_table n rs e =
    let z : 0 + length rs ≡ length rs = omega arith in
    rw z at (forest_rows n 0 (λ c. false) leaf rs (forest_start n) e)

-- an accepted table of n-1 rows makes a tree of the leaves 0 to n-1
pub rows_make_a_tree : (n : ℕ) (rs : List Row) → table_fault n rs ≡ none → length rs ≡ n - 1 → 1 ≤ n → LeavesBelow n (table_tree n rs)
unfolding table_tree
rows_make_a_tree n rs e h p = forest_end n (length rs) (named_in (λ c. false) rs) (nodes_of rs leaf) (forest_table n rs e) (omega arith)

-- the last row of rows: what the children are, and the nodes
pub named_snoc : (named : ℕ → Bool) (rs : List Row) (r : Row) → named_in named (rs ++ (r ∷ [])) ≡ named_also (named_in named rs) r
unfolding named_in
named_snoc named [] r = refl
named_snoc named (x ∷ rs) r = named_snoc (named_also named x) rs r

pub nodes_snoc : (c : Clusters) (rs : List Row) (r : Row) → nodes_of (rs ++ (r ∷ [])) c ≡ noded (nodes_of rs c) r
unfolding nodes_of
nodes_snoc c [] r = refl
nodes_snoc c (x ∷ rs) r = nodes_snoc (noded c x) rs r

-- after rows with no fault the first fault is that of the rows behind them
pub fault_append : (n t : ℕ) (named : ℕ → Bool) (rs qs : List Row) → row_fault n t named rs ≡ none
    → row_fault n t named (rs ++ qs) ≡ row_fault n (t + length rs) (named_in named rs) qs
unfolding named_in
fault_append n t named [] qs e = let z : t + 0 ≡ t = omega arith in rw z
fault_append n t named (r ∷ rs) qs e =
    let k = fault_none n t named r rs e in
    let z : t + suc (length rs) ≡ t + 1 + length rs = omega arith in
    rw z (fault_step n t named r (rs ++ qs) k.0 ∙ fault_append n (t + 1) (named_also named r) rs qs k.1)
