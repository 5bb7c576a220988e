-- The rows of a table with renamed leaves. Main results: renamed_fault, renamed_tree, renamed_rows_lem.
use Rattle.std.specs.Prelude.{◌≡◌, Bool, false, ◌||◌, ℕ, zero, suc, ◌+◌, ◌-◌, ◌≤◌, ◌<◌, ltb, get_or}
use Rattle.std.proofs.Math.Path.{refl, ap}
use Rattle.std.proofs.Common.{sym, ◌∙◌, arith}
use mathlib.Core.List.{List, [], ◌∷◌}
use Rattle.std.proofs.Math.Option.{none}
use Rattle.std.proofs.Math.Dec.{eqb}
use Rattle.std.proofs.Math.ListN.{length}
use Rattle.std.proofs.lemmas.List.{length-map}
use borrow.Author.Tests.{lt-ltb, le-ltb, eq-eqb, ne_eqb}
use Rattle.rules.specs.Vector.{entry}
use Rattle.rules.specs.Tree.{leaf, Clusters}
use Rattle.rules.specs.Table.{Row, children_below, named_twice, row_fault, table_fault, nodes_of, table_tree}
use Rattle.rules.specs.Shuffle.{renamed, permutation_fault}
use Rattle.basics.proofs.Cases.{by_lt, by_eq}
use Rattle.written_tables.specs.Nodes.{noded, Stands}
use Rattle.written_tables.proofs.Nodes.{accepted_stands}
use Rattle.shuffle_laws.specs.Permutation.{Permutes}
use Rattle.shuffle_laws.proofs.Permutation.{permutes, entry_below, entry_injective}
use Rattle.shuffle_laws.specs.Rows.{renamed_child, renamed_row, renamed_rows}

pub child_leaf : (n : ℕ) (p : List ℕ) (c : ℕ) → c < n → renamed_child n p c ≡ entry p c
unfolding renamed_child
child_leaf n p c h = rw (lt-ltb c n h)

pub child_inner : (n : ℕ) (p : List ℕ) (c : ℕ) → n ≤ c → renamed_child n p c ≡ c
unfolding renamed_child
child_inner n p c h = rw (le-ltb c n h)

pub length_renamed : (n : ℕ) (p : List ℕ) (rs : List Row) → length (renamed_rows n p rs) ≡ length rs
unfolding renamed_rows
length_renamed n p rs = length-map rs (renamed_row n p)

pub getD_renamed : (n : ℕ) (p : List ℕ) (rs : List Row) (j : ℕ) (d : Row) → j < length rs
    → get_or (renamed_rows n p rs) j d ≡ renamed_row n p (get_or rs j d)
unfolding renamed_rows
getD_renamed n p [] j d h = absurd (omega arith)
getD_renamed n p (r ∷ rs) zero d h = refl
getD_renamed n p (r ∷ rs) (suc j) d h = getD_renamed n p rs j d (omega arith)

pub row_renamed : (n : ℕ) (p : List ℕ) (l r t : ℕ) → renamed_row n p (l, r, t) ≡ (renamed_child n p l, renamed_child n p r, t)
unfolding renamed_row
row_renamed n p l r t = refl

module _ {n : ℕ} {p : List ℕ} (P : Permutes n p) where
  child_below : (c m : ℕ) → n ≤ m → ltb (renamed_child n p c) m ≡ ltb c m
  child_below c m h =
      by_lt c n
      (λ l. ap (λ (x : ℕ). ltb x m) (child_leaf n p c l) ∙ lt-ltb (entry p c) m (omega (arith, entry_below P c l)) ∙ sym (lt-ltb c m (omega arith)))
      (λ k. ap (λ (x : ℕ). ltb x m) (child_inner n p c k))

  child_injective : (c d : ℕ) → renamed_child n p c ≡ renamed_child n p d → c ≡ d
  child_injective c d e =
      by_lt c n
      (λ l. by_lt d n
      (λ l'. entry_injective P c d l l' (sym (child_leaf n p c l) ∙ e ∙ child_leaf n p d l'))
      (λ k'. absurd (omega (arith, e, child_leaf n p c l, child_inner n p d k', entry_below P c l))))
      (λ k. by_lt d n
      (λ l'. absurd (omega (arith, e, child_inner n p c k, child_leaf n p d l', entry_below P d l')))
      (λ k'. sym (child_inner n p c k) ∙ e ∙ child_inner n p d k'))

  child_same : (c d : ℕ) → eqb (renamed_child n p c) (renamed_child n p d) ≡ eqb c d
  child_same c d =
      by_eq c d
      (λ e. eq-eqb (renamed_child n p c) (renamed_child n p d) (ap (renamed_child n p) e) ∙ sym (eq-eqb c d e))
      (λ ne. ne_eqb (renamed_child n p c) (renamed_child n p d) (λ e. ne (child_injective c d e)) ∙ sym (ne_eqb c d ne))

  rows_fault : (t : ℕ) (named named' : ℕ → Bool) (rs : List Row) → ((c : ℕ) → named' (renamed_child n p c) ≡ named c)
      → row_fault n t named' (renamed_rows n p rs) ≡ row_fault n t named rs
  unfolding row_fault renamed_rows renamed_row children_below named_twice
  rows_fault t named named' [] h = refl
  rows_fault t named named' (r ∷ rs) h =
      rw (child_below r.0 (n + t) (omega arith), child_below r.1 (n + t) (omega arith), h r.0, h r.1, child_same r.0 r.1)
      (rw (rows_fault (t + 1) (λ c. named c || eqb c r.0 || eqb c r.1)
      (λ c. named' c || eqb c (renamed_child n p r.0) || eqb c (renamed_child n p r.1)) rs
      (λ c. rw (h c, child_same c r.0, child_same c r.1))))

  -- renaming the leaves of a table by a permutation changes none of its faults
  pub renamed_fault : (rs : List Row) → table_fault n (renamed_rows n p rs) ≡ table_fault n rs
  unfolding table_fault
  renamed_fault rs = rows_fault 0 (λ c. false) (λ c. false) rs (λ c. refl)

  nodes_renamed : (q : ℕ) (rs : List Row) (c c' : Clusters) → n ≤ q → Stands q rs → ((k : ℕ) → k < q → c' (renamed_child n p k) ≡ renamed p (c k))
      → (k : ℕ) → k < q + length rs → nodes_of (renamed_rows n p rs) c' (renamed_child n p k) ≡ renamed p (nodes_of rs c k)
  unfolding nodes_of renamed_rows renamed_row Stands renamed
  nodes_renamed q [] c c' m s h k l = h k (omega arith)
  nodes_renamed q (r ∷ rs) c c' m s h k l =
      nodes_renamed (q + 1) rs (noded c r) (noded c' (renamed_row n p r)) (omega arith) s.3
      (λ j g. let e = s.0 in
      let same : eqb (renamed_child n p j) r.2 ≡ eqb j r.2 =
      ap (eqb (renamed_child n p j)) (sym (child_inner n p r.2 (omega arith))) ∙ child_same j r.2 in
      by_eq j r.2
      (λ w. rw (same, eq-eqb j r.2 w, h r.0 s.1, h r.1 s.2))
      (λ d. rw (same, ne_eqb j r.2 d, h j (omega (arith, d))))) k (omega arith)

  -- an accepted table with renamed leaves has the renamed tree
  pub renamed_tree : (rs : List Row) → 1 ≤ n → table_fault n rs ≡ none → length rs ≡ n - 1 → table_tree n (renamed_rows n p rs) ≡ renamed p (table_tree n rs)
  unfolding table_tree renamed
  renamed_tree rs m e z =
      let stays : renamed_child n p (n + length rs - 1) ≡ n + length rs - 1 =
      by_lt 1 n (λ l. child_inner n p (n + length rs - 1) (omega arith))
      (λ l. child_leaf n p (n + length rs - 1) (omega arith)
      ∙ omega (arith, entry_below P (n + length rs - 1) (omega arith))) in
      rw (length_renamed n p rs)
      (ap (nodes_of (renamed_rows n p rs) leaf) (sym stays)
      ∙ nodes_renamed n rs leaf leaf (omega arith) (accepted_stands n rs e) leaves (n + length rs - 1) (omega arith))
    where
      leaves : (k : ℕ) → k < n → leaf (renamed_child n p k) ≡ renamed p (leaf k)
      leaves k h = ap leaf (child_leaf n p k h)

-- The rows of a table with leaves renamed by a permutation are accepted too, and their tree is the renamed tree.
pub renamed_rows_lem : (n : ℕ) (p : List ℕ) (rs : List Row) → 1 ≤ n → length p ≡ n → permutation_fault n 0 [] p ≡ none
    → table_fault n rs ≡ none → length rs ≡ n - 1
    → (table_fault n (renamed_rows n p rs) ≡ none) × (length (renamed_rows n p rs) ≡ n - 1) × (table_tree n (renamed_rows n p rs) ≡ renamed p (table_tree n rs))
renamed_rows_lem n p rs m l f e z =
    let P : Permutes n p = permutes n p l f in
    (renamed_fault P rs ∙ e, length_renamed n p rs ∙ z, renamed_tree P rs m e z)
