-- The children of recorded pairs, by their numbers, are those of the recorded rows.
-- Main results: kept_children, kept_vector.
use Rattle.std.specs.Prelude.{List, ◌++◌, map, ◌≡◌, ℕ, ◌+◌, ◌-◌, ◌≤◌, ◌<◌, length, get_or, take, drop}
use Rattle.std.proofs.Common.{sym, ap, ap₂, ◌∙◌, arith, length-take}
use Rattle.std.proofs.lemmas.List.{length-map}
use Rattle.std.proofs.Math.ListN.{get_or-append}
use Rattle.rules.specs.Tree.{Tree}
use Rattle.rules.specs.Table.{Row, table_tree}
use Rattle.rules.specs.Order.{vector_of}
use Rattle.written_tables.proofs.Tied.{tied_at}
use Rattle.children_order.specs.Children.{Children}
use Rattle.text_laws.specs.Numbered.{first_number, second_number}
use Rattle.text_laws.specs.Recorded.{TableOf, recorded_rows}

module _ (n : ℕ) (pairs left right more more' : List ℕ) (t : Tree) (T : TableOf n t (recorded_rows n pairs)) (room : n - 1 ≤ length pairs)
    (l : left ≡ map (first_number n) (take (n - 1) pairs) ++ more) (r : right ≡ map (second_number n) (take (n - 1) pairs) ++ more') where
  row_at : (j : ℕ) → j < n - 1 → get_or (recorded_rows n pairs) j (0, 0, 0) ≡ (get_or left j 0, get_or right j 0, n + j)
  row_at j h =
      let firsts = map (first_number n) (take (n - 1) pairs) in
      let seconds = map (second_number n) (take (n - 1) pairs) in
      let a : j < length firsts = omega (arith, length-map (take (n - 1) pairs) (first_number n), length-take (n - 1) pairs) in
      let b : j < length seconds = omega (arith, length-map (take (n - 1) pairs) (second_number n), length-take (n - 1) pairs) in
      let x : get_or left j 0 ≡ get_or firsts j 0 = ap (λ (xs : List ℕ). get_or xs j 0) l ∙ get_or-append firsts more 0 j a in
      let y : get_or right j 0 ≡ get_or seconds j 0 = ap (λ (xs : List ℕ). get_or xs j 0) r ∙ get_or-append seconds more' 0 j b in
      tied_at n firsts seconds j a b
      ∙ ap₂ (λ (u w : ℕ). (u, w, n + j)) (sym x) (sym y)

  pub kept_children : Children n left right (recorded_rows n pairs)
  kept_children = record { count = T.rows; accepted = T.accepted; each = row_at }

  pub kept_vector : (vector old : List ℕ) → ((rs : List Row) → Children n left right rs → vector ≡ vector_of (table_tree n rs) ++ drop n old) → vector ≡ vector_of t ++ drop n old
  kept_vector vector old f = f (recorded_rows n pairs) kept_children ∙ ap (λ (u : Tree). vector_of u ++ drop n old) T.tree
