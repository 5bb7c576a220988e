-- The rows of a vector, by their children, and the same rows with renamed leaves.
-- Main definitions: RowsOf, Renamed. Main results: rows_of, rows_tree, rows_renamed, renamed_count, renamed_front.
use Rattle.std.specs.Prelude.{List, [], ◌++◌, map, ◌≡◌, ℕ, ◌+◌, ◌-◌, ◌≤◌, ◌<◌, length, get_or, take}
use Rattle.std.proofs.Math.Option.{none}
use Rattle.std.proofs.Math.ListN.{get_or-append}
use Rattle.std.proofs.lemmas.List.{get_or-map, length-map}
use Rattle.std.proofs.Common.{sym, ap, ◌∙◌, arith, take_at}
use Rattle.rules.specs.Vector.{entry, Valid}
use Rattle.rules.specs.Tree.{tree_of}
use Rattle.rules.specs.Order.{vector_of}
use Rattle.rules.specs.Table.{Row, rows_from, table_fault, table_tree}
use Rattle.rules.specs.Shuffle.{renamed, permutation_fault}
use Rattle.merging.specs.Insertion.{pairs}
use Rattle.merging.proofs.Insertion.{pairs_count}
use Rattle.laws.proofs.OneToOne.{every_tree}
use Rattle.laws.proofs.TreeOf.{tree_by_pairs, tree_leaves}
use Rattle.shuffle_laws.proofs.Permutation.{permutes}
use Rattle.shuffle_laws.proofs.Renaming.{renamed_below}
use Rattle.shuffle_laws.specs.Rows.{renamed_rows}
use Rattle.shuffle_laws.proofs.Rows.{renamed_rows_lem}
use Rattle.written_tables.specs.Rows.{first, second, vector_rows}
use Rattle.written_tables.proofs.Rows.{rows_length, parent_at}
use Rattle.written_tables.proofs.Accepted.{pairs_accepted}
use Rattle.written_tables.proofs.Grown.{pairs_tree}
use Rattle.children_order.specs.Children.{Children}
use Rattle.shuffle_laws.specs.Zipped.{zipped_rows, zipped_tree}
use Rattle.shuffle_laws.proofs.Zipped.{zipped_is, zipped_renamed, getD_zipped, length_zipped}
use Rattle.renaming.specs.Renames.{renamed_to, renamed_at}

-- left and right hold the children of these rows
pub record RowsOf (v left right : List ℕ) : Type 0 where
  pub valid : Valid v
  pub lefts : length v - 1 ≤ length left
  pub rights : length v - 1 ≤ length right
  pub rows : zipped_rows (length v) left right ≡ vector_rows v

rows_count : (v : List ℕ) → Valid v → length (vector_rows v) ≡ length v - 1
unfolding pairs
rows_count v ok = rows_length (length v) (λ c. c) (pairs v) ∙ pairs_count (entry v) (length v)

-- an element of a list that begins with the children of rows
child_at : (f : Row → ℕ) (rs : List Row) (rest : List ℕ) (t : ℕ) → t < length rs → get_or (map f rs ++ rest) t 0 ≡ f (get_or rs t (0, 0, 0))
child_at f rs rest t h = get_or-append (map f rs) rest 0 t (omega (arith, length-map rs f)) ∙ get_or-map f rs t (0, 0, 0) 0 h

-- what the code that writes the rows of a vector leaves
pub rows_of : (v left right rest rest' : List ℕ) → Valid v → length left ≡ 1024 → length right ≡ 1024 → length v ≤ 1024
    → left ≡ map first (rows_from (length v) (λ c. c) (pairs v)) ++ rest → right ≡ map second (rows_from (length v) (λ c. c) (pairs v)) ++ rest' → RowsOf v left right
unfolding pairs
rows_of v left right rest rest' ok a b u p q = record {
  valid = ok;
  lefts = omega arith;
  rights = omega arith;
  rows = zipped_is (length v) left right (vector_rows v) (rows_count v ok) (λ t h. each t h);
}
  where
    each : (t : ℕ) → t < length v - 1 → get_or (vector_rows v) t (0, 0, 0) ≡ (get_or left t 0, get_or right t 0, length v + t)
    each t h =
        let c = rows_count v ok in
        let l : t < length (vector_rows v) = omega arith in
        let k = pairs_count (entry v) (length v) in
        λ i. (
          sym (ap (λ (xs : List ℕ). get_or xs t 0) p ∙ child_at first (vector_rows v) rest t l) i,
          sym (ap (λ (xs : List ℕ). get_or xs t 0) q ∙ child_at second (vector_rows v) rest' t l) i,
          parent_at (length v) (λ c. c) (pairs v) t (omega arith) i,
        )

-- the tree of these rows is the vector's
pub rows_tree : {v left right : List ℕ} → RowsOf v left right → zipped_tree (length v) left right ≡ tree_of v
rows_tree {v} R = ap (table_tree (length v)) R.rows ∙ pairs_tree v R.valid ∙ sym (tree_by_pairs v R.valid)

pub rows_fine : {v left right : List ℕ} → RowsOf v left right → table_fault (length v) (zipped_rows (length v) left right) ≡ none
rows_fine {v} R = ap (table_fault (length v)) R.rows ∙ pairs_accepted v R.valid

-- the rows with renamed leaves
pub record Renamed (v p left right : List ℕ) : Type 0 where
  pub rows : Children (length v) left right (renamed_rows (length v) p (vector_rows v))
  pub tree : table_tree (length v) (renamed_rows (length v) p (vector_rows v)) ≡ renamed p (tree_of v)

pub rows_renamed : {v left right : List ℕ} (p left' right' : List ℕ) → RowsOf v left right → length p ≡ length v → permutation_fault (length v) 0 [] p ≡ none
    → left' ≡ renamed_to (length v) p (length v - 1) left → right' ≡ renamed_to (length v) p (length v - 1) right → Renamed v p left' right'
rows_renamed {v} {left} {right} p left' right' R l f a b =
    let n = length v in
    let w = renamed_rows_lem n p (zipped_rows n left right) R.valid.some_leaf l f (rows_fine R) (length_zipped n left right) in
    let same : zipped_rows n left' right' ≡ renamed_rows n p (zipped_rows n left right) = zipped_renamed n p left right left' right'
    (λ t h. ap (λ (xs : List ℕ). get_or xs t 0) a ∙ renamed_at n p (n - 1) left t R.lefts h)
    (λ t h. ap (λ (xs : List ℕ). get_or xs t 0) b ∙ renamed_at n p (n - 1) right t R.rights h) in
    let e : renamed_rows n p (zipped_rows n left right) ≡ renamed_rows n p (vector_rows v) = ap (renamed_rows n p) R.rows in
    record {
      rows = record {
        count = ap length (sym e) ∙ w.1;
        accepted = ap (table_fault n) (sym e) ∙ w.0;
        each = λ t h. ap (λ (rs : List Row). get_or rs t (0, 0, 0)) (sym (same ∙ e)) ∙ getD_zipped n left' right' t (0, 0, 0) h;
      };
      tree = ap (table_tree n) (sym e) ∙ w.2 ∙ ap (renamed p) (rows_tree R);
    }

pub some_renamed : {v p left right : List ℕ} → Renamed v p left right → (rs : List Row) × Children (length v) left right rs
some_renamed {v} {p} R = (renamed_rows (length v) p (vector_rows v), R.rows)

-- the vector of a renamed tree has an entry for each leaf
pub renamed_count : (v p : List ℕ) → Valid v → length p ≡ length v → permutation_fault (length v) 0 [] p ≡ none → length (vector_of (renamed p (tree_of v))) ≡ length v
renamed_count v p ok l f =
    (every_tree (length v) (renamed p (tree_of v)) (renamed_below (permutes (length v) p l f) (tree_leaves v ok))).entries

-- so it is what is copied out of an array that begins with it
pub renamed_front : (v p entries rest : List ℕ) → Valid v → length p ≡ length v → permutation_fault (length v) 0 [] p ≡ none
    → entries ≡ vector_of (renamed p (tree_of v)) ++ rest → take (length v) entries ≡ vector_of (renamed p (tree_of v))
renamed_front v p entries rest ok l f e =
    ap (take (length v)) e ∙ take_at (vector_of (renamed p (tree_of v))) rest (length v) (renamed_count v p ok l f)
