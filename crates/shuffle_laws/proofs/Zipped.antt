-- The rows of a table, zipped from two lists: the first and the second child of each row; row t has the parent n + t. Main results: some_leaf,
-- length_zipped, getD_zipped, zipped_nodes_lem, zipped_is, zipped_renamed.
use Rattle.std.specs.Prelude.{◌≡◌, refl, List, ℕ, zero, suc, ◌+◌, ◌-◌, ◌≤◌, ◌<◌, length, get_or}
use Rattle.std.proofs.Common.{sym, ap, ◌∙◌, arith, ext_get_or}
use Rattle.std.proofs.Math.Option.{none}
use Rattle.rules.specs.Table.{Row, table_fault}
use Rattle.clades.proofs.Size.{size_below}
use Rattle.shuffle_laws.proofs.Taken.{size_inner}
use Rattle.written_tables.proofs.Nodes.{leaf_of, node_of, stands_row, accepted_stands}
use Rattle.shuffle_laws.specs.Rows.{renamed_child, renamed_row, renamed_rows}
use Rattle.shuffle_laws.proofs.Rows.{length_renamed, getD_renamed, row_renamed}
use Rattle.shuffle_laws.specs.Zipped.{zipped_from, zipped_rows, zipped_nodes, zipped_tree, Tabled, NodesFrom}

-- there is a leaf
pub some_leaf : {n : ℕ} {left right : List ℕ} → Tabled n left right → 1 ≤ n
some_leaf {n} {left} {right} B = omega (arith, size_below _ _ B.leaves, size_inner (zipped_tree n left right))

length_from : (n : ℕ) (left right : List ℕ) (t k : ℕ) → length (zipped_from n left right t k) ≡ k
unfolding zipped_from
length_from n left right t zero = refl
length_from n left right t (suc k) = ap suc (length_from n left right (t + 1) k)

getD_from : (n : ℕ) (left right : List ℕ) (t k j : ℕ) (d : Row) → j < k
    → get_or (zipped_from n left right t k) j d ≡ (get_or left (t + j) 0, get_or right (t + j) 0, n + (t + j))
unfolding zipped_from
getD_from n left right t zero j d h = absurd (omega arith)
getD_from n left right t (suc k) zero d h = let z : t + 0 ≡ t = omega arith in rw z
getD_from n left right t (suc k) (suc j) d h =
    let z : t + suc j ≡ t + 1 + j = omega arith in rw z (getD_from n left right (t + 1) k j d (omega arith))

pub length_zipped : (n : ℕ) (left right : List ℕ) → length (zipped_rows n left right) ≡ n - 1
unfolding zipped_rows
length_zipped n left right = length_from n left right 0 (n - 1)

pub getD_zipped : (n : ℕ) (left right : List ℕ) (j : ℕ) (d : Row) → j < n - 1
    → get_or (zipped_rows n left right) j d ≡ (get_or left j 0, get_or right j 0, n + j)
unfolding zipped_rows
getD_zipped n left right j d h = let z : 0 + j ≡ j = omega arith in rw z at (getD_from n left right 0 (n - 1) j d h)

pub zipped_nodes_lem : (n : ℕ) (left right : List ℕ) → table_fault n (zipped_rows n left right) ≡ none → NodesFrom n (zipped_nodes n left right) left right
zipped_nodes_lem n left right e = record {
  leaves = leaf_of n (zipped_rows n left right) e;
  pairs = λ j h. rw (getD_zipped n left right j (0, 0, 0) h) at (node_of n (zipped_rows n left right) e j (0, 0, 0) (omega (arith, length_zipped n left right)));
  first = λ j h. (row j h).0;
  second = λ j h. (row j h).1;
}
  where
    row : (j : ℕ) → j < n - 1 → (get_or left j 0 < n + j) × (get_or right j 0 < n + j)
    row j h =
        rw (getD_zipped n left right j (0, 0, 0) h) at
        (stands_row n (zipped_rows n left right) j (0, 0, 0) (accepted_stands n (zipped_rows n left right) e) (omega (arith, length_zipped n left right)))

-- rows with these children are the zipped rows
pub zipped_is : (n : ℕ) (left right : List ℕ) (rs : List Row) → length rs ≡ n - 1
    → ((t : ℕ) → t < n - 1 → get_or rs t (0, 0, 0) ≡ (get_or left t 0, get_or right t 0, n + t)) → zipped_rows n left right ≡ rs
zipped_is n left right rs e h =
    ext_get_or (0, 0, 0) (zipped_rows n left right) rs (length_zipped n left right ∙ sym e)
    (λ t l. let k : t < n - 1 = omega (arith, length_zipped n left right) in getD_zipped n left right t (0, 0, 0) k ∙ sym (h t k))

-- children renamed one by one are the rows renamed
pub zipped_renamed : (n : ℕ) (p left right left' right' : List ℕ)
    → ((t : ℕ) → t < n - 1 → get_or left' t 0 ≡ renamed_child n p (get_or left t 0))
    → ((t : ℕ) → t < n - 1 → get_or right' t 0 ≡ renamed_child n p (get_or right t 0))
    → zipped_rows n left' right' ≡ renamed_rows n p (zipped_rows n left right)
zipped_renamed n p left right left' right' f g =
    zipped_is n left' right' (renamed_rows n p (zipped_rows n left right)) (length_renamed n p (zipped_rows n left right) ∙ length_zipped n left right)
    (λ t h. rw (f t h, g t h)
    (getD_renamed n p (zipped_rows n left right) t (0, 0, 0) (omega (arith, length_zipped n left right))
    ∙ ap (renamed_row n p) (getD_zipped n left right t (0, 0, 0) h)
    ∙ row_renamed n p (get_or left t 0) (get_or right t 0) (n + t)))
