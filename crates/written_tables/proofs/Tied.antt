-- Rows given by their children alone, and the trees of their nodes. Main results: tied_length, tied_at, tree_leaf, tree_pair, tree_whole.
use Rattle.std.specs.Prelude.{◌≡◌, refl, List, [], ◌∷◌, ℕ, zero, suc, ◌+◌, ◌-◌, ◌≤◌, ◌<◌, length, get_or, take}
use Rattle.std.proofs.Common.{ap, ap₂, sym, ◌∙◌, arith, add-zero, length-take, get_or-take}
use Rattle.rules.specs.Tree.{leaf, node}
use Rattle.rules.specs.Table.{nodes_of, table_tree}
use Rattle.written_tables.specs.Nodes.{CountUp}
use Rattle.written_tables.proofs.Nodes.{nodes_keep, nodes_row}
use Rattle.written_tables.specs.Tied.{tied, tree_at, whole_tree}

pub tied_length : (p : ℕ) (L R : List ℕ) → length L ≡ length R → length (tied p L R) ≡ length L
unfolding tied
tied_length p [] R e = refl
tied_length p (l ∷ L) [] e = absurd (omega arith)
tied_length p (l ∷ L) (r ∷ R) e = ap suc (tied_length (p + 1) L R (omega arith))

pub tied_at : (p : ℕ) (L R : List ℕ) (t : ℕ) → t < length L → t < length R → get_or (tied p L R) t (0, 0, 0) ≡ (get_or L t 0, get_or R t 0, p + t)
unfolding tied
tied_at p [] R t h g = absurd (omega arith)
tied_at p (l ∷ L) [] t h g = absurd (omega arith)
tied_at p (l ∷ L) (r ∷ R) zero h g = ap (λ (q : ℕ). (l, r, q)) (sym (add-zero p))
tied_at p (l ∷ L) (r ∷ R) (suc t) h g =
    let z : p + 1 + t ≡ p + suc t = omega arith in
    tied_at (p + 1) L R t (omega arith) (omega arith) ∙ ap (λ (q : ℕ). (get_or L t 0, get_or R t 0, q)) z

tied_count_up : (p : ℕ) (L R : List ℕ) → CountUp p (tied p L R)
unfolding tied CountUp
tied_count_up p [] R = tt
tied_count_up p (l ∷ L) [] = tt
tied_count_up p (l ∷ L) (r ∷ R) = (refl, tied_count_up (p + 1) L R)

pub tree_leaf : (n : ℕ) (L R : List ℕ) (k : ℕ) → k < n → tree_at n L R k ≡ leaf k
unfolding tree_at
tree_leaf n L R k h = nodes_keep n (tied n (take (n - 1) L) (take (n - 1) R)) leaf k (tied_count_up n (take (n - 1) L) (take (n - 1) R)) h

pub tree_pair : (n : ℕ) (L R : List ℕ) (j : ℕ) → j < n - 1 → n - 1 ≤ length L → n - 1 ≤ length R → get_or L j 0 < n + j → get_or R j 0 < n + j
    → tree_at n L R (n + j) ≡ node (tree_at n L R (get_or L j 0)) (tree_at n L R (get_or R j 0))
unfolding tree_at
tree_pair n L R j h a b c d =
    let L' = take (n - 1) L in
    let R' = take (n - 1) R in
    let l : length L' ≡ n - 1 = omega (arith, length-take (n - 1) L) in
    let r : length R' ≡ n - 1 = omega (arith, length-take (n - 1) R) in
    let e : get_or (tied n L' R') j (0, 0, 0) ≡ (get_or L j 0, get_or R j 0, n + j) =
    tied_at n L' R' j (omega arith) (omega arith) ∙ ap₂ (λ (x y : ℕ). (x, y, n + j)) (get_or-take (n - 1) L j 0 h) (get_or-take (n - 1) R j 0 h) in
    rw e at
    (nodes_row n (tied n L' R') leaf j (0, 0, 0) (tied_count_up n L' R') (omega (arith, tied_length n L' R' (omega arith)))
    (rw e c) (rw e d))

-- the tree of the whole table is that of its last node
pub tree_whole : (n : ℕ) (L R : List ℕ) → 1 ≤ n → n - 1 ≤ length L → n - 1 ≤ length R
    → whole_tree n L R ≡ table_tree n (tied n (take (n - 1) L) (take (n - 1) R))
unfolding whole_tree tree_at table_tree
tree_whole n L R h a b =
    let e : length (tied n (take (n - 1) L) (take (n - 1) R)) ≡ n - 1 =
    tied_length n (take (n - 1) L) (take (n - 1) R) (omega (arith, length-take (n - 1) L, length-take (n - 1) R)) ∙ (omega (arith, length-take (n - 1) L)) in
    ap (λ (k : ℕ). nodes_of (tied n (take (n - 1) L) (take (n - 1) R)) leaf (n + k - 1)) (sym e)
