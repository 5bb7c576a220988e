-- The length of a tree's text hangs on its number of leaves alone. Main results: text_length_lem, text_length_1024, text_length_mono,
-- text_length_most.
use Rattle.std.specs.Prelude.{◌≡◌, refl, Bool, true, false, cond, List, [], ◌∷◌, ◌++◌, ℕ, ◌+◌, ◌*◌, ◌≤◌, ltb, length}
use Rattle.std.proofs.Common.{arith, length-append}
use Rattle.rules.specs.Newick.{pair_text, node_text, text_of}
use Rattle.rules.specs.Tree.{Tree, leaf, node, least, LeavesBelow}
use Rattle.basics.proofs.Sums.{sum_mono}
use Rattle.clades.specs.Size.{sum_leaves}
use Rattle.clades.proofs.Size.{all_leaves_sum, size_below}
use Rattle.grammar.specs.Decimal.{digit_count}
use Rattle.grammar.proofs.Decimal.{digits_length}
use Rattle.grammar.specs.Pairs.{pair_count}
use Rattle.grammar.proofs.Pairs.{size_pairs}
use Rattle.grammar.specs.Length.{text_length}

pub pair_length : (a b : List ℕ) → length (pair_text a b) ≡ length a + length b + 3
unfolding pair_text
pair_length a b = omega (arith, length-append a (44 ∷ (b ++ (41 ∷ []))), length-append b (41 ∷ []))

node_length : (t : Tree) → length (node_text t) ≡ sum_leaves digit_count t + 3 * pair_count t
unfolding node_text sum_leaves pair_count
node_length (leaf x) = omega (arith, digits_length x)
node_length (node l r) = go (ltb (least l) (least r)) (node_length l) (node_length r)
  where
    go : (b : Bool) → length (node_text l) ≡ sum_leaves digit_count l + 3 * pair_count l → length (node_text r) ≡ sum_leaves digit_count r + 3 * pair_count r
        → length (cond b (pair_text (node_text l) (node_text r)) (pair_text (node_text r) (node_text l))) ≡ sum_leaves digit_count l + sum_leaves digit_count r + 3 * (pair_count l + pair_count r + 1)
    go true p q = omega (arith, pair_length (node_text l) (node_text r))
    go false p q = omega (arith, pair_length (node_text r) (node_text l))

pub text_length_lem : (n : ℕ) (t : Tree) → LeavesBelow n t → length (text_of t) ≡ text_length n
unfolding text_of text_length
text_length_lem n t h =
    omega (arith, length-append (node_text t) (59 ∷ []), node_length t, all_leaves_sum digit_count n t h, size_pairs t, size_below n t h)

pub text_length_1024 : text_length 1024 ≡ 6056
unfolding text_length
text_length_1024 = refl

pub text_length_mono : (m n : ℕ) → m ≤ n → text_length m ≤ text_length n
unfolding text_length
text_length_mono m n h = omega (arith, sum_mono digit_count m n h)

pub text_length_most : (n : ℕ) → n ≤ 1024 → text_length n ≤ 6056
text_length_most n h = omega (arith, text_length_mono n 1024 h, text_length_1024)
