-- A node that is written: a leaf by its word, a pair child by child.
-- Main results: leaf_room, leaf_wrote, open_room, first_room, comma_room, second_room, close_room, pair_stands, root_room, end_room, text_stands.
use mathlib.Core.Path.{◌≡◌, sym, ap, ◌∙◌}
use Prim.Native.Nat.{ℕ, ◌+◌, ◌-◌, ◌*◌, ◌/◌, ◌%◌, ◌≤◌, ◌<◌}
use native.Mathlib.Omega.{arith}
use lib.ListN.{length, get_or, set, take, drop, length-set}
use mathlib.Core.List.{List, ◌++◌}
use borrow.Author.Tests.{lt-ltb}
use Rattle.rules.specs.Newick.{digits, pair_text, node_text, text_of}
use Rattle.rules.specs.Tree.{node, least}
use Rattle.written_tables.specs.Tied.{tree_at, whole_tree}
use Rattle.written_tables.proofs.Tied.{tree_leaf, tree_pair}
use Rattle.grammar.proofs.Length.{pair_length}
use Rattle.digits.specs.Count.{some_digit, digits_at_most}
use Rattle.label_words.specs.Leaves.{leaves_place}
use Rattle.text_writer.specs.Signs.{word_bytes, sign_count, word_signs, word_bytes_lem}
use Rattle.text_writer.specs.Output.{sign_places, NodeWords, NodeRoom, TextRoom, Stands}
use Rattle.text_writer.proofs.Standing.{stands_sign, stands_then, stands_first, text_room}

module _ {n : ℕ} {left right words : List ℕ} {k at : ℕ} (P : NodeRoom n left right words k at) where
  W : NodeWords n left right words
  W = P.given

  abbrev text_at : ℕ → List ℕ
  text_at c = node_text (tree_at n left right c)

  module _ (h : k < get_or words leaves_place 0) where
    leaf : k < n
    leaf = omega (arith, W.leaf_words.leaves)

    leaf_text : text_at k ≡ digits 4 k
    unfolding node_text
    leaf_text = rw (tree_leaf n left right k leaf)

    pub leaf_room : at + 4 ≤ sign_places
    leaf_room = omega (arith, P.room, ap length leaf_text, some_digit 3 k)

    small : k < 10000
    small = omega (arith, leaf, W.rows.few)

    signs : sign_count (get_or words k 0) ≡ length (digits 4 k)
    signs = ap sign_count (W.leaf_words.labels k leaf) ∙ word_signs k small

    pub leaf_end : at + sign_count (get_or words k 0) ≤ sign_places
    leaf_end = omega (arith, signs, ap length leaf_text, P.room)

    -- the word and how many signs it has are stored and counted
    pub leaf_wrote : {text text₁ : List ℕ} {j : ℕ} → length text ≡ sign_places → text₁ ≡ take at text ++ word_bytes (get_or words k 0) ++ drop (at + 4) text
        → j ≡ sign_count (get_or words k 0) → Stands (text_at k) at text text₁ (at + j)
    leaf_wrote {text} whole e f =
        let w = get_or words k 0 in
        let s : take (sign_count w) (word_bytes w) ≡ text_at k = rw (signs, W.leaf_words.labels k leaf) (word_bytes_lem k small ∙ sym leaf_text) in
        rw (e, f, sym s) (stands_first text at (sign_count w) (word_bytes w) (omega (arith, leaf_room)) (omega (arith, signs, digits_at_most 4 k)))

  module _ (h' : get_or words leaves_place 0 ≤ k) where
    h : n ≤ k
    h = omega (arith, W.leaf_words.leaves)

    row : k - n < n - 1
    row = omega (arith, P.there)

    -- the two children
    abbrev l : ℕ
    l = get_or words k 0 % 65536

    abbrev r : ℕ
    r = get_or words k 0 / 65536

    few : n ≤ 1024
    few = W.rows.few

    word : get_or words k 0 ≡ get_or left (k - n) 0 + 65536 * get_or right (k - n) 0
    word = let e : n + (k - n) ≡ k = omega arith in ap (λ (i : ℕ). get_or words i 0) (sym e) ∙ W.pair_word (k - n) row

    left_is : get_or left (k - n) 0 ≡ l
    left_is = omega (arith, word, W.rows.left_below (k - n) row, few, P.there)

    right_is : get_or right (k - n) 0 ≡ r
    right_is = omega (arith, word, W.rows.left_below (k - n) row, few, P.there)

    pub left_child : l < k
    left_child = omega (arith, left_is, W.rows.left_below (k - n) row)

    pub right_child : r < k
    right_child = omega (arith, right_is, W.rows.right_below (k - n) row)

    -- the text of a pair, the child with the smaller least leaf first
    pair_text_lem : text_at k ≡ pair_text (text_at l) (text_at r)
    unfolding node_text
    pair_text_lem =
        let o = W.rows in
        let e : k ≡ n + (k - n) = omega arith in
        let t : tree_at n left right k ≡ node (tree_at n left right (get_or left (k - n) 0)) (tree_at n left right (get_or right (k - n) 0)) =
        ap (tree_at n left right) e ∙ tree_pair n left right (k - n) row o.lefts_there o.rights_there (o.left_below (k - n) row) (o.right_below (k - n) row) in
        rw (t, lt-ltb (least (tree_at n left right (get_or left (k - n) 0))) (least (tree_at n left right (get_or right (k - n) 0))) (o.smaller_first (k - n) row), left_is, right_is)

    pair_room : at + (length (text_at l) + length (text_at r) + 3) + 3 ≤ sign_places
    pair_room = omega (arith, P.room, ap length pair_text_lem, pair_length (text_at l) (text_at r))

    pub open_room : at < sign_places
    open_room = omega (arith, pair_room)

    pub first_room : NodeRoom n left right words l (at + 1)
    first_room = record { given = W; there = omega (arith, left_child, P.there); room = omega (arith, pair_room) }

    module _ {opened text₁ : List ℕ} {x : ℕ} (F : Stands (text_at l) (at + 1) opened text₁ x) where
      pub comma_room : x < sign_places
      comma_room = omega (arith, pair_room, F.end)

      pub second_room : NodeRoom n left right words r (x + 1)
      second_room = record { given = W; there = omega (arith, right_child, P.there); room = omega (arith, pair_room, F.end) }

      pub close_room : {next text₂ : List ℕ} {y : ℕ} → Stands (text_at r) (x + 1) next text₂ y → y < sign_places
      close_room S = omega (arith, pair_room, F.end, S.end)

    pub pair_stands : {text text₁ text₂ : List ℕ} {x y : ℕ} → length text ≡ sign_places → Stands (text_at l) (at + 1) (set text at 40) text₁ x
        → Stands (text_at r) (x + 1) (set text₁ x 44) text₂ y → Stands (text_at k) at text (set text₂ y 41) (y + 1)
    unfolding pair_text
    pair_stands {text} {text₁} {text₂} {x} {y} whole F S =
        let one : length text₁ ≡ sign_places = F.whole ∙ length-set text at 40 ∙ whole in
        let two : length text₂ ≡ sign_places = S.whole ∙ length-set text₁ x 44 ∙ one in
        rw pair_text_lem
        (stands_then (stands_sign text at 40 (omega (arith, open_room)))
        (stands_then F (stands_then (stands_sign text₁ x 44 (omega (arith, comma_room F)))
        (stands_then S (stands_sign text₂ y 41 (omega (arith, close_room F S)))))))

-- the whole text
module _ {n : ℕ} {left right words : List ℕ} (T : TextRoom n left right words) where
  pub root_room : NodeRoom n left right words (n + (n - 1) - 1) 0
  unfolding whole_tree
  root_room = record {
    given = T.given;
    there = omega (arith, T.given.rows.some_leaf);
    room = omega (arith, T.room, text_room (tree_at n left right (n + (n - 1) - 1)));
  }

  module _ {text text₁ : List ℕ} {x : ℕ} (S : Stands (node_text (tree_at n left right (n + (n - 1) - 1))) 0 text text₁ x) where
    pub end_room : x < sign_places
    unfolding whole_tree
    end_room = omega (arith, S.end, T.room, text_room (tree_at n left right (n + (n - 1) - 1)))

    pub text_stands : length text ≡ sign_places → Stands (text_of (whole_tree n left right)) 0 text (set text₁ x 59) (x + 1)
    unfolding whole_tree text_of
    text_stands whole = stands_then S (stands_sign text₁ x 59 (omega (arith, end_room, S.whole)))
