-- The text of a vector's tree: there is room for it, and it is what is copied out.
-- Main results: text_fits, text_end, text_there.
use Rattle.std.specs.Prelude.{List, ◌++◌, ◌≡◌, ℕ, ◌≤◌, length, take, drop}
use Rattle.std.proofs.Common.{ap, ap₂, ◌∙◌, arith}
use Rattle.rules.specs.Vector.{Valid}
use Rattle.rules.specs.Tree.{Tree, tree_of}
use Rattle.rules.specs.Newick.{text_of}
use Rattle.laws.proofs.TreeOf.{tree_leaves}
use Rattle.grammar.specs.Length.{text_length}
use Rattle.grammar.proofs.Length.{text_length_lem, text_length_most}
use Rattle.written_tables.specs.Tied.{whole_tree}
use Rattle.text_writer.specs.Output.{TextRoom, Stands}
use Rattle.written_tables.specs.Rows.{vector_rows}
use Rattle.node_words.specs.Paired.{Paired}
use Rattle.tree_text.specs.OrderedRows.{lefts, rights, left_at, right_at, rows_ordered, rows_tree}

module _ (v : List ℕ) (ok : Valid v) (few : length v ≤ 1024) where
  text_count : length (text_of (whole_tree (length v) (lefts v) (rights v))) ≡ text_length (length v)
  text_count = ap (λ (t : Tree). length (text_of t)) (rows_tree v ok few) ∙ text_length_lem (length v) (tree_of v) (tree_leaves v ok)

  -- the words are those of the rows, and there is room for the text
  pub text_fits : (words : List ℕ) → Paired (length v) (vector_rows v) words → TextRoom (length v) (lefts v) (rights v) words
  text_fits words P = record {
    given = record {
      rows = rows_ordered v ok few;
      leaf_words = P.leaf_words;
      pair_word = λ j h. P.pair_words j h ∙ omega (arith, left_at v j, right_at v j);
    };
    room = omega (arith, text_count, text_length_most (length v) few);
  }

  module _ (text text' : List ℕ) (k : ℕ) (S : Stands (text_of (whole_tree (length v) (lefts v) (rights v))) 0 text text' k) where
    pub text_end : k ≡ text_length (length v)
    text_end = S.end ∙ omega (arith, text_count)

    -- what is copied out is the text of v's tree
    pub text_there : (out out' : List ℕ) → out' ≡ take k text' ++ drop k out → out' ≡ text_of (tree_of v) ++ drop (text_length (length v)) out
    text_there out out' e =
        e ∙ ap₂ (λ (t : List ℕ) (j : ℕ). t ++ drop j out) (S.front ∙ ap text_of (rows_tree v ok few)) text_end
