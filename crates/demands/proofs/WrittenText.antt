-- The text that is written of a vector's tree: a text of the grammar, which reads as that tree and has no blank. Main result: written_text.
use Rattle.std.specs.Prelude.{List, ℕ, ◌≤◌, length}
use Rattle.std.proofs.Common.{subst}
use Rattle.rules.specs.Vector.{Valid}
use Rattle.rules.specs.Tree.{tree_of}
use Rattle.rules.specs.Newick.{text_of, Text}
use Rattle.grammar.proofs.Written.{leaves_text}
use Rattle.grammar.proofs.Complete.{text_unique}
use Rattle.blanks.proofs.Breaks.{text_signs}
use Rattle.laws.proofs.TreeOf.{tree_leaves, tree_form, tree_turned}
use Rattle.demands.specs.WrittenText.{WrittenText}

pub written_text : (v : List ℕ) → Valid v → length v ≤ 1024 → WrittenText v (text_of (tree_of v))
written_text v ok few =
    let T = subst (Text (text_of (tree_of v))) (tree_form v ok) (leaves_text (length v) (tree_of v) (tree_leaves v ok) few) in
    record { reads_as_the_tree = T; as_no_other = λ t S. text_unique S T; smaller_first = tree_turned v ok; no_blank = text_signs T }
