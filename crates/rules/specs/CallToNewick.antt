-- Vector to Newick: "1, 4", then 3.
-- Main definitions: to_text, to_newick_call.
use Rattle.std.specs.Prelude.{List, ℕ}
use Rattle.rules.specs.Tree.{tree_of}
use Rattle.rules.specs.Newick.{text_of}
use Rattle.rules.specs.Answer.{Made, made}
use Rattle.rules.specs.Guards.{from_vector}
use Rattle.rules.specs.Promise.{Call, makes, list}

unfoldable pub to_text : List ℕ → Made
unfolding from_vector text_of tree_of
to_text v = from_vector v (made (text_of (tree_of v)))

abbrev pub to_newick_call : List ℕ → Call (List ℕ) (List ℕ)
to_newick_call v = makes list (to_text v)
