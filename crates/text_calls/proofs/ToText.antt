-- What to_newick makes of an accepted vector.
-- Main results: text_made, text_count.
use mathlib.Core.List.{List}
use mathlib.Core.Path.{◌≡◌}
use Prim.Native.Nat.{ℕ}
use lib.ListN.{length}
use Rattle.rules.specs.Tree.{tree_of}
use Rattle.rules.specs.Newick.{text_of}
use Rattle.rules.specs.Answer.{made}
use Rattle.rules.specs.CallToNewick.{to_text}
use Rattle.laws.proofs.TreeOf.{tree_leaves}
use Rattle.grammar.specs.Length.{text_length}
use Rattle.grammar.proofs.Length.{text_length_lem}
use Rattle.accepting.proofs.FromVector.{vector_accepted}
use Rattle.rules.specs.Vector.{Vector}

pub text_made : (v : List ℕ) → Vector v → to_text v ≡ made (text_of (tree_of v))
unfolding to_text
text_made v S = vector_accepted v (made (text_of (tree_of v))) S

pub text_count : (v : List ℕ) → Vector v → length (text_of (tree_of v)) ≡ text_length (length v)
text_count v S = text_length_lem (length v) (tree_of v) (tree_leaves v S.valid)
