-- Vector to Newick: when it refuses, and that it writes the bytes of the text.
-- Main result: lawful_to_newick.
use Rattle.std.specs.Prelude.{List, refl, ℕ, length}
use Rattle.rules.specs.Tree.{tree_of}
use Rattle.rules.specs.Newick.{text_of}
use Rattle.rules.specs.Promise.{list}
use Rattle.rules.specs.CallToNewick.{to_text, to_newick_call}
use Rattle.demands.specs.Law.{Lawful}
use Rattle.demands.proofs.Law.{lawful_made}
use Rattle.demands.specs.LawVector.{VectorRefused}
use Rattle.demands.proofs.LawVector.{settled_vector}

pub lawful_to_newick : (v : List ℕ) → Lawful (to_newick_call v) (VectorRefused v) (length (text_of (tree_of v)))
unfolding to_text
lawful_to_newick v =
    lawful_made list (to_text v) (VectorRefused v) (length (text_of (tree_of v)))
    (settled_vector length v (text_of (tree_of v)) (length (text_of (tree_of v))) (λ ok. refl))
