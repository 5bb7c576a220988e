-- Queue Shuffle: "1, 4", then 3. "The result is the permutation new and the vector of the relabelled tree", each in a buffer of its own.
-- Main definitions: shuffle, shuffle_call.
use Rattle.std.specs.Prelude.{List, ℕ}
use Rattle.rules.specs.Tree.{tree_of}
use Rattle.rules.specs.Order.{vector_of}
use Rattle.rules.specs.Shuffle.{renamed, new_of}
use Rattle.rules.specs.Answer.{Making, made}
use Rattle.rules.specs.Guards.{from_vector}
use Rattle.rules.specs.Promise.{Call, makes, lists}

unfoldable pub shuffle : List ℕ → Making (List ℕ × List ℕ)
unfolding from_vector vector_of renamed new_of tree_of
shuffle v = from_vector v (made (new_of (tree_of v), vector_of (renamed (new_of (tree_of v)) (tree_of v))))

abbrev pub shuffle_call : List ℕ → Call (List ℕ × List ℕ) (List ℕ × List ℕ)
shuffle_call v = makes lists (shuffle v)
