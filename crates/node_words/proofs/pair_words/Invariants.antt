-- `pair_words` meets its contract: after t turns the words of the first t rows stand, and number has the node of each name.
use Rattle.node_words.specs.Paired.{Pairing}
use Rattle.node_words.proofs.pair_words.Given as goal

abbrev pub invariant-loop-t : goal.invariant-loop-t
invariant-loop-t l = Pairing l.merges.list l.merges.small l.merges.start l.n l.initial.number l.number l.words l.t
