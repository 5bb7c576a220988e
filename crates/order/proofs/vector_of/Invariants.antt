-- `vector_of` meets its contract. The invariant: the chains of all keys from k on have their entries.
use Rattle.order.specs.Vector.{Filled}
use Rattle.order.proofs.vector_of.Given as goal

abbrev pub invariant-loop-k : goal.invariant-loop-k
invariant-loop-k l = Filled l.n l.chains.small l.chains.next l.chains.last l.initial.out l.set.blocks l.set.names l.out l.keys l.k
