-- `vector_of` meets its contract. The invariant: the chains of all keys from k on have their entries.
use Rattle.order.specs.Vector.{filled_start, some_key, filled_next, filled_end}
use borrow.Author.Rules.{rules}
use Rattle.order.proofs.vector_of.Goals as goal

pub loop-k-init : goal.loop-k-init
loop-k-init c = filled_start c.requires.drawn.1.some_leaf c.requires.n_in_bounds c.empty-set.ensures

pub enter_key-keys-requires : goal.enter_key-keys-requires
enter_key-keys-requires c = some_key c.loop-k.invariant c.loop-k-test.true c.requires.drawn

pub loop-k-preserved : goal.loop-k-preserved
loop-k-preserved c = filled_next c.loop-k.invariant c.loop-k-test.true c.enter_key-keys.ensures (search rules)

pub returns : goal.returns
returns c = filled_end c.loop-k.invariant c.loop-k-test.false
