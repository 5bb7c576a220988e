-- `shuffle` meets its contract. The loop's invariant is Emptying: the state of the queue, and that its result stays.
use Rattle.queue.proofs.Emptying.{emptying_start, start_result, emptying_end}
use Rattle.shuffle_laws.proofs.Zipped.{some_leaf, zipped_nodes_lem}
use mathlib.Core.Path.{◌∙◌}
use native.Mathlib.Omega.{arith}
use Rattle.queue.proofs.Queue.shuffle.Goals as goal

pub overflow_sub-root : goal.overflow_sub-root
overflow_sub-root c = omega (arith, some_leaf c.requires.1)

pub loop-head-init : goal.loop-head-init
loop-head-init c = emptying_start (omega arith) (omega arith) c.requires c.place-tail.ensures

pub overflow_sub-head-end : goal.overflow_sub-head-end
overflow_sub-head-end c = omega (arith, some_leaf c.requires.1)

pub take_front-tail-requires : goal.take_front-tail-requires
take_front-tail-requires c = record { lent = c.requires.0; shape = zipped_nodes_lem _ _ _ c.requires.1.accepted; state = c.loop-head.invariant.state; more = c.loop-head-test.true }

pub returns : goal.returns
returns c = emptying_end c.loop-head.invariant c.loop-head-test.false ∙ start_result (omega arith) (omega arith) (omega arith) c.requires c.place-tail.ensures
