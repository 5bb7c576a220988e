use Rattle.children_order.specs.Children.{Added}
use Rattle.children_order.proofs.add_children.Given as goal

abbrev pub invariant-loop-t : goal.invariant-loop-t
invariant-loop-t l = Added l.n l.left l.right l.t l.chains.names l.chains.lows l.chains.small l.chains.next l.chains.last
