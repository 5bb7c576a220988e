use Rattle.children_order.specs.Children.{added_inside, some_adds, added_next, added_all}
use native.Mathlib.Omega.{arith}
use Rattle.children_order.proofs.add_children.Goals as goal

pub bounds-chains-l : goal.bounds-chains-l
bounds-chains-l c = (added_inside c.loop-t.invariant (omega arith) c.from-l.ensures c.from-r.ensures).2

pub bounds-chains-r : goal.bounds-chains-r
bounds-chains-r c = (added_inside c.loop-t.invariant (omega arith) c.from-l.ensures c.from-r.ensures).3

pub add_pair-requires : goal.add_pair-requires
add_pair-requires c = some_adds c.loop-t.invariant (omega arith) c.from-l.ensures c.from-r.ensures c.from-x.ensures c.from-y.ensures c.min.ensures c.max.ensures

pub loop-t-preserved : goal.loop-t-preserved
loop-t-preserved c = added_next c.loop-t.invariant (omega arith) c.from-l.ensures c.from-r.ensures c.from-x.ensures c.from-y.ensures c.min.ensures c.max.ensures c.add_pair.ensures.by_index

pub returns : goal.returns
returns c = added_all c.loop-t.invariant (omega arith)
