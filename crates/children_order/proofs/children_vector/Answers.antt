use Rattle.children_order.specs.Children.{added_start, added_end, some_tree}
use native.Mathlib.Omega.{arith}
use Rattle.children_order.proofs.children_vector.Goals as goal

pub add_children-requires : goal.add_children-requires
add_children-requires c = let given = c.requires in
    record { le_n = given.le_n.0; added = added_start given.le_n.1 given.le_n.2 given.le_n.3 given.children c.add_leaves.ensures }

pub vector_of-requires : goal.vector_of-requires
vector_of-requires c = record { drawn = some_tree c.add_children.ensures (omega arith) c.requires.le_n.0; n_in_bounds = c.requires.le_n.4 }

pub returns : goal.returns
returns c = λ rs C. c.vector_of.ensures _ (added_end c.add_children.ensures (omega arith) c.requires.le_n.0 rs C)
