use native.Mathlib.Omega.{arith}
use Rattle.text_writer.proofs.Nodes.{root_room, end_room, text_stands}
use Rattle.text_writer.proofs.write_text.Goals as goal

pub write_node-x-requires : goal.write_node-x-requires
write_node-x-requires c = (_, c.requires.0, c.requires.1, root_room c.requires.2)

pub bounds-text-x : goal.bounds-text-x
bounds-text-x c = end_room c.requires.2 (c.write_node-x.ensures _ _ _ (root_room c.requires.2))

pub overflow_add-result : goal.overflow_add-result
overflow_add-result c = omega (arith, end_room c.requires.2 (c.write_node-x.ensures _ _ _ (root_room c.requires.2)))

pub returns : goal.returns
returns c = λ left right T. text_stands T (c.write_node-x.ensures _ left right (root_room T)) c.told-text
