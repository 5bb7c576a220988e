use Rattle.std.proofs.Common.{arith}
use Rattle.text_writer.proofs.Nodes.{leaf_room, leaf_end, leaf_wrote, left_child, right_child, first_room, comma_room, second_room, close_room, pair_stands}
use Rattle.text_writer.proofs.+write_node.Goals as goal

pub put_word-requires : goal.put_word-requires
put_word-requires t c = leaf_room c.requires.3 c.if-node-words.true

pub overflow_add-result : goal.overflow_add-result
overflow_add-result t c = omega (arith, leaf_end c.requires.3 c.if-node-words.true, c.sign_count.ensures)

pub returns-then-node-words : goal.returns-then-node-words
returns-then-node-words t c = λ n left right P. leaf_wrote P c.if-node-words.true c.told-text c.put_word.ensures c.sign_count.ensures

pub write_node-x-requires : goal.write_node-x-requires
write_node-x-requires t c =
    let (n, left, right, P) = c.requires in
    (omega (arith, c.decreases, left_child P c.if-node-words.false), (n, left, right, first_room P c.if-node-words.false))

pub bounds-text-x : goal.bounds-text-x
bounds-text-x t c =
    let pair = c.if-node-words.false in
    let (n, left, right, P) = c.requires in
    comma_room P pair (c.write_node-x.ensures n left right (first_room P pair))

pub overflow_add-x : goal.overflow_add-x
overflow_add-x t c =
    let pair = c.if-node-words.false in
    let (n, left, right, P) = c.requires in
    omega (arith, comma_room P pair (c.write_node-x.ensures n left right (first_room P pair)))

pub write_node-y-requires : goal.write_node-y-requires
write_node-y-requires t c =
    let pair = c.if-node-words.false in
    let (n, left, right, P) = c.requires in
    let first = c.write_node-x.ensures n left right (first_room P pair) in
    (omega (arith, c.decreases, right_child P pair), (n, left, right, second_room P pair first))

pub bounds-text-y : goal.bounds-text-y
bounds-text-y t c =
    let pair = c.if-node-words.false in
    let (n, left, right, P) = c.requires in
    let first = c.write_node-x.ensures n left right (first_room P pair) in
    close_room P pair first (c.write_node-y.ensures n left right (second_room P pair first))

pub overflow_add-result-2 : goal.overflow_add-result-2
overflow_add-result-2 t c =
    let pair = c.if-node-words.false in
    let (n, left, right, P) = c.requires in
    let first = c.write_node-x.ensures n left right (first_room P pair) in
    omega (arith, close_room P pair first (c.write_node-y.ensures n left right (second_room P pair first)))

pub returns : goal.returns
returns t c = λ n left right P.
    let pair = c.if-node-words.false in
    let first = c.write_node-x.ensures n left right (first_room P pair) in
    pair_stands P pair c.told-text first (c.write_node-y.ensures n left right (second_room P pair first))
