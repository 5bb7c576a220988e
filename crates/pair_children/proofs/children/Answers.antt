use Rattle.std.proofs.Common.{arith, drop, length-drop}
use Rattle.std.proofs.lemmas.List.{take_all}
use Rattle.pair_children.proofs.children.Goals as goal

pub returns : goal.returns
returns c =
    let e = c.numbered_children.ensures in
    let q = take_all 1536 (drop 1040 c.args.m.now) (omega (arith, c.told-m, length-drop 1040 c.args.m.now)) in
    record { left_after = rw q at e.left_after; right_after = rw q at e.right_after }
