use native.Mathlib.Omega.{arith}
use Rattle.pair_children.proofs.Numbering.{numbering_start, numbering_next, numbering_end}
use Rattle.pair_children.proofs.numbered_children.Goals as goal

pub loop-k-init : goal.loop-k-init
loop-k-init c = let asked = c.requires in numbering_start asked.0 asked.1 asked.2 asked.3

pub loop-k-preserved : goal.loop-k-preserved
loop-k-preserved c = numbering_next c.loop-k.invariant (omega (arith, c.loop-k-test.true, c.saturating_sub-k-end.ensures)) c.child_number.ensures c.child_number-in-loop-k.ensures

pub returns : goal.returns
returns c =
    let e = numbering_end c.loop-k.invariant (omega (arith, c.loop-k-test.false, c.saturating_sub-k-end.ensures)) in
    record { left_after = e.0; right_after = e.1 }
