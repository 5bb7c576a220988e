-- `move_down` meets its contract: what lies before k more names is final.
use native.Mathlib.Omega.{arith}
use mathlib.Core.Path.{◌≡◌}
use Prim.Native.Nat.{◌+◌, ◌-◌}
use Rattle.insertion.specs.Moved.{down_start, down_next, down_end}
use Rattle.insertion.proofs.move_down.Goals as goal

pub loop-k-init : goal.loop-k-init
loop-k-init c =
    let start : c.args.at - c.args.count + 0 ≡ c.args.at - c.args.count = omega arith in
    rw start (down_start (omega arith) c.requires.1)

pub loop-k-preserved : goal.loop-k-preserved
loop-k-preserved c =
    let next : c.args.at - c.args.count + (c.loop-k.k + 1) ≡ c.args.at - c.args.count + c.loop-k.k + 1 = omega arith in
    rw next (down_next c.loop-k.invariant (omega arith))

pub returns : goal.returns
returns c = down_end c.loop-k.invariant (omega arith)
