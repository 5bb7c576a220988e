-- `move_up` meets its contract: what lies behind k names is final.
use native.Mathlib.Omega.{arith}
use mathlib.Core.Path.{◌≡◌}
use Prim.Native.Nat.{◌+◌, ◌-◌}
use Rattle.insertion.specs.Moved.{up_start, up_next, up_end}
use Rattle.insertion.proofs.move_up.Goals as goal

pub loop-k-init : goal.loop-k-init
loop-k-init c = up_start (omega arith) c.requires

pub loop-k-preserved : goal.loop-k-preserved
loop-k-preserved c =
    let here : c.args.at + (c.loop-k.k - 1) + 1 ≡ c.args.at + c.loop-k.k = omega arith in
    let next : c.args.at + (c.loop-k.k - 1) ≡ c.args.at + c.loop-k.k - 1 = omega arith in
    rw (here, next) (up_next c.loop-k.invariant (omega arith))

pub returns : goal.returns
returns c = up_end c.loop-k.invariant (omega arith)
