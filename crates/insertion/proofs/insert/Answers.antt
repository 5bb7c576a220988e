-- `insert` meets its contract, whichever side moves.
use Prim.Native.Nat.{◌+◌, ◌-◌}
use Rattle.insertion.specs.Moved.{window_down, window_up}
use native.Mathlib.Omega.{arith}
use Rattle.insertion.proofs.insert.Goals as goal

pub returns-then-s-m : goal.returns-then-s-m
returns-then-s-m c = let g = c.args in
    (omega arith, omega arith, rw c.move_down.ensures (window_down g.lo g.m g.s g.w (g.lo - 1 + g.s - c.blocks-then-s-m.result) g.list.now (omega arith) (omega arith) (omega arith) (omega arith)))

pub returns : goal.returns
returns c = let g = c.args in
    (omega arith, omega arith, rw c.move_up.ensures (window_up g.lo g.m g.s g.w (g.lo + g.s + c.blocks-2.result) g.list.now (omega arith) (omega arith) (omega arith)))
