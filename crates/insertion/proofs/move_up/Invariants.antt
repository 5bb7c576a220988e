-- `move_up` meets its contract: what lies behind k names is final.
use Prim.Native.Nat.{◌+◌}
use Rattle.insertion.specs.Moved.{Up}
use Rattle.insertion.proofs.move_up.Given as goal

abbrev pub invariant-loop-k : goal.invariant-loop-k
invariant-loop-k l = Up l.initial.list (l.at + l.count) l.at l.w l.list (l.at + l.k)
