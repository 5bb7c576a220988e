-- `move_down` meets its contract: what lies before k more names is final.
use Prim.Native.Nat.{◌+◌, ◌-◌}
use Rattle.insertion.specs.Moved.{Down}
use Rattle.insertion.proofs.move_down.Given as goal

abbrev pub invariant-loop-k : goal.invariant-loop-k
invariant-loop-k l = Down l.initial.list (l.at - l.count) l.at l.w l.list (l.at - l.count + l.k)
