-- `Batch::search` meets its contract: the place is between lo and hi.
use Prim.Native.Nat.{◌+◌, ◌-◌, ◌/◌}
use Rattle.clade_batch.specs.Place.{bracket_up, bracket_down}
use native.Mathlib.Omega.{arith}
use Rattle.clade_batch.proofs.Batch.search.Goals as goal

pub loop-lo-preserved-then-self-mid : goal.loop-lo-preserved-then-self-mid
loop-lo-preserved-then-self-mid c = bracket_up (c.loop-lo.lo + (c.loop-lo.hi - c.loop-lo.lo) / 2) c.requires.0 c.loop-lo.invariant (omega arith) c.if-self-mid.true

pub loop-lo-preserved : goal.loop-lo-preserved
loop-lo-preserved c = bracket_down (c.loop-lo.lo + (c.loop-lo.hi - c.loop-lo.lo) / 2) c.requires.0 c.loop-lo.invariant (omega arith) (omega arith) c.if-self-mid.false
