-- `Batch::hold_one` meets its contract.
use native.Mathlib.Omega.{arith}
use Rattle.clade_batch.specs.Held.{held_one_lem}
use Rattle.clade_batch.proofs.Batch.hold_one.Goals as goal

pub returns : goal.returns
returns c = held_one_lem c.args.self.now.words c.args.leaves c.args.count (omega arith)
