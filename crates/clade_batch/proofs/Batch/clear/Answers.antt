-- `Batch::clear` meets its contract.
use Rattle.clade_batch.specs.Held.{held_none}
use native.Mathlib.Omega.{arith}
use Rattle.clade_batch.proofs.Batch.clear.Goals as goal

pub returns : goal.returns
returns c = held_none c.args.self.now.words (omega arith)
