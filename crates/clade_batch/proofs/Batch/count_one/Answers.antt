-- `Batch::count_one` meets its contract.
use Rattle.clade_batch.specs.Held.{count_fits}
use native.Mathlib.Omega.{arith}
use Rattle.clade_batch.proofs.Batch.count_one.Goals as goal

pub overflow_add-self-2 : goal.overflow_add-self-2
overflow_add-self-2 c = record { fits = omega (arith, count_fits c.requires.0 c.args.place c.requires.1) }
