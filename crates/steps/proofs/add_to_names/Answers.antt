-- `add_to_names` meets its contract: step 63, the last 0, is added to the count of i.
use Rattle.steps.specs.Steps.{added_steps}
use native.Mathlib.Omega.{arith}
use Rattle.steps.proofs.add_to_names.Goals as goal

pub returns : goal.returns
returns c = added_steps c.add_steps.ensures c.requires.steps (omega arith) (omega arith) (omega arith)
