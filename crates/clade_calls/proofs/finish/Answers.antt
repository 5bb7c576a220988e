-- `finish` meets its contract.
use mathlib.Core.Path.{refl}
use Rattle.rules.specs.Answer.{reads}
use Rattle.clade_calls.specs.Filling.{finished}
use Rattle.clade_calls.proofs.finish.Goals as goal

pub returns-in-Done : goal.returns-in-Done
unfolding finished reads
returns-in-Done c = rw c.in-Done.is refl

pub returns-in-Refused : goal.returns-in-Refused
unfolding finished reads
returns-in-Refused c = rw c.in-Refused.is refl
