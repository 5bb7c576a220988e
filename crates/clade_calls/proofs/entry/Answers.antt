-- `entry` meets its contract.
use mathlib.Core.Path.{refl}
use Rattle.clade_calls.specs.Filling.{held_entry}
use Rattle.clade_calls.proofs.entry.Goals as goal

pub returns : goal.returns
unfolding held_entry
returns c = refl
