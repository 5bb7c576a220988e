-- `ready` meets its contract.
use Rattle.clade_calls.specs.Filling.{readied}
use Rattle.clade_calls.proofs.ready.Goals as goal

pub returns : goal.returns
returns c = readied c.load_behind.ensures c.number_held.ensures
