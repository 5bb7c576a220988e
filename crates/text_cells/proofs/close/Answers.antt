use Rattle.text_laws.proofs.Cells.{pair_there}
use Rattle.text_cells.proofs.close.Goals as goal

pub returns : goal.returns
returns c = pair_there c.args.m.now _ c.requires.low
