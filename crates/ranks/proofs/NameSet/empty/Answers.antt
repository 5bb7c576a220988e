use Rattle.ranks.specs.Ranks.{ranks_none}
use Rattle.ranks.proofs.NameSet.empty.Goals as goal

pub returns : goal.returns
returns c = ranks_none
