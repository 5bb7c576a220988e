-- `load_next` meets its contract.
use Rattle.clade_entries.specs.Next.{next_follows}
use Rattle.clade_entries.proofs.load_next.Goals as goal

pub returns : goal.returns
returns c = next_follows _ _ _ c.args.batch.now.words c.pass.new.batch.words c.pass.result c.pass.ensures
