use Rattle.tree_text.specs.Long.{length_closed}
use Rattle.tree_text.proofs.text_length.Goals as goal

pub returns : goal.returns
returns c = length_closed _ _ _ _ c.saturating_sub-tens.ensures c.saturating_sub-hundreds.ensures c.saturating_sub-thousands.ensures
