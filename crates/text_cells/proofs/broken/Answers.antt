use mathlib.Core.Path.{refl}
use Rattle.text_laws.proofs.Cells.{break_there, break_before}
use Rattle.text_cells.proofs.broken.Goals as goal

pub returns-then-at-ne-OFF : goal.returns-then-at-ne-OFF
returns-then-at-ne-OFF c = (refl, break_there _ _ c.if-at-ne-OFF.true)

pub returns-else-at-ne-OFF : goal.returns-else-at-ne-OFF
returns-else-at-ne-OFF c = (refl, break_before _ _ c.if-at-ne-OFF.false)
