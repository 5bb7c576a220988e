-- `bits::read_field` meets its contract: one field, stored (`field_read`).
use mathlib.Core.Path.{refl}
use Rattle.bits.specs.Fields.{field_read}
use Rattle.bits.proofs.read_field.Goals as goal

pub returns : goal.returns
unfolding field_read
returns c = (refl, rw c.field_at.ensures)
