use Rattle.rules.specs.CallFromNewick.{too_many_signs}
use Rattle.text_laws.proofs.Cells.{replicate_all_zero}
use Rattle.text_vector.specs.Gives.{gives_too_many}
use Rattle.text_vector.proofs.read_vector.Goals as goal

pub keep-requires : goal.keep-requires
keep-requires c = replicate_all_zero 6144

pub signs_vector-requires : goal.signs_vector-requires
signs_vector-requires c = (c.in_ok-count.ensures, c.requires)

pub returns-in_err-count : goal.returns-in_err-count
returns-in_err-count c = gives_too_many _ _ c.from_residual.ensures.1 (too_many_signs c.requires c.in_err-count.ensures)

pub returns : goal.returns
returns c = c.signs_vector.ensures
