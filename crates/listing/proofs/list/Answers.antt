-- `list` meets its contract: what unpack is done with is a vector whose line fits.
use Rattle.std.proofs.Common.{arith}
use Rattle.holding.proofs.AnswerLine.{vector_first}
use Rattle.io.proofs.Counting.{length-take_of_le}
use Rattle.listing_line.specs.Longest.{line_fits}
use Rattle.listing.proofs.list.Goals as goal

pub shared_ref_as_front-write_line : goal.shared_ref_as_front-write_line
shared_ref_as_front-write_line c = omega (arith, (vector_first _ (omega arith) c.unpack-given.ensures c.in-Done.is).within)

pub slice_bounds-write_line-end : goal.slice_bounds-write_line-end
slice_bounds-write_line-end c = (vector_first _ (omega arith) c.unpack-given.ensures c.in-Done.is).count

pub write_line-end-requires : goal.write_line-end-requires
write_line-end-requires c = ((vector_first _ (omega arith) c.unpack-given.ensures c.in-Done.is).accepted, omega arith)

-- the line is within the buffer
pub shared_ref_as_front-write_all : goal.shared_ref_as_front-write_all
shared_ref_as_front-write_all c =
    let P = (vector_first _ (omega arith) c.unpack-given.ensures c.in-Done.is).accepted in
    omega (arith, line_fits _ P.valid P.few (omega arith) c.write_line-end.ensures)

pub slice_bounds-write_all-end : goal.slice_bounds-write_all-end
slice_bounds-write_all-end c =
    let P = (vector_first _ (omega arith) c.unpack-given.ensures c.in-Done.is).accepted in
    length-take_of_le _ _ (line_fits _ P.valid P.few (omega arith) c.write_line-end.ensures)
