-- `write_line` meets its contract: the front, the text and the line end stand one behind another, and the line fits.
use Rattle.std.proofs.Common.{arith}
use Rattle.listing_line.proofs.Parts.{line_written, end_room}
use Rattle.listing_line.proofs.write_line.Goals as goal

pub bounds-out-end : goal.bounds-out-end
bounds-out-end c = let p = c.requires in
    end_room _ p.0.valid p.0.few p.1 c.write_front-at.ensures c.write_text-end.ensures

pub overflow_add-result : goal.overflow_add-result
overflow_add-result c = let p = c.requires in
    omega (arith, end_room _ p.0.valid p.0.few p.1 c.write_front-at.ensures c.write_text-end.ensures)

pub returns : goal.returns
returns c = line_written _ c.write_front-at.ensures c.write_text-end.ensures
