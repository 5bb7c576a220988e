-- `write_front` meets its contract: n, a space, the entries and a space stand one behind another, and they fit.
use native.Mathlib.Omega.{arith}
use lib.ListN.{length-set}
use Rattle.listing_front.proofs.Parts.{front_written, entries_room, space_room}
use Rattle.listing_front.proofs.write_front.Goals as goal

pub write_entries-y-requires-clause-room : goal.write_entries-y-requires-clause-room
write_entries-y-requires-clause-room c = simp length-set (omega (arith, entries_room c.args.v.now c.requires.room c.write_label-x.ensures))

pub bounds-out-y : goal.bounds-out-y
bounds-out-y c = (space_room _ c.requires.room c.write_label-x.ensures c.write_entries-y.ensures).1

pub overflow_add-result : goal.overflow_add-result
overflow_add-result c = omega (arith, space_room c.args.v.now c.requires.room c.write_label-x.ensures c.write_entries-y.ensures)

pub returns : goal.returns
returns c = front_written _ c.write_label-x.ensures c.write_entries-y.ensures
