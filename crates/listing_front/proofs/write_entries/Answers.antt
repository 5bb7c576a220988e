use Rattle.std.proofs.Common.{arith, length-set}
use Rattle.digits.specs.Count.{digits_at_most}
use Rattle.listing_front.proofs.Commas.{entry_small, entry_behind, entry_room, next_entry}
use Rattle.listing_front.proofs.write_entries.Goals as goal

pub write_label-x-requires-in-loop-entry : goal.write_label-x-requires-in-loop-entry
write_label-x-requires-in-loop-entry c =
    let same = entry_behind c.args.v.now c.loop-entry.entry-index c.from-in-loop-entry.ensures in
    let room = entry_room _ _ c.loop-entry.invariant (omega arith) c.requires.room in
    (rw same (entry_small _ _ c.requires.accepted (omega arith)), simp length-set (omega (arith, room, digits_at_most 4 c.from-in-loop-entry.result)))

pub loop-entry-preserved : goal.loop-entry-preserved
loop-entry-preserved c =
    let same = entry_behind c.args.v.now c.loop-entry.entry-index c.from-in-loop-entry.ensures in
    next_entry _ _ c.loop-entry.invariant (omega arith) (omega arith) same c.write_label-x-in-loop-entry.ensures
