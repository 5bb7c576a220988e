-- `check_room` meets its contract.
use mathlib.Core.Path.{refl}
use Rattle.rules.specs.Answer.{reads}
use Rattle.clade_calls.specs.Checked.{tabled, first_held, room_checked, first_all, enough_checked}
use Rattle.clade_calls.proofs.check_room.Goals as goal

pub returns-then-first-lt-MOST : goal.returns-then-first-lt-MOST
returns-then-first-lt-MOST c = let B = c.requires in
    room_checked (tabled B) (first_all (tabled B) c.args.held.now.words (first_held B) c.number_held-first.ensures
    c.if-first-lt-MOST.true) (first_held B) c.answer_room.ensures

pub returns-then-trees-room : goal.returns-then-trees-room
unfolding reads
returns-then-trees-room c = let B = c.requires in enough_checked (tabled B) (rw (B.leaves, B.count) at c.if-trees-room.true) refl (first_held B)
