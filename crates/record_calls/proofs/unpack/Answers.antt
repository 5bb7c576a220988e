-- `unpack` meets its contract: what is told of the record, and where it has a vector the room.
use Rattle.rules.specs.Answer as answers
use Rattle.accepting.proofs.Kept.{refused_early, handed_on}
use Rattle.record_calls.proofs.unpack.Goals as goal

pub returns-in-Err-Length : goal.returns-in-Err-Length
unfolding answers.reads answers.number_of
returns-in-Err-Length c = refused_early _ (rw c.in-Err-Length.field-0-is at c.in-Err-Length.ensures) (rw c.in-Err-Length.wanted-is at c.refuse.ensures)

pub returns-in-Err-LeafCount : goal.returns-in-Err-LeafCount
unfolding answers.reads answers.number_of
returns-in-Err-LeafCount c = refused_early _ (rw c.in-Err-LeafCount.field-0-is at c.in-Err-LeafCount.ensures) c.refuse-in-Err-LeafCount.ensures

pub returns-in-Err-Entry : goal.returns-in-Err-Entry
unfolding answers.reads answers.number_of
returns-in-Err-Entry c = refused_early _ (rw c.in-Err-Entry.field-0-is at c.in-Err-Entry.ensures) (rw c.in-Err-Entry.i-is at c.refuse-in-Err-Entry.ensures)

pub returns-in-Err-Padding : goal.returns-in-Err-Padding
unfolding answers.reads answers.number_of
returns-in-Err-Padding c = refused_early _ (rw c.in-Err-Padding.field-0-is at c.in-Err-Padding.ensures) (rw c.in-Err-Padding.place-is at c.refuse-in-Err-Padding.ensures)

pub returns-in-Ok : goal.returns-in-Ok
returns-in-Ok c = handed_on _ c.in-Ok.ensures.1 c.hand_out.ensures
