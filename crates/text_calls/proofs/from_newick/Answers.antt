-- `from_newick` meets its contract: what is told of the text, and where it has a vector the room.
use Rattle.std.proofs.Common.{sym, ◌∙◌}
use Rattle.rules.specs.Answer as answers
use Rattle.accepting.proofs.Kept.{refused_early, handed_on}
use Rattle.rules.specs.CallFromNewick.{too_long}
use Rattle.rules.specs.Guards.{label_number}
use Rattle.label_faults.specs.Fault.{fault_is}
use Rattle.text_vector.specs.Gives.{held_there}
use Rattle.text_calls.proofs.from_newick.Goals as goal

pub returns-then-text-gt65536 : goal.returns-then-text-gt65536
unfolding answers.reads answers.number_of
returns-then-text-gt65536 c = refused_early _ (too_long c.if-text-gt65536.true) c.refuse.ensures

pub hand_out-requires : goal.hand_out-requires
hand_out-requires c = held_there c.in-Ok.ensures

pub returns-in-Err-TooManySigns : goal.returns-in-Err-TooManySigns
unfolding answers.reads answers.number_of
returns-in-Err-TooManySigns c = refused_early _ (rw c.in-Err-TooManySigns.field-0-is at c.in-Err-TooManySigns.ensures) c.refuse-in-Err-TooManySigns.ensures

pub returns-in-Err-Breaks : goal.returns-in-Err-Breaks
unfolding answers.reads answers.number_of
returns-in-Err-Breaks c = refused_early _ (rw c.in-Err-Breaks.field-0-is at c.in-Err-Breaks.ensures) (rw c.in-Err-Breaks.place-is at c.refuse-in-Err-Breaks.ensures)

pub returns-in-Err-TooManyLeaves : goal.returns-in-Err-TooManyLeaves
unfolding answers.reads answers.number_of
returns-in-Err-TooManyLeaves c = refused_early _ (rw c.in-Err-TooManyLeaves.field-0-is at c.in-Err-TooManyLeaves.ensures) c.refuse-in-Err-TooManyLeaves.ensures

pub returns-in-Stray : goal.returns-in-Stray
unfolding answers.reads answers.number_of label_number fault_is
returns-in-Stray c =
    let told = rw c.in-Err-Label.field-0-is at c.in-Err-Label.ensures in
    refused_early _ (rw (sym c.in-Err-Label.fault-is ∙ c.in-Stray.is) at told) c.refuse-in-Stray.ensures

pub returns-in-Double : goal.returns-in-Double
unfolding answers.reads answers.number_of label_number fault_is
returns-in-Double c =
    let told = rw c.in-Err-Label.field-0-is at c.in-Err-Label.ensures in
    refused_early _ (rw (sym c.in-Err-Label.fault-is ∙ c.in-Double.is) at told) c.refuse-in-Double.ensures

pub returns-in-Ok : goal.returns-in-Ok
returns-in-Ok c = handed_on _ c.in-Ok.ensures.makes c.hand_out.ensures
