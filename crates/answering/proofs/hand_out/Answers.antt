-- `hand_out` meets its contract: too little room, or the numbers copied.
use mathlib.Core.Path.{refl}
use lib.Seq.{length-take-le}
use Rattle.rules.specs.Answer as answers
use Rattle.accepting.proofs.Kept.{short_room, full_list}
use Rattle.answering.proofs.hand_out.Goals as goal

pub returns-then-out-n : goal.returns-then-out-n
unfolding answers.reads answers.number_of
returns-then-out-n c = short_room _ _ refl (length-take-le _ _ c.requires) c.if-out-n.true c.refuse.ensures

pub returns : goal.returns
returns c = full_list _ _ refl (length-take-le _ _ c.requires) c.if-out-n.false c.copy.ensures
