use native.Mathlib.Omega.{arith}
use Rattle.rules.specs.Answer as answers
use mathlib.Core.Path.{refl}
use Rattle.rules.specs.CallShuffle as calls
use Rattle.accepting.proofs.Kept.{short_room, full_lists}
use Rattle.vector_calls.proofs.Checked.{checked_sound, refused_alike}
use Rattle.label_calls.proofs.Renaming.{shuffle_made, new_count, shuffled_count}
use Rattle.label_calls.proofs.shuffle.Goals as goal

pub returns-then-new-n : goal.returns-then-new-n
unfolding answers.reads answers.number_of
returns-then-new-n c = let S = checked_sound c.check.ensures c.in-Done.is in
    short_room _ _ (shuffle_made _ S) (new_count _ S) (omega arith) c.refuse.ensures

pub returns-then-out-n : goal.returns-then-out-n
unfolding answers.reads answers.number_of
returns-then-out-n c = let S = checked_sound c.check.ensures c.in-Done.is in
    short_room _ _ (shuffle_made _ S) (new_count _ S) (omega arith) c.refuse-then-out-n.ensures

pub shuffled-requires : goal.shuffled-requires
shuffled-requires c = let S = checked_sound c.check.ensures c.in-Done.is in
    (S, c.if-new-n.false, c.if-out-n.false)

pub returns-in-Refused : goal.returns-in-Refused
unfolding calls.shuffle
returns-in-Refused c = refused_alike _ _ _ refl c.check.ensures c.in-Refused.is

pub returns-else-out-n : goal.returns-else-out-n
unfolding answers.reads answers.number_of
returns-else-out-n c = let S = checked_sound c.check.ensures c.in-Done.is in
    full_lists _ _ _ (shuffle_made _ S) (new_count _ S) (shuffled_count _ S) (omega arith) c.shuffled.ensures.after c.shuffled.ensures.vector_after
