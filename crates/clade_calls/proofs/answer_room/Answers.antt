-- `answer_room` meets its contract.
use mathlib.Core.Path.{refl}
use Rattle.rules.specs.Answer.{reads, number_of}
use native.Mathlib.Omega.{arith}
use Rattle.clade_calls.proofs.answer_room.Goals as goal

pub returns-then-room-needed : goal.returns-then-room-needed
unfolding number_of reads
returns-then-room-needed c = record { short = λ l. (c.refuse.ensures, c.clear.ensures); enough = λ g. absurd (omega (arith, g, c.if-room-needed.true)) }

pub returns : goal.returns
unfolding number_of reads
returns c = record { short = λ l. absurd (omega (arith, l, c.if-room-needed.false)); enough = λ g. (refl, refl) }
