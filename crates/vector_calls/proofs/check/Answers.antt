use native.Mathlib.Omega.{arith}
use mathlib.Core.Path.{refl}
use Rattle.rules.specs.Answer as answers
use Rattle.accepting.proofs.Kept.{refused_early, full_room}
use Rattle.vector_calls.proofs.Checked.{empty_refused, large_refused, fault_refused, passes}
use Rattle.vector_calls.proofs.check.Goals as goal

pub returns-then-n-eq0 : goal.returns-then-n-eq0
unfolding answers.reads answers.number_of
returns-then-n-eq0 c = refused_early _ (empty_refused _ c.if-n-eq0.true) c.refuse.ensures

pub returns-then-n-gt1024 : goal.returns-then-n-gt1024
unfolding answers.reads answers.number_of
returns-then-n-gt1024 c = refused_early _ (large_refused _ c.if-n-gt1024.true) c.refuse-then-n-gt1024.ensures

pub returns-in-Some : goal.returns-in-Some
unfolding answers.reads answers.number_of
returns-in-Some c = refused_early _ (fault_refused _ _ (omega arith) (omega arith) c.in-Some.ensures.fault) c.refuse-in-Some.ensures

pub returns : goal.returns
unfolding answers.reads answers.number_of
returns c = full_room _ _ (passes _ (omega arith) (omega arith) c.in_default.ensures.fault) refl (omega arith) refl
