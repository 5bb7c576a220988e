-- `filled` makes the steps of blocks and of names: 0s and then as many 1s.
use Rattle.steps.specs.Steps.{filled_steps}
use Rattle.ranks.proofs.MemberSteps.filled.Goals as goal

pub invariant_of-result : goal.invariant_of-result
invariant_of-result c = record { of_blocks = filled_steps 16 (c.fill.ensures.after (λ y e. e)); of_names = filled_steps 64 (c.fill-2.ensures.after (λ y e. e)) }
