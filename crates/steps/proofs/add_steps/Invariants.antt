-- `add_steps` meets its contract. The invariant: the first k steps are added.
use Rattle.steps.specs.Summed.{Summed}
use Rattle.steps.proofs.add_steps.Given as goal

abbrev pub invariant-loop-k : goal.invariant-loop-k
invariant-loop-k g l = Summed g.T.Add.add_gives l.at l.initial.counts l.from l.steps l.counts l.k
