-- `lengths::bits_before` meets its contract: the whole table is what the step rule makes, by one computation.
use native.Mathlib.Omega.{arith}
use mathlib.Core.Path.{◌≡◌, ap, ◌∙◌}
use Prim.Native.Nat.{◌+◌, ◌-◌}
use Rattle.rules.specs.Record.{total}
use Rattle.lengths.proofs.Table.{steps, steps_at}
use Rattle.lengths.proofs.bits_before.Goals as goal

-- The whole table is what the step rule makes, which antt computes.
pub returns : goal.returns
unfolding steps total
returns c =
    let n = c.args.n in
    let e : 1 + (n - 1) ≡ n = omega arith in
    c.from.ensures ∙ steps_at 1024 1 (n - 1) (omega arith) ∙ ap total e
