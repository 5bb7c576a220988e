-- `add_leaves` meets its contract. The invariant: the first k leaves have no key yet.
use Rattle.std.proofs.Common.{◌≡◌, arith, rules}
use Rattle.chains.specs.Leaves.{keyless_next, built_leaves}
use Rattle.chains.proofs.Chains.add_leaves.Goals as goal

pub loop-k-init : goal.loop-k-init
loop-k-init c = c.requires.fresh

pub loop-k-preserved : goal.loop-k-preserved
loop-k-preserved c = keyless_next c.loop-k.invariant (omega arith)

pub returns : goal.returns
returns c = let k : c.loop-k.k ≡ c.args.n = omega arith in built_leaves c.requires.few (search rules) c.number_leaves.ensures (rw k at c.loop-k.invariant)
