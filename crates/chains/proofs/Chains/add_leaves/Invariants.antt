-- `add_leaves` meets its contract. The invariant: the first k leaves have no key yet.
use Rattle.chains.specs.Leaves.{Keyless}
use Rattle.chains.proofs.Chains.add_leaves.Given as goal

abbrev pub invariant-loop-k : goal.invariant-loop-k
invariant-loop-k l = Keyless l.k l.self.lows l.self.small l.self.next l.self.last
