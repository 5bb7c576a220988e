-- The buffers that are lent to a public call, and the promise that its function gives.
-- Main definitions: Lent, Kept.
use Rattle.rules.specs.declared.Answer.{Answer}
use Rattle.rules.specs.Promise.{Keeps}
use Rattle.demands.specs.Calls.{Public}
use Rattle.demands.proofs.Calls.{the}

-- the buffers that are lent to a call
abbrev pub Lent : Public → Type 0
Lent c = (the c).Lent

-- the promise of a public call, as its function gives it
abbrev pub Kept : (c : Public) → Lent c → Answer → Lent c → Type 0
Kept c = Keeps (the c).call
