-- `enter_key` meets its contract: a key without a chain is passed, a chain is followed.
use Rattle.entries.specs.Keyed.{keyed_room, keyed_skip, keyed_head, keyed_chain}
use native.Mathlib.Omega.{arith}
use Rattle.entries.proofs.enter_key.Goals as goal

pub bounds-chains-k : goal.bounds-chains-k
bounds-chains-k c = (keyed_room _ c.requires.1).5

pub overflow_cast-out : goal.overflow_cast-out
overflow_cast-out c = omega (arith, keyed_room _ c.requires.1)

pub bounds-out-k : goal.bounds-out-k
bounds-out-k c = (keyed_room _ c.requires.1).0

pub returns-then-chains-k-eq0 : goal.returns-then-chains-k-eq0
returns-then-chains-k-eq0 c = λ g K. keyed_skip _ K c.if-chains-k-eq0.true

pub bounds-chains-k-2 : goal.bounds-chains-k-2
bounds-chains-k-2 c = (keyed_room _ c.requires.1).5

pub bounds-out-k-2 : goal.bounds-out-k-2
bounds-out-k-2 c = (keyed_room _ c.requires.1).0

pub follow-requires : goal.follow-requires
follow-requires c = (c.requires.0, keyed_head _ c.requires.1 c.if-chains-k-eq0.false)

pub returns : goal.returns
returns c = λ g K. keyed_chain _ K (c.follow.ensures g (keyed_head _ K c.if-chains-k-eq0.false))
