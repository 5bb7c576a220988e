-- `add_pair` meets its contract: the row's names and its key, and what is stored at them.
use Prim.Native.Nat.{◌<◌}
use Rattle.chains.specs.Built.{adds_room, adds_last, built_next}
use native.Mathlib.Omega.{arith}
use Rattle.chains.proofs.Chains.add_pair.Goals as goal
use Rattle.chains.proofs.Chains.add_pair.Goals.{After-from-j}

all_low : (c : After-from-j) → (c.args.p < 2048) × (c.args.a < 1024) × (c.args.i < 1024) × (c.min-k.result < 1024) × (c.from-j.result < 1024)
all_low c =
    let row = adds_room c.requires.2 c.from.ensures c.from-2.ensures c.min.ensures c.min-k.ensures in
    let j = adds_last c.requires.2 c.from.ensures c.from-2.ensures c.min.ensures c.min-k.ensures c.from-j.ensures in
    omega arith

pub bounds-self-k : goal.bounds-self-k
bounds-self-k c = (adds_room c.requires.2 c.from.ensures c.from-2.ensures c.min.ensures c.min-k.ensures).3

pub overflow_cast-self : goal.overflow_cast-self
overflow_cast-self c = omega (arith, all_low c)

pub offset_bounds-self-i : goal.offset_bounds-self-i
offset_bounds-self-i c = omega (arith, all_low c)

pub bounds-self-i : goal.bounds-self-i
bounds-self-i c = (all_low c).2

pub overflow_cast-self-2 : goal.overflow_cast-self-2
overflow_cast-self-2 c = omega (arith, all_low c)

pub bounds-self-j : goal.bounds-self-j
bounds-self-j c = (all_low c).4

pub overflow_cast-self-3 : goal.overflow_cast-self-3
overflow_cast-self-3 c = omega (arith, all_low c)

pub bounds-self-k-2 : goal.bounds-self-k-2
bounds-self-k-2 c = (all_low c).3

pub overflow_cast-self-4 : goal.overflow_cast-self-4
overflow_cast-self-4 c = omega (arith, all_low c)

pub bounds-self-p : goal.bounds-self-p
bounds-self-p c = (all_low c).0

pub bounds-self-p-2 : goal.bounds-self-p-2
bounds-self-p-2 c = (all_low c).0

pub returns-clause-by_index : goal.returns-clause-by_index
returns-clause-by_index c = λ n rs A. built_next A c.from.ensures c.from-2.ensures c.min.ensures c.min-k.ensures c.from-j.ensures
