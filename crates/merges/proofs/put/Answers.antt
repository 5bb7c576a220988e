-- `put` meets its contract: an entry that names a leaf, and any other.
use native.Mathlib.Omega.{arith}
use Rattle.merges.specs.Built.{put_front, put_behind, counted_inside}
use Rattle.merges.proofs.put.Goals as goal

pub returns-then-from-i : goal.returns-then-from-i
returns-then-from-i c = put_front c.requires (omega arith)

pub bounds-small-from : goal.bounds-small-from
bounds-small-from c = let put = c.insert-start in
    let found = counted_inside put.new.list put.result c.requires (omega arith) c.from-d.ensures put.ensures.2 in
    omega (arith, c.from-2.ensures)

pub returns : goal.returns
returns c = let e = c.insert-start.ensures in
    rw c.from-2.ensures
    (put_behind c.requires (omega arith) c.from-d.ensures e.0 e.1 e.2)
