-- `take_front` meets its contract: front_row bounds the places that are read, after_first and after_second follow the two children.
use Rattle.queue.proofs.Taking.{front_row, after_first, after_second}
use native.Mathlib.Omega.{arith}
use Rattle.queue.proofs.Queue.take_front.Goals as goal

pub overflow_sub-row : goal.overflow_sub-row
overflow_sub-row c = omega (arith, (front_row c.requires).1)

pub bounds-left-row : goal.bounds-left-row
bounds-left-row c = omega (arith, (front_row c.requires).2, c.requires.lent.lefts, c.from.ensures)

pub bounds-right-row : goal.bounds-right-row
bounds-right-row c = omega (arith, (front_row c.requires).2, c.requires.lent.rights, c.from.ensures)

pub place-mid-requires : goal.place-mid-requires
place-mid-requires c = (c.requires.lent.small, (front_row c.requires).3)

pub place-requires : goal.place-requires
place-requires c = (c.requires.lent.small, after_first c.requires (omega arith) (omega arith) c.from.ensures c.place-mid.ensures)

pub returns : goal.returns
returns c = after_second c.requires (omega arith) (omega arith) c.from.ensures c.place-mid.ensures c.place.ensures
