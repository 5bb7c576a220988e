-- `follow` meets its contract. The invariant: every walk that could begin at the key k has come to j.
use mathlib.Core.Path.{refl}
use Rattle.entries.specs.Entered.{headed_key}
use Rattle.entries.specs.Keyed.{following_start, following_room, following_ranked, following_few, following_next, following_less, following_end}
use native.Mathlib.Omega.{arith}
use Rattle.entries.proofs.follow.Goals as goal

pub bounds-next-k : goal.bounds-next-k
bounds-next-k c = headed_key c.requires.1

pub loop-j-init : goal.loop-j-init
loop-j-init c = following_start c.requires c.from-j.ensures

pub rank-requires : goal.rank-requires
rank-requires c = let R = following_ranked c.loop-j.invariant c.loop-j-test.true in
    record { by_index = (R.0, R.1); x_bound = (following_room c.loop-j.invariant c.loop-j-test.true).1 }

pub overflow_add-s : goal.overflow_add-s
overflow_add-s c = omega (arith, following_few c.loop-j.invariant c.loop-j-test.true c.rank.ensures refl)

pub offset_bounds-out-j : goal.offset_bounds-out-j
offset_bounds-out-j c = omega (arith, following_room c.loop-j.invariant c.loop-j-test.true)

pub bounds-out-j : goal.bounds-out-j
bounds-out-j c = (following_room c.loop-j.invariant c.loop-j-test.true).2

pub overflow_sub-s : goal.overflow_sub-s
overflow_sub-s c = omega (arith, following_few c.loop-j.invariant c.loop-j-test.true c.rank.ensures c.from.ensures)

pub overflow_add-out : goal.overflow_add-out
overflow_add-out c = omega (arith, following_room c.loop-j.invariant c.loop-j-test.true, following_few c.loop-j.invariant c.loop-j-test.true c.rank.ensures c.from.ensures)

pub overflow_cast-out : goal.overflow_cast-out
overflow_cast-out c = omega (arith, following_room c.loop-j.invariant c.loop-j-test.true, following_few c.loop-j.invariant c.loop-j-test.true c.rank.ensures c.from.ensures)

pub offset_bounds-out-j-in-loop-j : goal.offset_bounds-out-j-in-loop-j
offset_bounds-out-j-in-loop-j c = omega (arith, following_room c.loop-j.invariant c.loop-j-test.true)

pub bounds-out-j-in-loop-j : goal.bounds-out-j-in-loop-j
bounds-out-j-in-loop-j c = (following_room c.loop-j.invariant c.loop-j-test.true).2

pub insert-requires : goal.insert-requires
insert-requires c =
    record { by_index = following_ranked c.loop-j.invariant c.loop-j-test.true; i_bound = (following_room c.loop-j.invariant c.loop-j-test.true).1 }

pub offset_bounds-next-j : goal.offset_bounds-next-j
offset_bounds-next-j c = omega (arith, following_room c.loop-j.invariant c.loop-j-test.true)

pub bounds-next-j : goal.bounds-next-j
bounds-next-j c = (following_room c.loop-j.invariant c.loop-j-test.true).3

pub loop-j-smaller : goal.loop-j-smaller
loop-j-smaller c = following_less c.loop-j.invariant c.loop-j-test.true c.from-j-in-loop-j.ensures

pub loop-j-preserved : goal.loop-j-preserved
loop-j-preserved c = following_next c.loop-j.invariant c.loop-j-test.true c.rank.ensures c.from.ensures c.insert.ensures c.from-j-in-loop-j.ensures

pub returns : goal.returns
returns c = following_end c.loop-j.invariant c.loop-j-test.false
