-- `four_entries::four_from` meets its contract: each shift makes room for the next number (`sizes_of`, `four_lt`).
use native.Mathlib.Omega.{arith}
use mathlib.Core.Path.{refl}
use Rattle.four_entries.specs.Four.{four_of}
use Rattle.four_entries.proofs.Four.{sizes_of, four_lt}
use Rattle.four_entries.proofs.four_from.Goals as goal

pub followed-requires : goal.followed-requires
followed-requires c =
    let s = sizes_of c.args.v.now c.args.i c.args.width c.requires.0 c.requires.2 in
    (omega arith, rw (c.followed-c.ensures, c.from-3.ensures, c.followed-b.ensures, c.from-2.ensures, c.from.ensures) s.by_three, rw c.from-4.ensures s.fourth)

pub returns : goal.returns
unfolding four_of
returns c =
    let a = c.args in
    rw (c.followed.ensures, c.from-4.ensures, c.followed-c.ensures, c.from-3.ensures, c.followed-b.ensures, c.from-2.ensures, c.from.ensures)
    (refl, four_lt a.v.now a.i a.width (sizes_of a.v.now a.i a.width c.requires.0 c.requires.2))
