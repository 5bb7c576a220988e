-- `children` meets its contract: the first t rows are done, and number has the node of each name.
use mathlib.Core.Path.{refl}
use Rattle.numbering.specs.Numbered.{next_merge}
use Rattle.numbering.specs.Columns.{columns_start, columns_next, columns_end}
use Rattle.numbering.proofs.children.Goals as goal

pub loop-t-init : goal.loop-t-init
loop-t-init c = let p = c.requires in columns_start p.0 p.1 p.2

pub pair-a-requires-clause-in_small : goal.pair-a-requires-clause-in_small
pair-a-requires-clause-in_small c = (next_merge c.loop-t.invariant.numbered c.loop-t-test.true refl refl).in_small

pub bounds-number-a : goal.bounds-number-a
bounds-number-a c = (next_merge c.loop-t.invariant.numbered c.loop-t-test.true c.pair-a.ensures.larger c.pair-a.ensures.smaller).a_in_number

pub bounds-number-b : goal.bounds-number-b
bounds-number-b c = (next_merge c.loop-t.invariant.numbered c.loop-t-test.true c.pair-a.ensures.larger c.pair-a.ensures.smaller).b_in_number

pub bounds-number-a-in-loop-t : goal.bounds-number-a-in-loop-t
bounds-number-a-in-loop-t c = (next_merge c.loop-t.invariant.numbered c.loop-t-test.true c.pair-a.ensures.larger c.pair-a.ensures.smaller).a_in_number

pub loop-t-preserved : goal.loop-t-preserved
loop-t-preserved c = columns_next c.loop-t.invariant c.loop-t-test.true c.pair-a.ensures.larger c.pair-a.ensures.smaller

pub returns : goal.returns
returns c =
    let e = columns_end c.loop-t.invariant c.loop-t-test.false in
    record { left_after = e.0; right_after = e.1 }
