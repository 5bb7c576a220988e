-- `read_rows` meets its contract: the first t rows are read, and none of them is refused.
use Rattle.std.proofs.Common.{sym}
use Rattle.std.proofs.lemmas.Result.{err_from_is_err_and}
use Rattle.reading.specs.Reading.{RowAt, reads_inside, reads_few, adds_some, reads_next, reads_end}
use Rattle.reading.specs.Told.{read_placed, read_named}
use native.Mathlib.Omega.{arith}
use Rattle.reading.proofs.read_rows.Goals as goal
use Rattle.reading.proofs.read_rows.Goals.{After-from-parent}

-- what the three reads of a turn tell of row t
row_here : (c : After-from-parent) → RowAt c.args.n c.args.rows.now c.loop-t.t c.from-l.result c.from-r.result c.from-parent.result
row_here c = record { inside = omega arith; first = sym c.from-l.ensures; second = sym c.from-r.ensures; parent = sym c.from-parent.ensures }

pub returns-in_err-check_numbers : goal.returns-in_err-check_numbers
returns-in_err-check_numbers c =
    let row = row_here (goal.at.returns-in_err-check_numbers c).After-from-parent in
    let p = err_from_is_err_and c.from_residual.result c.from_residual.ensures.1 in
    rw (p.1, p.2) (read_placed c.loop-t.invariant row c.in_err-check_numbers.ensures.0 c.in_err-check_numbers.ensures.1)

pub take_name-x-requires : goal.take_name-x-requires
take_name-x-requires c = let row = row_here (goal.at.take_name-x-requires c).After-from-parent in
    (reads_inside c.loop-t.invariant row c.in_ok-check_numbers.ensures).0

pub take_name-y-requires : goal.take_name-y-requires
take_name-y-requires c = let row = row_here (goal.at.take_name-y-requires c).After-from-parent in
    let inside = reads_inside c.loop-t.invariant row c.in_ok-check_numbers.ensures in
    omega (arith, c.take_name-x.auto)

pub overflow_add-s : goal.overflow_add-s
overflow_add-s c =
    let row = row_here (goal.at.overflow_add-s c).After-from-parent in
    let few = reads_few c.loop-t.invariant row c.in_ok-check_numbers.ensures c.take_name-x.ensures.0 c.take_name-x.ensures.1 c.take_name-y.ensures.0 c.take_name-y.ensures.1 in
    omega arith

pub returns-then-from-s : goal.returns-then-from-s
returns-then-from-s c =
    let row = row_here (goal.at.returns-then-from-s c).After-from-parent in
    let x = c.take_name-x.ensures in
    let y = c.take_name-y.ensures in
    read_named c.loop-t.invariant row c.in_ok-check_numbers.ensures x.0 x.1 y.0 y.1 (omega (arith, c.from.ensures))

pub add_pair-requires : goal.add_pair-requires
add_pair-requires c =
    let row = row_here (goal.at.add_pair-requires c).After-from-parent in
    let x = c.take_name-x.ensures in
    let y = c.take_name-y.ensures in
    adds_some c.loop-t.invariant row c.in_ok-check_numbers.ensures x.0 x.1 y.0 y.1 (omega (arith, c.from.ensures)) c.max-i.ensures

pub loop-t-preserved : goal.loop-t-preserved
loop-t-preserved c =
    let row = row_here (goal.at.loop-t-preserved c).After-from-parent in
    let x = c.take_name-x.ensures in
    let y = c.take_name-y.ensures in
    let added = c.add_pair.ensures in
    reads_next c.loop-t.invariant row c.in_ok-check_numbers.ensures x.0 x.1 y.0 y.1 (omega (arith, c.from.ensures)) c.max-i.ensures added.names_after added.by_index

pub returns : goal.returns
returns c = reads_end c.loop-t.invariant (omega arith)
