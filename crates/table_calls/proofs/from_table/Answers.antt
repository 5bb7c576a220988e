-- `from_table` meets its contract: what is found of the rows, and where they are accepted the room.
use Rattle.accepting.proofs.Kept.{refused_early, handed_on}
use native.Mathlib.Omega.{arith}
use Rattle.rules.specs.Answer as answers
use Rattle.accepting.proofs.FromTable.{no_leaves, too_many_leaves, wrong_rows, row_refused, rows_accepted}
use Rattle.table_calls.proofs.FromTable.{vector_count, read_front}
use Rattle.table_calls.proofs.from_table.Goals as goal

pub returns-then-leaves-eq0 : goal.returns-then-leaves-eq0
unfolding answers.reads answers.number_of
returns-then-leaves-eq0 c = refused_early _ (no_leaves _ _ c.if-leaves-eq0.true) c.refuse.ensures

pub returns-then-leaves-gt1024 : goal.returns-then-leaves-gt1024
unfolding answers.reads answers.number_of
returns-then-leaves-gt1024 c = refused_early _ (too_many_leaves _ _ c.if-leaves-gt1024.true) c.refuse-then-leaves-gt1024.ensures

pub returns-then-rows-wanted : goal.returns-then-rows-wanted
unfolding answers.reads answers.number_of
returns-then-rows-wanted c = refused_early _ (wrong_rows _ _ (omega arith) c.if-leaves-gt1024.false c.if-rows-wanted.true) c.refuse-then-rows-wanted.ensures

pub returns-in-Err-Parent : goal.returns-in-Err-Parent
unfolding answers.reads answers.number_of
returns-in-Err-Parent c = let found = rw (c.in-Err-Parent.field-0-is, ← c.in-Err-Parent.t-is) at c.in-Err-Parent.ensures in
    refused_early _ (row_refused _ _ _ (omega arith) c.if-leaves-gt1024.false c.if-rows-wanted.false found) c.refuse-in-Err-Parent.ensures

pub returns-in-Err-Child : goal.returns-in-Err-Child
unfolding answers.reads answers.number_of
returns-in-Err-Child c = let found = rw (c.in-Err-Child.field-0-is, ← c.in-Err-Child.t-is) at c.in-Err-Child.ensures in
    refused_early _ (row_refused _ _ _ (omega arith) c.if-leaves-gt1024.false c.if-rows-wanted.false found) c.refuse-in-Err-Child.ensures

pub returns-in-Err-NamedBefore : goal.returns-in-Err-NamedBefore
unfolding answers.reads answers.number_of
returns-in-Err-NamedBefore c = let found = rw (c.in-Err-NamedBefore.field-0-is, ← c.in-Err-NamedBefore.t-is) at c.in-Err-NamedBefore.ensures in
    refused_early _ (row_refused _ _ _ (omega arith) c.if-leaves-gt1024.false c.if-rows-wanted.false found) c.refuse-in-Err-NamedBefore.ensures

pub returns-in-Ok : goal.returns-in-Ok
returns-in-Ok c = let read = c.in-Ok.ensures in
    let args = c.args in
    let entries = vector_count _ _ (omega arith) c.if-rows-wanted.false read.0 in
    let front = read_front args.leaves args.rows.now _ _ read.1 entries in
    handed_on _ (rows_accepted _ _ (omega arith) c.if-leaves-gt1024.false c.if-rows-wanted.false read.0) (rw front at c.hand_out.ensures)
