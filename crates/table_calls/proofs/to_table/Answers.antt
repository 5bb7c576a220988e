use mathlib.Core.Path.{refl}
use native.Mathlib.Omega.{arith}
use Rattle.rules.specs.Answer as answers
use Rattle.accepting.proofs.Kept.{short_room, full_list}
use Rattle.rules.specs.CallToTable as calls
use Rattle.vector_calls.proofs.Checked.{checked_sound, refused_alike}
use Rattle.table_calls.proofs.ToTable.{table_made, table_count}
use Rattle.table_calls.proofs.to_table.Goals as goal

pub overflow_sub-needed : goal.overflow_sub-needed
overflow_sub-needed c = omega (arith, (checked_sound c.check.ensures c.in-Done.is).valid.some_leaf)

pub returns-then-out-needed : goal.returns-then-out-needed
unfolding answers.reads answers.number_of
returns-then-out-needed c = let S = checked_sound c.check.ensures c.in-Done.is in
    short_room _ _ (table_made _ S) (table_count _ S) c.if-out-needed.true c.refuse.ensures

pub write_table-requires : goal.write_table-requires
write_table-requires c = let S = checked_sound c.check.ensures c.in-Done.is in
    (S, c.if-out-needed.false)

pub returns-in-Refused : goal.returns-in-Refused
unfolding calls.to_table
returns-in-Refused c = refused_alike _ _ _ refl c.check.ensures c.in-Refused.is

pub returns-else-out-needed : goal.returns-else-out-needed
unfolding answers.reads answers.number_of
returns-else-out-needed c = let S = checked_sound c.check.ensures c.in-Done.is in
    full_list _ _ (table_made _ S) (table_count _ S) c.if-out-needed.false c.write_table.ensures
