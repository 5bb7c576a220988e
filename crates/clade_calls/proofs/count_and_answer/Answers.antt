-- `count_and_answer` meets its contract.
use mathlib.Core.Path.{refl, ap, ◌∙◌}
use lib.ListN.{length}
use Rattle.rules.specs.Answer.{reads}
use Rattle.clade_calls.specs.Checked.{tabled, same_table, short_checked, again_checked, passed_header}
use Rattle.clade_calls.proofs.count_and_answer.Goals as goal

pub returns-then-room-needed : goal.returns-then-room-needed
returns-then-room-needed c = let B = c.requires in
    short_checked (tabled B) (c.count_entries-needed.ensures ∙ ap length (same_table B)) c.if-room-needed.true
    c.answer_room.ensures

pub returns : goal.returns
unfolding reads
returns c = let B = c.requires in
    again_checked (tabled B) c.pass.new.batch.words c.pass.result (c.count_entries-needed.ensures ∙ ap length (same_table B)) c.if-room-needed.false refl
    (passed_header c.args.trees.now.archive.now 0 c.pass.new.batch.words c.pass.result B.leaves B.count c.pass.ensures)
