use Rattle.accepting.proofs.Kept.{short_room, full_list}
use mathlib.Core.Path.{refl, sym, ◌∙◌}
use Rattle.rules.specs.Answer as answers
use Rattle.rules.specs.CallToNewick as calls
use Rattle.vector_calls.proofs.Checked.{checked_sound, refused_alike}
use Rattle.text_calls.proofs.ToText.{text_made, text_count}
use Rattle.text_calls.proofs.to_newick.Goals as goal

pub text_length-signs-requires : goal.text_length-signs-requires
text_length-signs-requires c = let S = checked_sound c.check.ensures c.in-Done.is in
    (S.valid.some_leaf, S.few)

pub returns-then-out-signs : goal.returns-then-out-signs
unfolding answers.reads answers.number_of
returns-then-out-signs c = let S = checked_sound c.check.ensures c.in-Done.is in
    short_room _ _ (text_made _ S) (text_count _ S ∙ sym c.text_length-signs.ensures) c.if-out-signs.true c.refuse.ensures

pub write_tree-requires : goal.write_tree-requires
write_tree-requires c = let S = checked_sound c.check.ensures c.in-Done.is in
    (S, rw c.text_length-signs.ensures at c.if-out-signs.false)

pub returns-in-Refused : goal.returns-in-Refused
unfolding calls.to_text
returns-in-Refused c = refused_alike _ _ _ refl c.check.ensures c.in-Refused.is

pub returns-else-out-signs : goal.returns-else-out-signs
unfolding answers.reads answers.number_of
returns-else-out-signs c = let S = checked_sound c.check.ensures c.in-Done.is in
    full_list _ _ (text_made _ S) (text_count _ S ∙ sym c.text_length-signs.ensures) c.if-out-signs.false (rw (← c.text_length-signs.ensures) at c.write_tree.ensures)
