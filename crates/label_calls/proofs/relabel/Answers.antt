use mathlib.Core.Path.{refl}
use Rattle.accepting.proofs.Kept.{refused_early, short_room, full_list}
use Rattle.rules.specs.Answer as answers
use Rattle.rules.specs.CallRelabel as calls
use Rattle.vector_calls.proofs.Checked.{checked_sound, refused_alike}
use Rattle.label_calls.proofs.Renaming.{length_refused, value_refused, relabel_made}
use Rattle.renaming.specs.VectorRows.{renamed_count}
use Rattle.label_calls.proofs.relabel.Goals as goal

pub returns-then-p-n : goal.returns-then-p-n
unfolding answers.reads answers.number_of
returns-then-p-n c = let S = checked_sound c.check.ensures c.in-Done.is in
    refused_early _ (length_refused _ _ S c.if-p-n.true) c.refuse.ensures

pub permutation_fault-requires : goal.permutation_fault-requires
permutation_fault-requires c = (checked_sound c.check.ensures c.in-Done.is).few

pub returns-in-Some : goal.returns-in-Some
unfolding answers.reads answers.number_of
returns-in-Some c = let S = checked_sound c.check.ensures c.in-Done.is in
    refused_early _ (value_refused _ _ _ S c.if-p-n.false c.in-Some.ensures) c.refuse-in-Some.ensures

pub returns-then-out-n : goal.returns-then-out-n
unfolding answers.reads answers.number_of
returns-then-out-n c = let S = checked_sound c.check.ensures c.in-Done.is in
    let f = c.in_default.ensures in
    short_room _ _ (relabel_made _ _ S c.if-p-n.false f) (renamed_count _ _ S.valid c.if-p-n.false f) c.if-out-n.true c.refuse-then-out-n.ensures

pub renamed_vector-requires-clause-vector : goal.renamed_vector-requires-clause-vector
renamed_vector-requires-clause-vector c = (checked_sound c.check.ensures c.in-Done.is, c.if-out-n.false)

pub returns-in-Refused : goal.returns-in-Refused
unfolding calls.relabel
returns-in-Refused c = refused_alike _ _ _ refl c.check.ensures c.in-Refused.is

pub returns-else-out-n : goal.returns-else-out-n
unfolding answers.reads answers.number_of
returns-else-out-n c = let S = checked_sound c.check.ensures c.in-Done.is in
    let f = c.in_default.ensures in
    full_list _ _ (relabel_made _ _ S c.if-p-n.false f) (renamed_count _ _ S.valid c.if-p-n.false f) c.if-out-n.false c.renamed_vector.ensures
