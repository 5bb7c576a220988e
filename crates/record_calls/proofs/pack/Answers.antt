-- `pack` meets its contract: the vector is checked, and then its record has the room.
use mathlib.Core.List.{List}
use mathlib.Core.Path.{◌≡◌, refl, sym, ◌∙◌}
use Prim.Native.Nat.{ℕ}
use Rattle.rules.specs.Record.{record_of}
use Rattle.rules.specs.Answer as answers
use Rattle.rules.specs.CallPack as calls
use Rattle.accepting.proofs.FromVector.{vector_accepted}
use Rattle.rules.specs.Vector.{Vector}
use Rattle.accepting.proofs.Kept.{short_room, full_list}
use Rattle.record_laws.proofs.Inverse.{length_record}
use Rattle.vector_calls.proofs.Checked.{checked_sound, refused_alike}
use Rattle.record_calls.proofs.pack.Goals as goal

record_made : (v : List ℕ) → Vector v → calls.pack v ≡ answers.made (record_of v)
unfolding calls.pack
record_made v S = vector_accepted v (answers.made (record_of v)) S

pub record_length-bytes-requires : goal.record_length-bytes-requires
record_length-bytes-requires c = let S = checked_sound c.check.ensures c.in-Done.is in
    (S.valid.some_leaf, S.few)

pub returns-then-out-bytes : goal.returns-then-out-bytes
unfolding answers.reads answers.number_of
returns-then-out-bytes c = short_room _ _ (record_made _ (checked_sound c.check.ensures c.in-Done.is)) (length_record _ ∙ sym c.record_length-bytes.ensures) c.if-out-bytes.true c.refuse.ensures

pub pack_into-requires : goal.pack_into-requires
pack_into-requires c = let S = checked_sound c.check.ensures c.in-Done.is in
    (S, rw c.record_length-bytes.ensures at c.if-out-bytes.false)

pub returns-in-Refused : goal.returns-in-Refused
unfolding calls.pack
returns-in-Refused c = refused_alike _ _ _ refl c.check.ensures c.in-Refused.is

pub returns-else-out-bytes : goal.returns-else-out-bytes
unfolding answers.reads answers.number_of
returns-else-out-bytes c = let e = c.record_length-bytes.ensures in
    full_list _ _ (record_made _ (checked_sound c.check.ensures c.in-Done.is)) (length_record _ ∙ sym e) c.if-out-bytes.false (rw (← e) at c.pack_into.ensures)
