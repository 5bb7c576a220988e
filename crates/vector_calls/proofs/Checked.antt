-- What the check of a vector answers, and what a call that begins from a vector may then say.
-- Main results: empty_refused, large_refused, fault_refused, passes; refused_alike, checked_sound.
use mathlib.Core.List.{List}
use mathlib.Core.Option.{none, some}
use mathlib.Core.Path.{◌≡◌, sym, ap, ◌∙◌, subst}
use Prim.Native.Nat.{ℕ, ◌≤◌, ◌<◌}
use lib.ListN.{length}
use Rattle.rules.specs.Answer.{Making, made, refuses, reads}
use Rattle.rules.specs.Promise.{Call, answers, Keeps}
use Rattle.rules.specs.CallCheck.{check, check_call}
use Rattle.rules.specs.declared.Refusal.{Refusal}
use Rattle.rules.specs.declared.Answer.{Answer}
use Rattle.rules.specs.declared.Answer.TheVariants.{Done, Refused}
use Rattle.rules.specs.Guards.{from_vector}
use Rattle.accepting.proofs.Answers.{done_not_refused}
use Rattle.accepting.proofs.Kept.{refused_early}
use Rattle.accepting.specs.FromVector.{Seen, faulty, sound}
use Rattle.accepting.proofs.FromVector.{no_entry, many_entries, above_bound, within_bounds, seen}
use Rattle.rules.specs.Vector.{Vector, fault}

pub empty_refused : (v : List ℕ) → length v ≡ 0 → check v ≡ refuses 1 0
unfolding check
empty_refused v e = no_entry v (made tt) e

pub large_refused : (v : List ℕ) → 1024 < length v → check v ≡ refuses 1 0
unfolding check
large_refused v l = many_entries v (made tt) l

pub fault_refused : (v : List ℕ) (i : ℕ) → 1 ≤ length v → length v ≤ 1024 → fault 0 v ≡ some i → check v ≡ refuses 4 i
unfolding check
fault_refused v i l u f = above_bound v (made tt) i l u f

pub passes : (v : List ℕ) → 1 ≤ length v → length v ≤ 1024 → fault 0 v ≡ none → check v ≡ made tt
unfolding check
passes v l u f = within_bounds v (made tt) l u f

-- A refusal of the check is the refusal of every call that begins from the vector, whatever it would make.
pub refused_alike : {L W : Type 0} (v : List ℕ) (c : Call L W) (m : Making W) {old : L} {r : Answer} {why : Refusal} → c.Makes (from_vector v m)
    → Keeps (check_call v) tt r tt → r ≡ Refused why → Keeps c old (Refused why) old
unfolding check answers reads
refused_alike {L} {W} v c m {old} {r} {why} h K e = go (seen v)
  where
    says : (x : Making (Unit {0})) → check v ≡ x → reads (Refused why) ≡ answers (check_call v) x tt
    says x q = ap reads (sym e) ∙ K.answered ∙ ap (λ (y : Making (Unit {0})). answers (check_call v) y tt) (sym K.made_so ∙ q)

    go : Seen v → Keeps c old (Refused why) old
    go (faulty number place f) = refused_early c (subst c.Makes (f W m) h) (says (refuses number place) (f (Unit {0}) (made tt)))
    go (sound ok f) = absurd (done_not_refused 0 _ _ (sym (says (made tt) (f (Unit {0}) (made tt)))))

-- what a call knows of its vector where the check did not refuse it
pub checked_sound : {v : List ℕ} {r : Answer} {k : ℕ} → Keeps (check_call v) tt r tt → r ≡ Done k → Vector v
unfolding check answers reads
checked_sound {v} {r} {k} K e = go (seen v)
  where
    go : Seen v → Vector v
    go (faulty number place f) =
        absurd
        (done_not_refused k number place
        (ap reads (sym e) ∙ K.answered ∙ ap (λ (y : Making (Unit {0})). answers (check_call v) y tt) (sym K.made_so ∙ f (Unit {0}) (made tt))))
    go (sound ok f) = ok
