-- A text with blanks reads as its signs: where it leads, what clades it has.
-- Main results: text_as_signs, same_signs_same_vector.
use Rattle.std.specs.Prelude.{Bool, List, ◌↔◌, ◌≡◌, refl, ℕ}
use Rattle.std.proofs.Common.{sym, subst, arith}
use Rattle.rules.specs.Newick.{Text}
use Rattle.rules.specs.Sent.{signs}
use Rattle.rules.specs.Answer.{made}
use Rattle.rules.specs.CallFromNewick.{FromText}
use Rattle.blanks.proofs.Breaks.{text_signs}
use Rattle.blanks.proofs.PlainSent.{plain_sent}
use Rattle.blanks.proofs.FromText.{from_text_unique}
use Rattle.demands.specs.Leads.{text, Leads}
use Rattle.demands.specs.DemandThree.{CladeOf}
use Rattle.demands.proofs.DemandThree.{text_leads, demand_three}
use Rattle.demands.proofs.Blanks.{blanks_anywhere}

-- an accepted text leads where its signs without blanks lead, and has their clades
pub text_as_signs : (s w : List ℕ) → Leads (text s) w → Leads (text (signs s)) w × ((c : ℕ → Bool) → CladeOf (text s) c ↔ CladeOf (text (signs s)) c)
text_as_signs s w h =
    let g = text_leads s w (made w) h refl in
    let T : Text (signs s) g.tree = g.reads_as_it.reads in
    let p = blanks_anywhere s (signs s) w (sym (text_signs T)) (plain_sent T).whole (omega (arith, g.short.1)) h in
    (p, (demand_three (text s) (text (signs s)) w w h p).0 refl)

-- two accepted texts that differ in blanks only lead to the same vector
pub same_signs_same_vector : (s s' v w : List ℕ) → signs s ≡ signs s' → Leads (text s) v → Leads (text s') w → v ≡ w
same_signs_same_vector s s' v w e h k =
    let p : FromText (signs s) (made v) = (text_as_signs s v h).0 in
    let q : FromText (signs s) (made w) = subst (λ (x : List ℕ). FromText x (made w)) (sym e) (text_as_signs s' w k).0 in
    let z : made v ≡ made w = from_text_unique p q in
    cc
