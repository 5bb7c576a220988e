-- Texts that differ in blanks only: "Demand 3 reads such a text as its signs without blanks."
-- Main results: blanks_anywhere.
use Rattle.std.specs.Prelude.{false, List, ◌≡◌, refl, ℕ, ◌≤◌, length}
use Rattle.std.proofs.Common.{subst}
use Rattle.rules.specs.Newick.{Text}
use Rattle.rules.specs.Sent.{signs, parted, SentText}
use Rattle.rules.specs.Answer.{made}
use Rattle.demands.specs.Leads.{text, Leads}
use Rattle.demands.proofs.DemandTwo.{leaves_accepted}
use Rattle.demands.proofs.DemandThree.{text_leads}

-- blanks stand "anywhere except inside a label": bytes that have the signs of an accepted text lead to its vector
pub blanks_anywhere : (s s' w : List ℕ) → signs s ≡ signs s' → parted s' ≡ false → length s' ≤ 65536 → Leads (text s) w → Leads (text s') w
blanks_anywhere s s' w e whole few h =
    let g = text_leads s w (made w) h refl in
    let short : length (signs s') ≤ 6056 = subst (λ (x : List ℕ). length x ≤ 6056) e g.short.1 in
    let reads : SentText s' g.tree = record { reads = subst (λ (x : List ℕ). Text x g.tree) e g.reads_as_it.reads; whole = whole } in
    rw g.vector_is (leaves_accepted g.leaf_count_lem (few, short) reads g.leaves g.few)
