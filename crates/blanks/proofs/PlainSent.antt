-- A text without blanks is a text as sent, and breaks where it did.
-- Main results: plain_sent, plain_exactly, plain_breaks.
use Rattle.std.specs.Prelude.{◌≡◌, ◌⊎◌, ◌↔◌, ℕ, ◌≤◌, length}
use Rattle.std.proofs.Math.Path.{refl, ap, subst}
use Rattle.std.proofs.Common.{sym, inl, inr}
use mathlib.Core.List.{List}
use Rattle.rules.specs.Newick.{Text, BreaksAt}
use Rattle.rules.specs.Sent.{signs, SentText}
use Rattle.rules.specs.Tree.{Tree}
use Rattle.grammar.proofs.Complete.{decided}
use Rattle.grammar.proofs.Unique.{text_no_break, breaks_unique}
use Rattle.blanks.specs.Marks.{other, at_gap, parted_from}
use Rattle.blanks.specs.Kept.{kept}
use Rattle.blanks.proofs.Plain.{text_blankless, clean_unparted, plain_kept, plain_place}
use Rattle.blanks.proofs.Breaks.{text_signs, breaks_within, kept_breaks}

pub plain_sent : {s : List ℕ} {t : Tree} → Text s t → SentText s t
unfolding at_gap parted_from
plain_sent {s} {t} h =
    record { reads = subst (λ (x : List ℕ). Text x t) (sym (text_signs h)) h; whole = clean_unparted other s (text_blankless h) refl }

-- Bytes without blanks are a text as sent exactly when they are a text, and break exactly where they break the grammar: for them nothing is new.
module _ (s : List ℕ) (plain : signs s ≡ s) where
  pub plain_exactly : (t : Tree) → SentText s t ↔ Text s t
  plain_exactly t = (λ T. subst (λ (x : List ℕ). Text x t) plain T.reads, plain_sent)

  breaks_plain : (k : ℕ) → BreaksAt Text s k → BreaksAt SentText s k
  breaks_plain k b =
      let all : kept s ≡ s = plain_kept s (ap length plain) in
      let b' : BreaksAt Text (kept s) k = subst (λ (x : List ℕ). BreaksAt Text x k) (sym all) b in
      subst (BreaksAt SentText s) (plain_place s k (ap length plain) (subst (λ (x : List ℕ). k ≤ length x) all (breaks_within s b'))) (kept_breaks s k b')

  pub plain_breaks : (k : ℕ) → BreaksAt SentText s k ↔ BreaksAt Text s k
  plain_breaks k = (λ b. go b (decided s), breaks_plain k)
    where
      go : BreaksAt SentText s k → ((t : Tree) × Text s t) ⊎ ((j : ℕ) × BreaksAt Text s j) → BreaksAt Text s k
      go b (inl (t, T)) = absurd (text_no_break SentText (plain_sent T) b)
      go b (inr (j, c)) = subst (BreaksAt Text s) (breaks_unique SentText (breaks_plain j c) b) c
