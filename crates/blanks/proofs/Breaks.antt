-- Texts as sent: the tree, what begins one, and the place where bytes as sent break, by what is kept of them.
-- Main results: sent_unique, text_signs, plain_sent, sent_begins, kept_text, kept_breaks, sent_decided, plain_exactly, plain_breaks.
use Rattle.std.specs.Prelude.{◌≡◌, Bool, false, ◌⊎◌, ℕ, suc, ◌≤◌, ◌<◌, length, take}
use Rattle.std.proofs.Math.Path.{refl, ap, subst}
use Rattle.std.proofs.Common.{sym, ◌∙◌, inl, inr, arith}
use Rattle.std.proofs.Math.Bool.{true, true≢false}
use mathlib.Core.List.{List, [], ◌∷◌, ◌++◌, append_assoc}
use Rattle.std.proofs.Math.Seq.{take-length}
use Rattle.rules.specs.Newick.{is_digit, Text, text, Begins, BreaksAt, broken, ended}
use Rattle.rules.specs.Sent.{signs, parted, SentText}
use Rattle.rules.specs.Tree.{Tree}
use Rattle.basics.proofs.Bools.{or_no}
use Rattle.grammar.proofs.Complete.{text_unique, decided}
use Rattle.blanks.specs.Marks.{Last, other, digit, gap, at_gap, behind_digit, parted_from, last_of, ends_in_digit}
use Rattle.blanks.proofs.Marks.{signs_append, parted_append, last_digit, digit_at_end}
use Rattle.blanks.specs.Kept.{kept}
use Rattle.blanks.proofs.Kept.{whole_kept, kept_digit}
use Rattle.blanks.specs.Places.{place_of, There, sign, parting, end, PlaceOf}
use Rattle.blanks.proofs.Places.{place_of_lem}
use Rattle.blanks.specs.Plain.{blankless}
use Rattle.blanks.proofs.Plain.{blankless_behind, blankless_signs, text_blankless, clean_unparted, clean_behind}
use Rattle.blanks.specs.Cut.{Going}
use Rattle.blanks.proofs.Cut.{cut_text}

-- a text as sent reads as one tree
pub sent_unique : {s : List ℕ} {t u : Tree} → SentText s t → SentText s u → t ≡ u
sent_unique a b = text_unique a.reads b.reads

-- a text is its own signs, and a text as sent
pub text_signs : {s : List ℕ} {t : Tree} → Text s t → signs s ≡ s
text_signs {s} {t} h = blankless_signs s (text_blankless h)

-- what some text as sent begins with: no label is parted, and some text begins with the signs
module _ (s : List ℕ) (w : parted s ≡ false) where
  -- bytes without blanks behind s
  sent_behind : (r : List ℕ) (t : Tree) → blankless r ≡ true → parted_from (last_of other s) r ≡ false → Text (signs s ++ r) t → SentText (s ++ r) t
  unfolding parted_from
  sent_behind r t b q h = record {
    reads = subst (λ (x : List ℕ). Text x t) (sym (signs_append s r ∙ ap (λ (x : List ℕ). signs s ++ x) (blankless_signs r b))) h;
    whole = parted_append other s r ∙ rw (w, q);
  }

  -- behind a sign, or blanks that follow no digit
  no_gap_begins : (r : List ℕ) (t : Tree) → Text (signs s ++ r) t → at_gap (last_of other s) ≡ false → Begins SentText s
  unfolding Begins
  no_gap_begins r t h g =
      let clean : blankless r ≡ true = blankless_behind (signs s) r (text_blankless h) in
      (r, t, sent_behind r t clean (clean_unparted (last_of other s) r clean g) h)

  -- behind blanks behind a digit, the label ends
  gap_begins : (r : List ℕ) (t : Tree) → Text (signs s ++ r) t → last_of other s ≡ gap → Begins SentText s
  unfolding Begins behind_digit
  gap_begins r t h e = found (digit_at_end (signs s) (sym (last_digit other s) ∙ rw e))
    where
      cut : (q : List ℕ) (c : ℕ) → signs s ≡ q ++ (c ∷ []) → Going Text q c → (rest : List ℕ) × (t : Tree) × SentText (s ++ rest) t
      cut q c split (r', t', n, m) =
          let m' : Text (signs s ++ r') t' = subst (λ (x : List ℕ). Text x t') (sym (ap (λ (x : List ℕ). x ++ r') split ∙ append_assoc q (c ∷ []) r')) m in
          let b : blankless r' ≡ true = blankless_behind (signs s) r' (text_blankless m') in
          (r', t', sent_behind r' t' b (subst (λ (x : Last). parted_from x r' ≡ false) (sym e) (clean_behind r' b n)) m')

      found : (q : List ℕ) × (c : ℕ) × (signs s ≡ q ++ (c ∷ [])) × (is_digit c ≡ true) → (rest : List ℕ) × (t : Tree) × SentText (s ++ rest) t
      found (q, c, split, i) = cut q c split (cut_text h q c r i (ap (λ (x : List ℕ). x ++ r) split ∙ append_assoc q (c ∷ []) r))

  pub sent_begins : Begins Text (signs s) → Begins SentText s
  unfolding Begins at_gap
  sent_begins (r, t, h) = go (last_of other s) refl
    where
      go : (l : Last) → last_of other s ≡ l → (rest : List ℕ) × (t : Tree) × SentText (s ++ rest) t
      go other e = no_gap_begins r t h (rw e)
      go digit e = no_gap_begins r t h (rw e)
      go gap e = gap_begins r t h e

pub begins_signs : (s : List ℕ) → Begins SentText s → Begins Text (signs s)
unfolding Begins
begins_signs s (r, t, h) = (signs r, t, subst (λ (x : List ℕ). Text x t) (signs_append s r) h.reads)

pub begins_whole : (s : List ℕ) → Begins SentText s → parted s ≡ false
unfolding Begins parted_from
begins_whole s (r, t, h) = (or_no (parted s) (parted_from (last_of other s) r) (sym (parted_append other s r) ∙ h.whole)).0

at_end : (b : Bool) (s : List ℕ) → ends_in_digit b (s ++ (59 ∷ [])) ≡ false
unfolding ends_in_digit is_digit
at_end b [] = refl
at_end b (c ∷ s) = at_end (is_digit c) s

text_end : {s : List ℕ} {t : Tree} → Text s t → ends_in_digit false s ≡ false
text_end (text {s = s} n) = at_end false s

-- what is kept of bytes is a text: then all was kept, since a text does not end in a digit
pub kept_text : (s : List ℕ) (t : Tree) → Text (kept s) t → SentText s t
unfolding kept parted_from behind_digit
kept_text s t h = go (parted s) refl
  where
    go : (b : Bool) → parted s ≡ b → SentText s t
    go true e = absurd (true≢false (sym (kept_digit other s e) ∙ text_end h))
    go false e = record { reads = subst (λ (x : List ℕ). Text x t) (whole_kept other s e) h; whole = e }

-- what is kept breaks the grammar: then the bytes do, at the place of that sign
module _ (s : List ℕ) where
  abbrev K : List ℕ
  K = kept s

  before_place : (k p : ℕ) → PlaceOf other s k p → Begins Text (take k K) → Begins SentText (take p s)
  unfolding kept parted_from
  before_place k p P b = sent_begins (take p s) P.whole (subst (Begins Text) (sym P.before) b)

  parting_breaks : (p : ℕ) → p < length s → parted_from other (take (suc p) s) ≡ true → Begins SentText (take p s) → BreaksAt SentText s p
  unfolding parted_from
  parting_breaks p l e b = broken l b (λ w. true≢false (sym e ∙ begins_whole (take (suc p) s) w))

  at_place : (k p : ℕ) → PlaceOf other s k p → BreaksAt Text K k → BreaksAt SentText s p
  unfolding kept parted_from
  at_place k p P (broken l b fails) = go P.there
    where
      go : There other s k p → BreaksAt SentText s p
      go (sign h below e) = broken h (before_place k p P b) (λ w. fails (subst (Begins Text) e (begins_signs (take (suc p) s) w)))
      go (parting h all e) = absurd (omega arith)
      go (end h all e) = absurd (omega arith)
  at_place k p P (ended b fails) = go P.there
    where
      whole : Begins SentText (take p s)
      whole = before_place (length K) p P (subst (Begins Text) (sym (take-length K)) b)

      go : There other s (length K) p → BreaksAt SentText s p
      go (sign h below e) = absurd (omega arith)
      go (parting h all e) = parting_breaks p h e whole
      go (end h all e) =
          subst (BreaksAt SentText s) (sym h)
          (ended (subst (Begins SentText) (ap (λ (j : ℕ). take j s) h ∙ take-length s) whole)
          (λ t T. fails t (subst (λ (x : List ℕ). Text x t) (sym (whole_kept other s e)) T.reads)))

  pub breaks_within : {k : ℕ} → BreaksAt Text K k → k ≤ length K
  breaks_within (broken l b fails) = omega arith
  breaks_within (ended b fails) = omega arith

  pub kept_breaks : (k : ℕ) → BreaksAt Text K k → BreaksAt SentText s (place_of s k)
  unfolding kept
  kept_breaks k b = at_place k (place_of s k) (place_of_lem other s k (breaks_within b)) b

-- bytes are a text as sent, or break
pub sent_decided : (s : List ℕ) → ((t : Tree) × SentText s t) ⊎ ((k : ℕ) × BreaksAt SentText s k)
sent_decided s = go (decided (kept s))
  where
    go : ((t : Tree) × Text (kept s) t) ⊎ ((k : ℕ) × BreaksAt Text (kept s) k) → ((t : Tree) × SentText s t) ⊎ ((k : ℕ) × BreaksAt SentText s k)
    go (inl (t, h)) = inl (t, kept_text s t h)
    go (inr (k, h)) = inr (place_of s k, kept_breaks s k h)
