-- Bytes without blanks: they are their own signs, all of them are kept, each in its place. A text by the grammar has none. Main results:
-- blankless_signs, text_blankless, clean_unparted, clean_behind, plain_kept, plain_place.
use Rattle.std.specs.Prelude.{◌≡◌, refl, Bool, true, false, ◌&&◌, ◌||◌, not, cond, List, [], ◌∷◌, ◌++◌, ℕ, zero, suc, ◌≤◌, length}
use Rattle.std.proofs.Common.{ap, sym, ◌∙◌, true≢false, arith}
use Rattle.rules.specs.Newick.{is_digit, all_digits, Label, nought, number, Node, label, pair, pair_text, Text, text}
use Rattle.rules.specs.Sent.{blank, signs}
use Rattle.rules.specs.Tree.{Tree}
use Rattle.basics.proofs.Bools.{and_both}
use Rattle.grammar.specs.Complete.{NoDigit}
use Rattle.blanks.specs.Marks.{Last, other, digit, gap, next, parts, at_gap, parted_from}
use Rattle.blanks.proofs.Marks.{parted_nil, parted_next, digit_no_blank, signs_fewer}
use Rattle.blanks.specs.Kept.{kept}
use Rattle.blanks.proofs.Kept.{whole_kept}
use Rattle.blanks.specs.Places.{place_of}
use Rattle.blanks.proofs.Places.{place_nil, place_first, place_later}
use Rattle.blanks.specs.Plain.{blankless}

and_assoc : (x y z : Bool) → x && (y && z) ≡ (x && y) && z
and_assoc true y z = refl
and_assoc false y z = refl

blankless_append : (a b : List ℕ) → blankless (a ++ b) ≡ blankless a && blankless b
unfolding blankless
blankless_append [] b = refl
blankless_append (c ∷ a) b = ap (λ (z : Bool). not (blank c) && z) (blankless_append a b) ∙ and_assoc (not (blank c)) (blankless a) (blankless b)

pub blankless_behind : (a b : List ℕ) → blankless (a ++ b) ≡ true → blankless b ≡ true
blankless_behind a b h = (and_both (blankless a) (blankless b) (sym (blankless_append a b) ∙ h)).1

pub blankless_first : (c : ℕ) (s : List ℕ) → blankless (c ∷ s) ≡ true → (blank c ≡ false) × (blankless s ≡ true)
unfolding blankless
blankless_first c s h = go (blank c) h
  where
    go : (b : Bool) → not b && blankless s ≡ true → (b ≡ false) × (blankless s ≡ true)
    go true q = absurd (true≢false (sym q))
    go false q = (refl, q)

pub blankless_signs : (s : List ℕ) → blankless s ≡ true → signs s ≡ s
unfolding signs
blankless_signs [] h = refl
blankless_signs (c ∷ s) h =
    let d : (blank c ≡ false) × (blankless s ≡ true) = blankless_first c s h in
    rw d.0 (ap (λ (l : List ℕ). c ∷ l) (blankless_signs s d.1))

digits_blankless : (s : List ℕ) → all_digits s ≡ true → blankless s ≡ true
unfolding all_digits blankless
digits_blankless [] h = refl
digits_blankless (c ∷ s) h =
    let d : (is_digit c ≡ true) × (all_digits s ≡ true) = and_both (is_digit c) (all_digits s) h in
    rw (digit_no_blank c d.0) (digits_blankless s d.1)

label_blankless : {s : List ℕ} {x : ℕ} → Label s x → blankless s ≡ true
unfolding blankless blank
label_blankless nought = refl
label_blankless (number c s h z l) = digits_blankless (c ∷ s) h

pair_blankless : (a b : List ℕ) → blankless a ≡ true → blankless b ≡ true → blankless (pair_text a b) ≡ true
unfolding pair_text blankless blank
pair_blankless a b h k =
    blankless_append a (44 ∷ b ++ (41 ∷ [])) ∙ rw (h, blankless_append b (41 ∷ []), k)

node_blankless : {d : ℕ} {s : List ℕ} {t : Tree} → Node d s t → blankless s ≡ true
node_blankless (label l) = label_blankless l
node_blankless (pair m n) = pair_blankless _ _ (node_blankless m) (node_blankless n)

end_blankless : (s : List ℕ) → blankless s ≡ true → blankless (s ++ (59 ∷ [])) ≡ true
unfolding blankless blank
end_blankless s h = blankless_append s (59 ∷ []) ∙ rw h

-- 01's grammar has no blank
pub text_blankless : {s : List ℕ} {t : Tree} → Text s t → blankless s ≡ true
text_blankless (text n) = end_blankless _ (node_blankless n)

-- bytes without blanks part no label, behind no blank
pub clean_unparted : (l : Last) (s : List ℕ) → blankless s ≡ true → at_gap l ≡ false → parted_from l s ≡ false
unfolding parts next at_gap
clean_unparted l [] h g = parted_nil l
clean_unparted l (c ∷ s) h g =
    let d : (blank c ≡ false) × (blankless s ≡ true) = blankless_first c s h in
    parted_next l c s ∙ go (is_digit c) refl d.0 (λ l' g'. clean_unparted l' s d.1 g')
  where
    go : (b : Bool) → is_digit c ≡ b → blank c ≡ false → ((l' : Last) → at_gap l' ≡ false → parted_from l' s ≡ false) → parts l c || parted_from (next l c) s ≡ false
    go true e n f = rw (e, n, g) (f digit refl)
    go false e n f = rw (e, n) (f other refl)

-- nor behind blanks, where they do not begin with a digit
pub clean_behind : (s : List ℕ) → blankless s ≡ true → NoDigit s → parted_from gap s ≡ false
unfolding parts next at_gap
clean_behind [] h n = parted_nil gap
clean_behind (c ∷ s) h n =
    let d : (blank c ≡ false) × (blankless s ≡ true) = blankless_first c s h in
    parted_next gap c s ∙ rw (n, d.0) (clean_unparted other s d.1 refl)

-- bytes that are all signs have no blank
all_signs : (s : List ℕ) → length (signs s) ≡ length s → blankless s ≡ true
unfolding signs blankless
all_signs [] h = refl
all_signs (c ∷ s) h = go (blank c) h (λ e. all_signs s e)
  where
    go : (b : Bool) → length (cond b (signs s) (c ∷ signs s)) ≡ suc (length s) → (length (signs s) ≡ length s → blankless s ≡ true) → not b && blankless s ≡ true
    go true e f = absurd (omega (arith, signs_fewer s))
    go false e f = f (omega arith)

-- they are kept as they are
pub plain_kept : (s : List ℕ) → length (signs s) ≡ length s → kept s ≡ s
unfolding kept at_gap
plain_kept s h =
    let b = all_signs s h in
    whole_kept other s (clean_unparted other s b refl) ∙ blankless_signs s b

place_clean : (s : List ℕ) (k : ℕ) → blankless s ≡ true → k ≤ length s → place_of s k ≡ k
place_clean [] k h l = let z : 0 ≡ k = omega arith in place_nil k ∙ z
place_clean (c ∷ s) zero h l = place_first c s (blankless_first c s h).0
place_clean (c ∷ s) (suc k) h l =
    let d : (blank c ≡ false) × (blankless s ≡ true) = blankless_first c s h in
    place_later c s k d.0 ∙ ap suc (place_clean s k d.1 (omega arith))

-- and the place of a sign is its number
pub plain_place : (s : List ℕ) (k : ℕ) → length (signs s) ≡ length s → k ≤ length s → place_of s k ≡ k
plain_place s k h l = place_clean s k (all_signs s h) l
