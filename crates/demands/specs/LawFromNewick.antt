-- Newick to vector: when it refuses, and that it writes an element a label. What is made is a relation: it is total, and one thing. Main definitions:
-- Stray, Double, FirstUnfit, TextRefused.
use Rattle.std.specs.Prelude.{List, ℕ, ◌≤◌, ◌<◌, length}
use Rattle.rules.specs.Tree.{Tree}
use Rattle.rules.specs.Newick.{BreaksAt, labels_of}
use Rattle.rules.specs.Sent.{signs, SentText}
use Rattle.rules.specs.CallFromNewick.{NotLong}
use Rattle.demands.specs.Conditions.{CountWrong, CountRight, NotBelow, UsedBefore, Unfit, label_numbers, label_place}
use Rattle.rules.specs.First.{First}

-- label i of a text is "not below n", n being the number of labels; it is "used before"
abbrev pub Stray : List ℕ → ℕ → Type 0
Stray s i = NotBelow (length (labels_of s)) (label_numbers s) i

abbrev pub Double : List ℕ → ℕ → Type 0
Double s i = UsedBefore (label_numbers s) i

-- it is the first at fault, by either of the two
abbrev pub FirstUnfit : List ℕ → ℕ → Type 0
FirstUnfit s i = First (Unfit (length (labels_of s)) (label_numbers s)) i

-- "2 is now given first for a text above 65,536 bytes (place 65536), then for more than 6,056 bytes that aren't blanks (place 6056)"; "8, 1"; then "9 is
-- now only "not below n"; 13 is "used before"; label by label in text order, 9 before 13 at the same label". 8 is given at BreaksAt's place; "Places of
-- 8, 9 and 13 are in the bytes as sent."
pub data TextRefused (s : List ℕ) : ℕ → ℕ → Type 0 where
  text_2 : 65536 < length s → TextRefused s 2 65536
  text_2_signs : length s ≤ 65536 → 6056 < length (signs s) → TextRefused s 2 6056
  text_8 : {place : ℕ} → NotLong s → BreaksAt SentText s place → TextRefused s 8 place
  text_1 : {t : Tree} → NotLong s → SentText s t → CountWrong (length (labels_of s)) → TextRefused s 1 0
  text_9 : {t : Tree} {i : ℕ} → NotLong s → SentText s t → CountRight (length (labels_of s))
      → FirstUnfit s i → Stray s i → TextRefused s 9 (label_place s i)
  text_13 : {t : Tree} {i : ℕ} → NotLong s → SentText s t → CountRight (length (labels_of s))
      → FirstUnfit s i → (Stray s i → ⊥) → Double s i → TextRefused s 13 (label_place s i)
