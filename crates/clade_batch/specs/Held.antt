-- A batch of clades as words: leaf set and count in turn, in the last word how many.
-- Main definitions: most, entry_at, held_in, IsBatch. Main results: held_length, held_at, held_is, count_fits.
use Rattle.std.specs.Prelude.{◌≡◌, refl, List, [], ◌∷◌, ℕ, zero, suc, ◌+◌, ◌*◌, ◌≤◌, ◌<◌, length, get_or, set}
use Rattle.std.proofs.Common.{ap, ◌∙◌, subst, arith, length-set, ext_get_or, get_or-set_same, get_or-set_other}
use Rattle.std.specs.Int.Count.{ones}
use Rattle.rules.specs.declared.Clade.{Clade as Entry}
use Rattle.clade_laws.specs.Rising.{From}
use Rattle.clade_laws.specs.Entries.{Each, leaves_of}

-- as many clades as a batch has
abbrev pub most : ℕ
most = 4096

-- clade i of the words
unfoldable pub entry_at : List ℕ → ℕ → Entry
entry_at words i = record { leaves = get_or words (2 * i) 0; size = ones (get_or words (2 * i) 0); count = get_or words (2 * i + 1) 0 }

-- k clades from clade i on
unfoldable entries_from : ℕ → ℕ → List ℕ → List Entry
unfolding entry_at
entries_from zero i words = []
entries_from (suc k) i words = entry_at words i ∷ entries_from k (i + 1) words

-- the clades of the words; the last word says how many
unfoldable pub held_in : List ℕ → List Entry
unfolding entries_from
held_in words = entries_from (get_or words 8192 0) 0 words

-- the clade of a leaf set, with its count
abbrev pub held_one : ℕ → ℕ → Entry
held_one leaves count = record { leaves = leaves; size = ones leaves; count = count }

-- what is read where there is no clade
abbrev pub none : Entry
none = record { leaves = 0; size = 0; count = 0 }

from_length : (k i : ℕ) (words : List ℕ) → length (entries_from k i words) ≡ k
unfolding entries_from
from_length zero i words = refl
from_length (suc k) i words = ap suc (from_length k (i + 1) words)

from_at : (k i : ℕ) (words : List ℕ) (j : ℕ) → j < k → get_or (entries_from k i words) j none ≡ entry_at words (i + j)
unfolding entries_from
from_at zero i words j h = absurd (omega arith)
from_at (suc k) i words zero h = let z : i + 0 ≡ i = omega arith in rw z
from_at (suc k) i words (suc j) h = from_at k (i + 1) words j (omega arith) ∙ ap (entry_at words) (turn j)
  where
    turn : (j : ℕ) → i + 1 + j ≡ i + suc j
    turn j = omega arith

pub held_length : (words : List ℕ) → length (held_in words) ≡ get_or words 8192 0
unfolding held_in
held_length words = from_length (get_or words 8192 0) 0 words

pub held_at : (words : List ℕ) (i : ℕ) → i < get_or words 8192 0 → get_or (held_in words) i none ≡ entry_at words i
unfolding held_in
held_at words i h = let z : 0 + i ≡ i = omega arith in from_at (get_or words 8192 0) 0 words i h ∙ ap (entry_at words) z

-- the clades of the words are these, if they are so many, one by one
pub held_is : (words : List ℕ) (es : List Entry) → get_or words 8192 0 ≡ length es → ((i : ℕ) → i < length es → entry_at words i ≡ get_or es i none) → held_in words ≡ es
held_is words es k h =
    ext_get_or none (held_in words) es (held_length words ∙ k) (λ i l. let g : i < get_or words 8192 0 = omega (arith, l, k, held_length words) in held_at words i g ∙ h i (omega (arith, g, k)))

-- the words are those of a batch: its leaf sets rise, and each count has room for one more
pub record IsBatch (words : List ℕ) : Type 0 where
  pub few : get_or words 8192 0 ≤ most
  pub rises : From 0 (leaves_of (held_in words))
  pub counts : Each (λ e. e.count ≤ 18446744073709551614) (held_in words)

most_at : (c : ℕ) (es : List Entry) → Each (λ e. e.count ≤ c) es → (i : ℕ) → i < length es → (get_or es i none).count ≤ c
unfolding Each
most_at c [] M i h = absurd (omega arith)
most_at c (e ∷ es) M zero h = M.0
most_at c (e ∷ es) M (suc i) h = most_at c es M.1 i (omega arith)

-- so it is of each clade's word
pub count_fits : {words : List ℕ} → IsBatch words → (i : ℕ) → i < get_or words 8192 0 → get_or words (2 * i + 1) 0 ≤ 18446744073709551614
unfolding entry_at
count_fits {words} B i h =
    subst (λ (e : Entry). e.count ≤ 18446744073709551614) (held_at words i h) (most_at 18446744073709551614 (held_in words) B.counts i (omega (arith, held_length words)))

pub held_none : (words : List ℕ) → 8192 < length words → held_in (set words 8192 0) ≡ []
unfolding held_in entries_from
held_none words h = ap (λ (k : ℕ). entries_from k 0 (set words 8192 0)) (get_or-set_same words 8192 0 0 h)

pub held_one_lem : (words : List ℕ) (m c : ℕ) → length words ≡ 8193 → held_in (set (set (set words 0 m) 1 c) 8192 1) ≡ held_one m c ∷ []
unfolding entry_at
held_one_lem words m c h =
    let w = set (set words 0 m) 1 c in
    let lw : length w ≡ 8193 = length-set (set words 0 m) 1 c ∙ length-set words 0 m ∙ h in
    let a : get_or (set w 8192 1) 0 0 ≡ m = get_or-set_other w 8192 0 1 0 (λ e. omega (arith, e)) ∙ get_or-set_other (set words 0 m) 1 0 c 0 (λ e. omega (arith, e)) ∙ get_or-set_same words 0 m 0 (omega arith) in
    let b : get_or (set w 8192 1) 1 0 ≡ c = get_or-set_other w 8192 1 1 0 (λ e. omega (arith, e)) ∙ get_or-set_same (set words 0 m) 1 c 0 (omega (arith, length-set words 0 m)) in
    held_is (set w 8192 1) (held_one m c ∷ []) (get_or-set_same w 8192 1 0 (omega (arith, lw)))
    (λ i l. let z : i ≡ 0 = omega (arith, l) in rw (z, a, b) refl)
