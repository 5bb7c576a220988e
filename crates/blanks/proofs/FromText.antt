-- What bytes as sent make is one thing; and texts that differ in blanks only make the same vector.
-- Main results: from_text_total, from_text_unique, same-signs.
use Rattle.std.specs.Prelude.{◌≡◌, refl, ◌⊎◌, List, ℕ, length}
use Rattle.std.proofs.Common.{ap, inl, inr, arith}
use Rattle.rules.specs.Newick.{BreaksAt}
use Rattle.rules.specs.Sent.{signs, SentText}
use Rattle.rules.specs.Tree.{Tree}
use Rattle.rules.specs.Answer.{Made, refuses}
use Rattle.rules.specs.CallFromNewick.{NotLong, FromText, too_long, too_many_signs, breaks, reads_as, from_labels}
use Rattle.basics.proofs.Cases.{by_lt}
use Rattle.grammar.proofs.Unique.{text_no_break, breaks_unique}
use Rattle.blanks.proofs.Breaks.{sent_unique, sent_decided}

-- every list of bytes makes something
pub from_text_total : (s : List ℕ) → (m : Made) × FromText s m
from_text_total s =
    by_lt 65536 (length s) (λ h. (refuses 2 65536, too_long h))
    (λ l. by_lt 6056 (length (signs s)) (λ h. (refuses 2 6056, too_many_signs l h)) (λ k. go (l, k) (sent_decided s)))
  where
    go : NotLong s → ((t : Tree) × SentText s t) ⊎ ((k : ℕ) × BreaksAt SentText s k) → (m : Made) × FromText s m
    go l (inl (t, h)) = (from_labels s t, reads_as t l h)
    go l (inr (k, h)) = (refuses 8 k, breaks l h)

-- and one thing only
pub from_text_unique : {s : List ℕ} {m m' : Made} → FromText s m → FromText s m' → m ≡ m'
from_text_unique (too_long h) (too_long h') = refl
from_text_unique (too_long h) (too_many_signs l h') = absurd (omega arith)
from_text_unique (too_long h) (breaks l b) = absurd (omega (arith, l.0))
from_text_unique (too_long h) (reads_as t l x) = absurd (omega (arith, l.0))
from_text_unique (too_many_signs l h) (too_long h') = absurd (omega arith)
from_text_unique (too_many_signs l h) (too_many_signs l' h') = refl
from_text_unique (too_many_signs l h) (breaks l' b) = absurd (omega (arith, l'.1))
from_text_unique (too_many_signs l h) (reads_as t l' x) = absurd (omega (arith, l'.1))
from_text_unique (breaks l b) (too_long h') = absurd (omega (arith, l.0))
from_text_unique (breaks l b) (too_many_signs l' h') = absurd (omega (arith, l.1))
from_text_unique (breaks l b) (breaks l' b') = ap (refuses 8) (breaks_unique SentText b b')
from_text_unique (breaks l b) (reads_as t l' x) = absurd (text_no_break SentText x b)
from_text_unique (reads_as t l x) (too_long h') = absurd (omega (arith, l.0))
from_text_unique (reads_as t l x) (too_many_signs l' h') = absurd (omega (arith, l.1))
from_text_unique (reads_as t l x) (breaks l' b) = absurd (text_no_break SentText x b)
from_text_unique {s} (reads_as t l x) (reads_as u l' y) = ap (from_labels s) (sent_unique x y)
