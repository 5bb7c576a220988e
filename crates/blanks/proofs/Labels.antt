-- The labels of bytes as sent are those of their signs, where no label is parted: so a text as sent is labelled as its tree. Main results:
-- numbers_sent, sent_labels.
use Rattle.std.specs.Prelude.{◌≡◌, refl, Bool, true, false, cond, List, [], ◌∷◌, map, ℕ, ◌+◌, ◌-◌, ◌*◌}
use Rattle.std.proofs.Common.{ap, ap₂, sym, subst, ◌∙◌, true≢false}
use Rattle.std.proofs.Math.Option.{Option, none, some}
use Rattle.rules.specs.Names.{Placed}
use Rattle.rules.specs.Newick.{is_digit, with_digit, ending, labels_from, labels_of}
use Rattle.rules.specs.Sent.{blank, signs, parted, SentText}
use Rattle.rules.specs.Tree.{Tree}
use Rattle.basics.proofs.Bools.{or_no}
use Rattle.grammar.specs.Labels.{value, LabelledAs}
use Rattle.grammar.proofs.Labels.{text_labels}
use Rattle.blanks.specs.Marks.{Last, other, digit, gap, past, at_gap, next, parts, parted_from}
use Rattle.blanks.proofs.Marks.{parted_next, blank_no_digit, signs_blank, signs_sign}
use Rattle.blanks.specs.Labels.{held, sent_from}

at_blank : (l : Last) (a : ℕ) (z : Placed) (c : ℕ) (s : List ℕ) → is_digit c ≡ false → sent_from l a z (c ∷ s) ≡ sent_from (past l) (a + 1) z s
unfolding labels_from ending past
at_blank other a z c s h = rw h
at_blank digit a z c s h = rw h
at_blank gap a z c s h = rw h

at_end : (l : Last) (a b : ℕ) (y z : Placed) → value z ≡ value y → map value (sent_from l a z []) ≡ map value (labels_from b (held l y) (signs []))
unfolding labels_from ending signs
at_end other a b y z e = refl
at_end digit a b y z e = ap (λ (x : ℕ). x ∷ []) e
at_end gap a b y z e = ap (λ (x : ℕ). x ∷ []) e

-- a sign that is no digit ends the label
at_other : (l : Last) (a b : ℕ) (y z : Placed) (c : ℕ) (s r : List ℕ) → is_digit c ≡ false → value z ≡ value y
    → map value (labels_from (a + 1) none s) ≡ map value (labels_from (b + 1) none r)
    → map value (sent_from l a z (c ∷ s)) ≡ map value (labels_from b (held l y) (c ∷ r))
unfolding labels_from ending
at_other other a b y z c s r h e k = rw h k
at_other digit a b y z c s r h e k = rw h (ap₂ (λ (x : ℕ) (xs : List ℕ). x ∷ xs) e k)
at_other gap a b y z c s r h e k = rw h (ap₂ (λ (x : ℕ) (xs : List ℕ). x ∷ xs) e k)

-- a digit that parts no label begins one or goes on with one
at_digit : (l : Last) (a b : ℕ) (y z : Placed) (c : ℕ) (s r : List ℕ) → is_digit c ≡ true → at_gap l ≡ false → value z ≡ value y
    → ((y' z' : Placed) → value z' ≡ value y' → map value (labels_from (a + 1) (some z') s) ≡ map value (labels_from (b + 1) (some y') r))
    → map value (sent_from l a z (c ∷ s)) ≡ map value (labels_from b (held l y) (c ∷ r))
unfolding labels_from ending with_digit at_gap
at_digit other a b y z c s r h g e k = rw h (k (b, c - 48) (a, c - 48) refl)
at_digit digit a b y z c s r h g e k = rw h (k (y.0, 10 * y.1 + (c - 48)) (z.0, 10 * z.1 + (c - 48)) (ap (λ (x : ℕ). 10 * x + (c - 48)) e))
at_digit gap a b y z c s r h g e k = absurd (true≢false g)

held_past : (l : Last) (y : Placed) → held (past l) y ≡ held l y
unfolding past
held_past other y = refl
held_past digit y = refl
held_past gap y = refl

unparted_first : (l : Last) (c : ℕ) (s : List ℕ) → parted_from l (c ∷ s) ≡ false → (parts l c ≡ false) × (parted_from (next l c) s ≡ false)
unparted_first l c s h = or_no (parts l c) (parted_from (next l c) s) (sym (parted_next l c s) ∙ h)

next_blank : (l : Last) (c : ℕ) → blank c ≡ true → next l c ≡ past l
unfolding next
next_blank l c e = rw e

next_sign : (l m : Last) (c : ℕ) (d : Bool) → blank c ≡ false → is_digit c ≡ d → cond d digit other ≡ m → next l c ≡ m
unfolding next
next_sign l m c d e i q = rw (e, i) q

no_gap : (l : Last) (c : ℕ) → is_digit c ≡ true → parts l c ≡ false → at_gap l ≡ false
unfolding parts
no_gap l c i q = rw i at q

numbers_from : (l : Last) (a b : ℕ) (y z : Placed) (s : List ℕ) → value z ≡ value y → parted_from l s ≡ false
    → map value (sent_from l a z s) ≡ map value (labels_from b (held l y) (signs s))
numbers_from l a b y z [] e h = at_end l a b y z e
numbers_from l a b y z (c ∷ s) e h =
    let d : (parts l c ≡ false) × (parted_from (next l c) s ≡ false) = unparted_first l c s h in
    go (blank c) refl (is_digit c) refl d.0 (λ l' q a' b' y' z' e'. numbers_from l' a' b' y' z' s e' (subst (λ (x : Last). parted_from x s ≡ false) q d.1))
  where
    go : (x : Bool) → blank c ≡ x → (d : Bool) → is_digit c ≡ d → parts l c ≡ false
        → ((l' : Last) → next l c ≡ l' → (a' b' : ℕ) (y' z' : Placed) → value z' ≡ value y' → map value (sent_from l' a' z' s) ≡ map value (labels_from b' (held l' y') (signs s)))
        → map value (sent_from l a z (c ∷ s)) ≡ map value (labels_from b (held l y) (signs (c ∷ s)))
    go true n d i q k =
        ap (map value) (at_blank l a z c s (blank_no_digit c n)) ∙ k (past l) (next_blank l c n) (a + 1) b y z e
        ∙ ap₂ (λ (o : Option Placed) (r : List ℕ). map value (labels_from b o r)) (held_past l y) (sym (signs_blank c s n))
    go false n true i q k =
        at_digit l a b y z c s (signs s) i (no_gap l c i q) e (λ y' z' e'. k digit (next_sign l digit c true n i refl) (a + 1) (b + 1) y' z' e')
        ∙ ap (λ (r : List ℕ). map value (labels_from b (held l y) r)) (sym (signs_sign c s n))
    go false n false i q k =
        at_other l a b y z c s (signs s) i e (k other (next_sign l other c false n i refl) (a + 1) (b + 1) y z e)
        ∙ ap (λ (r : List ℕ). map value (labels_from b (held l y) r)) (sym (signs_sign c s n))

-- where no label is parted, the labels as sent have the numbers of those of the signs
pub numbers_sent : (s : List ℕ) → parted s ≡ false → map value (labels_of s) ≡ map value (labels_of (signs s))
unfolding labels_of parted_from
numbers_sent s h = numbers_from other 0 0 (0, 0) (0, 0) s refl h

-- the labels of a text as sent are the leaves of its tree from left to right
pub sent_labels : {s : List ℕ} {t : Tree} → SentText s t → LabelledAs s t
sent_labels {s} {t} h = record { leaves = numbers_sent s h.whole ∙ (text_labels h.reads).leaves }
