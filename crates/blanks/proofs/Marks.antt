-- The labels that blanks part, found byte by byte by what stands before each. Main results: blank_no_digit, signs_blank, signs_sign, signs_append,
-- parted_next, parted_append, last_digit, digit_at_end.
use Rattle.std.specs.Prelude.{◌≡◌, refl, Bool, true, false, ◌||◌, cond, List, [], ◌∷◌, ◌++◌, ℕ, suc, ◌≤◌, eqb, leb, length}
use Rattle.std.proofs.Common.{ap, sym, ◌∙◌, true≢false, arith, eqb-true, leb-true}
use Rattle.rules.specs.Newick.{is_digit}
use Rattle.rules.specs.Sent.{blank, signs}
use Rattle.basics.proofs.Bools.{and_both}
use Rattle.blanks.specs.Marks.{Last, other, digit, gap, past, at_gap, behind_digit, next, parts, parted_from, last_of, ends_in_digit}

pub digit_no_blank : (c : ℕ) → is_digit c ≡ true → blank c ≡ false
unfolding blank is_digit
digit_no_blank c h = let least : 48 ≤ c = leb-true 48 c (and_both (leb 48 c) (leb c 57) h).0 in go (eqb c 32) refl (eqb c 9) refl (eqb c 13) refl (eqb c 10) refl least
  where
    go : (a : Bool) → eqb c 32 ≡ a → (b : Bool) → eqb c 9 ≡ b → (d : Bool) → eqb c 13 ≡ d → (e : Bool) → eqb c 10 ≡ e → 48 ≤ c → a || (b || (d || e)) ≡ false
    go true p b q d r e u g = absurd (omega (arith, eqb-true c 32 p))
    go false p true q d r e u g = absurd (omega (arith, eqb-true c 9 q))
    go false p false q true r e u g = absurd (omega (arith, eqb-true c 13 r))
    go false p false q false r true u g = absurd (omega (arith, eqb-true c 10 u))
    go false p false q false r false u g = refl

pub blank_no_digit : (c : ℕ) → blank c ≡ true → is_digit c ≡ false
blank_no_digit c h = go (is_digit c) refl
  where
    go : (b : Bool) → is_digit c ≡ b → is_digit c ≡ false
    go true e = absurd (true≢false (sym h ∙ digit_no_blank c e))
    go false e = e

-- the signs of one byte more in front
pub signs_blank : (c : ℕ) (s : List ℕ) → blank c ≡ true → signs (c ∷ s) ≡ signs s
unfolding signs
signs_blank c s h = rw h

pub signs_sign : (c : ℕ) (s : List ℕ) → blank c ≡ false → signs (c ∷ s) ≡ c ∷ signs s
unfolding signs
signs_sign c s h = rw h

pub signs_append : (a b : List ℕ) → signs (a ++ b) ≡ signs a ++ signs b
unfolding signs
signs_append [] b = refl
signs_append (c ∷ a) b = go (blank c) (signs_append a b)
  where
    go : (z : Bool) → signs (a ++ b) ≡ signs a ++ signs b → cond z (signs (a ++ b)) (c ∷ signs (a ++ b)) ≡ cond z (signs a) (c ∷ signs a) ++ signs b
    go true e = e
    go false e = ap (λ (l : List ℕ). c ∷ l) e

pub signs_fewer : (s : List ℕ) → length (signs s) ≤ length s
unfolding signs
signs_fewer [] = omega arith
signs_fewer (c ∷ s) = go (blank c) (signs_fewer s)
  where
    go : (b : Bool) → length (signs s) ≤ length s → length (cond b (signs s) (c ∷ signs s)) ≤ suc (length s)
    go true h = omega arith
    go false h = omega arith

pub blank_parts : (l : Last) (c : ℕ) → blank c ≡ true → parts l c ≡ false
unfolding parts
blank_parts l c e = rw (blank_no_digit c e)

pub parts_digit : (l : Last) (c : ℕ) → parts l c ≡ true → (is_digit c ≡ true) × (at_gap l ≡ true)
unfolding parts
parts_digit l c e = and_both (is_digit c) (at_gap l) e

pub behind_blank : (l : Last) (c : ℕ) → blank c ≡ true → behind_digit (next l c) ≡ behind_digit l
unfolding next past behind_digit
behind_blank other c e = rw e
behind_blank digit c e = rw e
behind_blank gap c e = rw e

pub behind_sign : (l : Last) (c : ℕ) → blank c ≡ false → behind_digit (next l c) ≡ is_digit c
unfolding next behind_digit
behind_sign l c e = rw e (go (is_digit c))
  where
    go : (b : Bool) → behind_digit (cond b digit other) ≡ b
    go true = refl
    go false = refl

-- behind a sign no digit parts a label; behind a blank one does where the last sign is a digit
pub gap_sign : (l : Last) (c : ℕ) → blank c ≡ false → at_gap (next l c) ≡ false
unfolding next at_gap
gap_sign l c e = rw e (go (is_digit c))
  where
    go : (b : Bool) → at_gap (cond b digit other) ≡ false
    go true = refl
    go false = refl

pub gap_blank : (l : Last) (c : ℕ) → blank c ≡ true → at_gap (next l c) ≡ behind_digit l
unfolding next past at_gap behind_digit
gap_blank other c e = rw e
gap_blank digit c e = rw e
gap_blank gap c e = rw e

pub parted_nil : (l : Last) → parted_from l [] ≡ false
unfolding parted_from
parted_nil other = refl
parted_nil digit = refl
parted_nil gap = refl

-- it is parted at the first byte, or behind it
pub parted_next : (l : Last) (c : ℕ) (s : List ℕ) → parted_from l (c ∷ s) ≡ parts l c || parted_from (next l c) s
unfolding parted_from parts next past at_gap
parted_next l c s = go l (blank c) refl (is_digit c) refl
  where
    go : (l : Last) (b : Bool) → blank c ≡ b → (d : Bool) → is_digit c ≡ d → parted_from l (c ∷ s) ≡ parts l c || parted_from (next l c) s
    go l true e true i = absurd (true≢false (sym i ∙ blank_no_digit c e))
    go other true e false i = rw (e, i)
    go digit true e false i = rw (e, i)
    go gap true e false i = rw (e, i)
    go other false e true i = rw (e, i)
    go digit false e true i = rw (e, i)
    go gap false e true i = rw (e, i)
    go other false e false i = rw (e, i)
    go digit false e false i = rw (e, i)
    go gap false e false i = rw (e, i)

pub parted_append : (l : Last) (a b : List ℕ) → parted_from l (a ++ b) ≡ parted_from l a || parted_from (last_of l a) b
unfolding last_of
parted_append l [] b = rw (parted_nil l)
parted_append l (c ∷ a) b =
    parted_next l c (a ++ b) ∙ ap (λ (z : Bool). parts l c || z) (parted_append (next l c) a b)
    ∙ or_assoc (parts l c) (parted_from (next l c) a) (parted_from (last_of (next l c) a) b)
    ∙ ap (λ (z : Bool). z || parted_from (last_of (next l c) a) b) (sym (parted_next l c a))
  where
    or_assoc : (x y z : Bool) → x || (y || z) ≡ (x || y) || z
    or_assoc true y z = refl
    or_assoc false y z = refl

-- the last sign before the end is a digit exactly when the signs end in one
pub last_digit : (l : Last) (s : List ℕ) → behind_digit (last_of l s) ≡ ends_in_digit (behind_digit l) (signs s)
unfolding last_of signs ends_in_digit
last_digit l [] = refl
last_digit l (c ∷ s) = last_digit (next l c) s ∙ go (blank c) refl
  where
    go : (b : Bool) → blank c ≡ b → ends_in_digit (behind_digit (next l c)) (signs s) ≡ ends_in_digit (behind_digit l) (cond b (signs s) (c ∷ signs s))
    go true e = ap (λ (z : Bool). ends_in_digit z (signs s)) (behind_blank l c e)
    go false e = ap (λ (z : Bool). ends_in_digit z (signs s)) (behind_sign l c e)

-- bytes that end in a digit are some bytes and that digit
pub digit_at_end : (s : List ℕ) → ends_in_digit false s ≡ true → (q : List ℕ) × (c : ℕ) × (s ≡ q ++ (c ∷ [])) × (is_digit c ≡ true)
unfolding ends_in_digit
digit_at_end [] e = absurd (true≢false (sym e))
digit_at_end (c ∷ []) e = ([], c, refl, e)
digit_at_end (c ∷ d ∷ s) e = let r = digit_at_end (d ∷ s) e in (c ∷ r.0, r.1, ap (λ (x : List ℕ). c ∷ x) r.2, r.3)
