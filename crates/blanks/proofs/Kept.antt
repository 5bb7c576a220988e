-- The signs that a reader keeps of bytes as sent: those up to the first digit that parts a label. Main results: kept_blank, kept_sign, kept_parted,
-- whole_kept, kept_digit, kept_fewer.
use Rattle.std.specs.Prelude.{◌≡◌, refl, Bool, true, false, ◌||◌, cond, List, [], ◌∷◌, ℕ, ◌≤◌, length}
use Rattle.std.proofs.Common.{ap, sym, subst, ◌∙◌, true≢false, arith}
use Rattle.rules.specs.Sent.{blank, signs}
use Rattle.blanks.specs.Marks.{Last, other, digit, gap, next, parts, at_gap, behind_digit, parted_from, ends_in_digit}
use Rattle.blanks.proofs.Marks.{parted_nil, parted_next, blank_parts, parts_digit, digit_no_blank, behind_blank, behind_sign}
use Rattle.blanks.specs.Kept.{kept_from}

pub kept_blank : (l : Last) (c : ℕ) (s : List ℕ) → blank c ≡ true → kept_from l (c ∷ s) ≡ kept_from (next l c) s
unfolding kept_from
kept_blank l c s e = rw e

pub kept_sign : (l : Last) (c : ℕ) (s : List ℕ) → blank c ≡ false → parts l c ≡ false → kept_from l (c ∷ s) ≡ c ∷ kept_from (next l c) s
unfolding kept_from
kept_sign l c s e p = rw (e, p)

pub kept_parted : (l : Last) (c : ℕ) (s : List ℕ) → parts l c ≡ true → kept_from l (c ∷ s) ≡ []
unfolding kept_from
kept_parted l c s p = rw (digit_no_blank c (parts_digit l c p).0, p)

pub kept_fewer : (l : Last) (s : List ℕ) → length (kept_from l s) ≤ length (signs s)
unfolding kept_from signs
kept_fewer l [] = omega arith
kept_fewer l (c ∷ s) = go (blank c) (parts l c) (kept_fewer (next l c) s)
  where
    go : (b p : Bool) → length (kept_from (next l c) s) ≤ length (signs s)
        → length (cond b (kept_from (next l c) s) (cond p [] (c ∷ kept_from (next l c) s))) ≤ length (cond b (signs s) (c ∷ signs s))
    go true p h = h
    go false true h = omega arith
    go false false h = omega arith

-- where no label is parted, all signs are kept
pub whole_kept : (l : Last) (s : List ℕ) → parted_from l s ≡ false → kept_from l s ≡ signs s
unfolding kept_from signs
whole_kept l [] h = refl
whole_kept l (c ∷ s) h = go (blank c) (parts l c) (parted_from (next l c) s) (sym (parted_next l c s) ∙ h) (λ e. whole_kept (next l c) s e)
  where
    go : (b p q : Bool) → p || q ≡ false → (q ≡ false → kept_from (next l c) s ≡ signs s)
        → cond b (kept_from (next l c) s) (cond p [] (c ∷ kept_from (next l c) s)) ≡ cond b (signs s) (c ∷ signs s)
    go b true q e f = absurd (true≢false e)
    go true false q e f = f e
    go false false q e f = ap (λ (x : List ℕ). c ∷ x) (f e)

gap_behind : (l : Last) → at_gap l ≡ true → behind_digit l ≡ true
unfolding at_gap behind_digit
gap_behind other g = absurd (true≢false (sym g))
gap_behind digit g = absurd (true≢false (sym g))
gap_behind gap g = refl

-- where a label is parted, what is kept ends in a digit
pub kept_digit : (l : Last) (s : List ℕ) → parted_from l s ≡ true → ends_in_digit (behind_digit l) (kept_from l s) ≡ true
unfolding ends_in_digit
kept_digit l [] h = absurd (true≢false (sym h ∙ parted_nil l))
kept_digit l (c ∷ s) h = go (blank c) refl (parts l c) refl (sym (parted_next l c s) ∙ h) (λ e. kept_digit (next l c) s e)
  where
    go : (b : Bool) → blank c ≡ b → (p : Bool) → parts l c ≡ p → parts l c || parted_from (next l c) s ≡ true
        → (parted_from (next l c) s ≡ true → ends_in_digit (behind_digit (next l c)) (kept_from (next l c) s) ≡ true) → ends_in_digit (behind_digit l) (kept_from l (c ∷ s)) ≡ true
    go true e p q k f = rw (kept_blank l c s e, ← behind_blank l c e) (f (rw (blank_parts l c e) at k))
    go false e true q k f = rw (kept_parted l c s q) (gap_behind l (parts_digit l c q).1)
    go false e false q k f =
        rw (kept_sign l c s e q) (subst (λ (z : Bool). ends_in_digit z (kept_from (next l c) s) ≡ true) (behind_sign l c e) (f (rw q at k)))
