-- The readers' steps over the bytes from a place on, by the byte that stands there.
-- Main results: digit_range, digit_in, place_of_lem, drop_byte, sign_there, sign_missing, longer_yes, label_zero, label_more, label_none, node_label,
-- node_pair, node_deep.
use Rattle.std.specs.Prelude.{◌≡◌, refl, Bool, true, false, ◌&&◌, List, [], ◌∷◌, ℕ, zero, suc, ◌+◌, ◌-◌, ◌*◌, ◌≤◌, ◌<◌, leb, ltb, length, get_or, drop}
use Rattle.std.proofs.Common.{ap, sym, subst, arith, add-one, drop_of_length-le, drop-cons, leb-true, le-leb, eq-eqb, ne_eqb, ltb-true, ltb-false}
use Rattle.std.proofs.Math.ListN.{get_or-eq_default}
use Rattle.std.proofs.lemmas.Bool.{lt-leb}
use Rattle.rules.specs.Newick.{is_digit}
use Rattle.rules.specs.Tree.{Tree, leaf}
use Rattle.grammar.specs.Reading.{read, broken, sign, more_digits, label_read, bracket_or_label, node_read, pair_read}
use Rattle.basics.proofs.Bools.{and_both}
use Rattle.grammar.specs.Complete.{NoDigit}

pub digit_range : (c : ℕ) → is_digit c ≡ true → (48 ≤ c) × (c ≤ 57)
unfolding is_digit
digit_range c h =
    let e : (leb 48 c ≡ true) × (leb c 57 ≡ true) = and_both (leb 48 c) (leb c 57) h in
    (leb-true 48 c e.0, leb-true c 57 e.1)

pub digit_in : (c : ℕ) → 48 ≤ c → c ≤ 57 → is_digit c ≡ true
unfolding is_digit
digit_in c h g = rw (le-leb 48 c h, le-leb c 57 g)

pub digit_from : (c : ℕ) → 48 ≤ c → leb c 57 ≡ is_digit c
unfolding is_digit
digit_from c h = rw (le-leb 48 c h)

pub digit_below : (c : ℕ) → c < 48 → leb 48 c ≡ is_digit c
unfolding is_digit
digit_below c h = rw (lt-leb 48 c h)

pub no_digit_above : (c : ℕ) → 57 < c → is_digit c ≡ false
unfolding is_digit
no_digit_above c h = rw (le-leb 48 c (omega arith), lt-leb c 57 h)

pub no_digit_below : (c : ℕ) → c ≤ 48 → (c ≡ 48 → ⊥) → is_digit c ≡ false
unfolding is_digit
no_digit_below c h n = go (ltb c 48) refl
  where
    go : (b : Bool) → ltb c 48 ≡ b → leb 48 c && leb c 57 ≡ false
    go true e = rw (lt-leb 48 c (ltb-true c 48 e))
    go false e = absurd (n (let k = ltb-false c 48 e in omega arith))

-- a byte that is not 0 stands before the end
pub place_of_lem : (s : List ℕ) (at c : ℕ) → 0 < c → get_or s at 0 ≡ c → at < length s
place_of_lem s at c p e = go (ltb at (length s)) refl
  where
    go : (b : Bool) → ltb at (length s) ≡ b → at < length s
    go true t = ltb-true at (length s) t
    go false t =
        let l : length s ≤ at = ltb-false at (length s) t in
        let z : get_or s at 0 ≡ 0 = get_or-eq_default s 0 l in
        omega arith

pub place_digit : (s : List ℕ) (at : ℕ) → is_digit (get_or s at 0) ≡ true → at < length s
place_digit s at h =
    let r : (48 ≤ get_or s at 0) × (get_or s at 0 ≤ 57) = digit_range (get_or s at 0) h in
    place_of_lem s at (get_or s at 0) (omega arith) refl

pub drop_byte : (s : List ℕ) (at : ℕ) → at < length s → drop at s ≡ get_or s at 0 ∷ drop (at + 1) s
drop_byte s at h = rw (add-one, drop-cons s at 0)

-- by cases: at a byte, or at the end
by_place : (P : List ℕ → Type 0) (s : List ℕ) (at : ℕ) → (at < length s → P (get_or s at 0 ∷ drop (at + 1) s)) → P [] → P (drop at s)
by_place P s at f g = go (ltb at (length s)) refl
  where
    go : (b : Bool) → ltb at (length s) ≡ b → P (drop at s)
    go true t = let l : at < length s = ltb-true at (length s) t in subst P (sym (drop_byte s at l)) (f l)
    go false t = let l : length s ≤ at = ltb-false at (length s) t in subst P (sym (drop_of_length-le s l)) g

pub no_digit : (s : List ℕ) (at : ℕ) → is_digit (get_or s at 0) ≡ false → NoDigit (drop at s)
no_digit s at h = by_place NoDigit s at (λ l. h) tt

pub sign_there : (c : ℕ) (t : Tree) (s : List ℕ) (at : ℕ) → 0 < c → get_or s at 0 ≡ c → sign c t (drop at s) ≡ read (drop (at + 1) s) t
unfolding sign
sign_there c t s at p e = rw (drop_byte s at (place_of_lem s at c p e), eq-eqb (get_or s at 0) c e)

pub sign_missing : (c : ℕ) (t : Tree) (s : List ℕ) (at : ℕ) → (get_or s at 0 ≡ c → ⊥) → sign c t (drop at s) ≡ broken (drop at s)
unfolding sign
sign_missing c t s at h = by_place (λ (x : List ℕ). sign c t x ≡ broken x) s at (λ l. rw (ne_eqb (get_or s at 0) c h)) refl

pub longer_yes : (s : List ℕ) (at x : ℕ) → is_digit (get_or s at 0) ≡ true → (k : ℕ)
    → more_digits (suc k) x (drop at s) ≡ more_digits k (10 * x + (get_or s at 0 - 48)) (drop (at + 1) s)
unfolding more_digits
longer_yes s at x h k = rw (drop_byte s at (place_digit s at h), h)

pub label_zero : (s : List ℕ) (at : ℕ) → get_or s at 0 ≡ 48 → label_read (drop at s) ≡ read (drop (at + 1) s) (leaf 0)
unfolding label_read is_digit
label_zero s at e = rw (drop_byte s at (place_of_lem s at 48 (omega arith) e), e)

pub label_more : (s : List ℕ) (at : ℕ) → is_digit (get_or s at 0) ≡ true → (get_or s at 0 ≡ 48 → ⊥)
    → label_read (drop at s) ≡ more_digits 3 (get_or s at 0 - 48) (drop (at + 1) s)
unfolding label_read
label_more s at h e = rw (drop_byte s at (place_digit s at h), h, ne_eqb (get_or s at 0) 48 e)

pub label_none : (s : List ℕ) (at : ℕ) → is_digit (get_or s at 0) ≡ false → label_read (drop at s) ≡ broken (drop at s)
unfolding label_read
label_none s at h = by_place (λ (x : List ℕ). label_read x ≡ broken x) s at (λ l. rw h) refl

-- a node that begins with no bracket is a label
pub node_label : (d : ℕ) (s : List ℕ) (at : ℕ) → (get_or s at 0 ≡ 40 → ⊥) → node_read d (drop at s) ≡ label_read (drop at s)
unfolding node_read bracket_or_label label_read
node_label zero s at h = refl
node_label (suc d) s at h =
    by_place (λ (x : List ℕ). bracket_or_label (pair_read (node_read d)) x ≡ label_read x) s at (λ l. rw (ne_eqb (get_or s at 0) 40 h)) refl

pub node_pair : (d : ℕ) (s : List ℕ) (at : ℕ) → get_or s at 0 ≡ 40 → (d ≡ 0 → ⊥) → node_read d (drop at s) ≡ pair_read (node_read (d - 1)) (drop (at + 1) s)
unfolding node_read bracket_or_label
node_pair zero s at e h = absurd (h refl)
node_pair (suc d) s at e h =
    let z : d ≡ suc d - 1 = omega arith in
    rw (drop_byte s at (place_of_lem s at 40 (omega arith) e), eq-eqb (get_or s at 0) 40 e) (ap (λ (k : ℕ). pair_read (node_read k) (drop (at + 1) s)) z)

pub node_deep : (d : ℕ) (s : List ℕ) (at : ℕ) → get_or s at 0 ≡ 40 → d ≡ 0 → node_read d (drop at s) ≡ broken (drop at s)
unfolding node_read is_digit
node_deep zero s at e h = label_none s at (rw e)
node_deep (suc d) s at e h = absurd (omega arith)
