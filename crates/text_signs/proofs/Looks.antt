-- One look at the bytes of a text: that no blank is there, how many signs there are, the place of one.
-- Main definitions: Counting, Placing. Main results: plain_signs, count_start, count_blank, count_sign, count_end, placing_blank, placing_sign, placing_here, placing_end.
use mathlib.Core.Path.{◌≡◌, refl, ap, ◌∙◌}
use mathlib.Core.Bool.{true, false}
use mathlib.Core.List.{List, [], ◌∷◌}
use Prim.Native.Nat.{ℕ, suc, ◌+◌, ◌-◌, ◌≤◌, ◌<◌}
use native.Mathlib.Omega.{arith}
use lib.ListN.{length, get_or, drop, drop_of_length-le}
use borrow.Author.Tests.{ne_eqb}
use Rattle.rules.specs.Sent.{blank, signs}
use Rattle.blanks.proofs.Marks.{signs_blank, signs_sign}
use Rattle.blanks.specs.Places.{place_of}
use Rattle.blanks.proofs.Places.{place_nil, place_blank, place_first, place_later}
use Rattle.text_laws.proofs.Bytes.{drop_byte}

-- where no byte is as low as a blank, all are signs
above_blank : (c : ℕ) → 32 < c → blank c ≡ false
unfolding blank
above_blank c h = rw (ne_eqb c 32 (λ e. omega arith), ne_eqb c 9 (λ e. omega arith), ne_eqb c 13 (λ e. omega arith), ne_eqb c 10 (λ e. omega arith))

pub plain_signs : (s : List ℕ) → ((k : ℕ) → k < length s → 32 < get_or s k 0) → signs s ≡ s
unfolding signs
plain_signs [] h = refl
plain_signs (c ∷ s) h =
    signs_sign c s (above_blank c (h 0 (omega arith))) ∙ ap (λ (x : List ℕ). c ∷ x) (plain_signs s (λ k l. h (suc k) (omega arith)))

-- of the first i bytes so many are signs
pub record Counting (s : List ℕ) (count i : ℕ) : Type 0 where
  pub fewer : count ≤ i
  pub counts : length (signs s) ≡ count + length (signs (drop i s))

pub count_start : (s : List ℕ) → Counting s 0 0
count_start s = record { fewer = omega arith; counts = omega arith }

module _ (s : List ℕ) (count i : ℕ) (C : Counting s count i) where
  pub count_blank : i < length s → blank (get_or s i 0) ≡ true → Counting s count (i + 1)
  count_blank h e = record {
    fewer = omega (arith, C.fewer);
    counts = C.counts ∙ ap (λ (x : List ℕ). count + length x) (ap signs (drop_byte s i h) ∙ signs_blank (get_or s i 0) (drop (i + 1) s) e);
  }

  pub count_sign : i < length s → blank (get_or s i 0) ≡ false → Counting s (count + 1) (i + 1)
  count_sign h e =
      let one : length (signs (drop i s)) ≡ suc (length (signs (drop (i + 1) s))) =
      ap length (ap signs (drop_byte s i h) ∙ signs_sign (get_or s i 0) (drop (i + 1) s) e) in
      record { fewer = omega (arith, C.fewer); counts = omega (arith, C.counts) }

  pub count_end : length s ≤ i → count ≡ length (signs s)
  unfolding signs
  count_end h = let none : length (signs (drop i s)) ≡ 0 = ap (λ (x : List ℕ). length (signs x)) (drop_of_length-le s h) in omega (arith, C.counts)

pub counting_as : {s : List ℕ} {count count' i : ℕ} → count' ≡ count → Counting s count i → Counting s count' i
counting_as e C = rw e C

-- sign number k stands so many signs behind place i
pub record Placing (s : List ℕ) (k left i : ℕ) : Type 0 where
  pub within : i ≤ length s
  pub place : place_of s k ≡ i + place_of (drop i s) left

pub place_start : (s : List ℕ) (k : ℕ) → Placing s k k 0
place_start s k = record { within = omega arith; place = let z : place_of s k ≡ 0 + place_of s k = omega arith in z }

module _ (s : List ℕ) (k left i : ℕ) (P : Placing s k left i) where
  module _ (h : i < length s) where
    first : place_of s k ≡ i + place_of (get_or s i 0 ∷ drop (i + 1) s) left
    first = P.place ∙ ap (λ (x : List ℕ). i + place_of x left) (drop_byte s i h)

    pub placing_blank : blank (get_or s i 0) ≡ true → Placing s k left (i + 1)
    placing_blank e = record { within = omega arith; place = let b = place_blank (get_or s i 0) (drop (i + 1) s) left e in omega (arith, first) }

    pub placing_here : blank (get_or s i 0) ≡ false → left ≡ 0 → i ≡ place_of s k
    placing_here e z =
        let b : place_of (get_or s i 0 ∷ drop (i + 1) s) left ≡ 0 = ap (place_of (get_or s i 0 ∷ drop (i + 1) s)) z ∙ place_first (get_or s i 0) (drop (i + 1) s) e in
        omega (arith, first)

    pub placing_sign : blank (get_or s i 0) ≡ false → (left ≡ 0 → ⊥) → Placing s k (left - 1) (i + 1)
    placing_sign e n =
        let l : left ≡ suc (left - 1) = omega (arith, n) in
        let b : place_of (get_or s i 0 ∷ drop (i + 1) s) left ≡ suc (place_of (drop (i + 1) s) (left - 1)) =
        ap (place_of (get_or s i 0 ∷ drop (i + 1) s)) l ∙ place_later (get_or s i 0) (drop (i + 1) s) (left - 1) e in
        record { within = omega arith; place = omega (arith, first) }

  pub placing_end : length s ≤ i → length s ≡ place_of s k
  placing_end h = let z : place_of (drop i s) left ≡ 0 = ap (λ (x : List ℕ). place_of x left) (drop_of_length-le s h) ∙ place_nil left in omega (arith, P.place, P.within)

pub placing_as : {s : List ℕ} {k left left' i : ℕ} → left' ≡ left → Placing s k left i → Placing s k left' i
placing_as e P = rw e P
