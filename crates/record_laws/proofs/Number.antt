-- Bits in a row and the number they stand for, most significant first: one law over the width. Main results: number_append, number_field,
-- field_joined, field_number, number_part.
use Rattle.std.specs.Prelude.{◌≡◌, refl, [], ◌∷◌, ◌++◌, ℕ, zero, suc, ◌+◌, ◌-◌, ◌*◌, ◌/◌, ◌%◌, ◌^◌, ◌≤◌, ◌<◌, length, take, drop, replicate}
use Rattle.std.proofs.Common.{sym, ap, ap₂, ◌∙◌, le_trans, suc-mul, mul-le-mul_right, mod-lt, zero-add, add_comm, pow-suc, add-mul, mul_assoc, mod-eq_of_lt, add-one, arith, lit<, length-append, length-take, length-drop, take-append-drop, pow-add}
use Rattle.std.proofs.Math.Nat.{mod-one}
use Rattle.std.proofs.lemmas.Nat.{mod-pow-add}
use Rattle.std.proofs.Math.Pow.{high, low}
use Rattle.rules.specs.Record.{Bits, field, number, number_from}
use Rattle.record_laws.specs.Number.{AreBits}

pub are_append : (as' bs : Bits) → AreBits as' → AreBits bs → AreBits (as' ++ bs)
unfolding AreBits
are_append [] bs h g = g
are_append (a ∷ as') bs h g = (h.0, are_append as' bs h.1 g)

pub are_take : (k : ℕ) (bs : Bits) → AreBits bs → AreBits (take k bs)
unfolding AreBits
are_take zero bs h = tt
are_take (suc k) [] h = tt
are_take (suc k) (b ∷ bs) h = (h.0, are_take k bs h.1)

pub are_drop : (k : ℕ) (bs : Bits) → AreBits bs → AreBits (drop k bs)
unfolding AreBits
are_drop zero bs h = h
are_drop (suc k) [] h = tt
are_drop (suc k) (b ∷ bs) h = are_drop k bs h.1

pub are_zeros : (k : ℕ) → AreBits (replicate k 0)
unfolding AreBits
are_zeros zero = tt
are_zeros (suc k) = (lit< tt, are_zeros k)

pub are_field : (w x : ℕ) → AreBits (field w x)
unfolding AreBits field
are_field zero x = tt
are_field (suc w) x = (mod-lt (x / 2 ^ w) (lit< tt), are_field w x)

pub length_field : (w x : ℕ) → length (field w x) ≡ w
unfolding field
length_field zero x = refl
length_field (suc w) x = ap suc (length_field w x)

doubled : (x b p : ℕ) → (2 * x + b) * p ≡ x * (p * 2) + b * p
doubled x b p = rw (add-mul, mul_assoc) (omega (arith, mul_assoc x p 2))

from_number : (x : ℕ) (bs : Bits) → number_from x bs ≡ x * 2 ^ length bs + number_from 0 bs
unfolding number_from
from_number x [] = omega arith
from_number x (b ∷ bs) =
    rw (from_number (2 * x + b) bs, from_number (2 * 0 + b) bs, pow-suc 2 (length bs), doubled x b (2 ^ length bs)) (omega arith)

pub number_cons : (b : ℕ) (bs : Bits) → number (b ∷ bs) ≡ b * 2 ^ length bs + number bs
unfolding number number_from
number_cons b bs = rw (from_number (2 * 0 + b) bs, zero-add)

pub number_append : (as' bs : Bits) → number (as' ++ bs) ≡ number as' * 2 ^ length bs + number bs
unfolding number number_from
number_append [] bs = omega arith
number_append (a ∷ as') bs =
    rw (
      number_cons a (as' ++ bs),
      number_cons a as',
      number_append as' bs,
      length-append as' bs,
      pow-add 2 (length as') (length bs),
      add-mul,
      mul_assoc,
    ) (omega arith)

pub number_zeros : (k : ℕ) → number (replicate k 0) ≡ 0
unfolding number number_from
number_zeros zero = refl
number_zeros (suc k) = number_zeros k

-- the number of w bits is below 2 ^ w
pub number_lt : (bs : Bits) → AreBits bs → number bs < 2 ^ length bs
unfolding AreBits number number_from
number_lt [] h = lit< tt
number_lt (zero ∷ bs) h = rw (number_cons 0 bs, pow-suc 2 (length bs)) (omega (arith, number_lt bs h.1))
number_lt (suc zero ∷ bs) h = rw (number_cons 1 bs, pow-suc 2 (length bs)) (omega (arith, number_lt bs h.1))
number_lt (suc (suc b) ∷ bs) h = absurd (omega (arith, h.0))

-- a field holds the number modulo 2 ^ w
pub number_field : (w x : ℕ) → number (field w x) ≡ x % 2 ^ w
unfolding field number number_from
number_field zero x = sym (mod-one x)
number_field (suc w) x =
    number_cons (x / 2 ^ w % 2) (field w x)
    ∙ rw (length_field w x, number_field w x, ← add-one w) (sym (rw (add_comm w 1) (mod-pow-add x 1 w)))

-- a number that fits is read back from its field
pub number_of_field : (w x : ℕ) → x < 2 ^ w → number (field w x) ≡ x
number_of_field w x h = number_field w x ∙ mod-eq_of_lt h

-- as many bits with one number are the same bits
pub number_injective : (as' bs : Bits) → AreBits as' → AreBits bs → length as' ≡ length bs → number as' ≡ number bs → as' ≡ bs
unfolding AreBits
number_injective [] [] h g l e = refl
number_injective [] (b ∷ bs) h g l e = absurd (omega arith)
number_injective (a ∷ as') [] h g l e = absurd (omega arith)
number_injective (a ∷ as') (b ∷ bs) h g l e =
    ap₂ ◌∷◌
    (sym (high a (length bs) m) ∙ ap (λ (n : ℕ). n / 2 ^ length bs) same ∙ high b (length bs) (number_lt bs g.1))
    (number_injective as' bs h.1 g.1 k
    (sym (low a (length bs) m) ∙ ap (λ (n : ℕ). n % 2 ^ length bs) same ∙ low b (length bs) (number_lt bs g.1)))
  where
    k : length as' ≡ length bs
    k = omega arith

    m : number as' < 2 ^ length bs
    m = rw k at (number_lt as' h.1)

    same : a * 2 ^ length bs + number as' ≡ b * 2 ^ length bs + number bs
    same = rw (← k) (sym (number_cons a as')) ∙ e ∙ number_cons b bs

-- two numbers in a row of bits
pub joined_lt : (j k : ℕ) {x y : ℕ} → x < 2 ^ j → y < 2 ^ k → x * 2 ^ k + y < 2 ^ (j + k)
joined_lt j k {x} {y} h g = rw pow-add (le_trans (omega (arith, suc-mul x (2 ^ k))) (mul-le-mul_right (2 ^ k) h))

-- their bits are those of the one and then those of the other
pub field_joined : (j k x y : ℕ) → y < 2 ^ k → field (j + k) (x * 2 ^ k + y) ≡ field j x ++ field k y
field_joined j k x y h =
    number_injective (field (j + k) (x * 2 ^ k + y)) (field j x ++ field k y) (are_field (j + k) (x * 2 ^ k + y))
    (are_append (field j x) (field k y) (are_field j x) (are_field k y))
    (length_field (j + k) (x * 2 ^ k + y) ∙ sym (length-append (field j x) (field k y) ∙ rw (length_field j x, length_field k y)))
    (number_field (j + k) (x * 2 ^ k + y) ∙ mod-pow-add (x * 2 ^ k + y) j k
    ∙ rw (high x k h, low x k h)
    (sym (number_append (field j x) (field k y) ∙ rw (length_field k y, number_field j x, number_of_field k y h))))

-- bits are the field of their number
pub field_number : (bs : Bits) → AreBits bs → field (length bs) (number bs) ≡ bs
field_number bs h =
    number_injective (field (length bs) (number bs)) bs (are_field (length bs) (number bs)) h (length_field (length bs) (number bs))
    (number_of_field (length bs) (number bs) (number_lt bs h))

pub field_of : (w : ℕ) (bs : Bits) → length bs ≡ w → AreBits bs → field w (number bs) ≡ bs
field_of w bs e h = rw e at (field_number bs h)

-- the number of the bits in the middle, by arithmetic on the number of all of them
pub number_middle : (as' bs cs : Bits) → AreBits bs → AreBits cs
    → number (as' ++ (bs ++ cs)) / 2 ^ length cs % 2 ^ length bs ≡ number bs
number_middle as' bs cs h g =
    ap (λ (n : ℕ). n / 2 ^ length cs % 2 ^ length bs) joined
    ∙ ap (λ (n : ℕ). n % 2 ^ length bs) (high (number as' * 2 ^ length bs + number bs) (length cs) (number_lt cs g))
    ∙ low (number as') (length bs) (number_lt bs h)
  where
    joined : number (as' ++ (bs ++ cs)) ≡ (number as' * 2 ^ length bs + number bs) * 2 ^ length cs + number cs
    joined =
        rw (number_append as' (bs ++ cs), number_append bs cs, length-append bs cs, pow-add 2 (length bs) (length cs), add-mul, mul_assoc)
        (omega arith)

-- w bits behind k bits, by arithmetic on the number of all of them
pub number_part : (bs : Bits) (k w : ℕ) → AreBits bs → k + w ≤ length bs
    → number (take w (drop k bs)) ≡ number bs / 2 ^ (length bs - k - w) % 2 ^ w
number_part bs k w h l =
    sym (number_middle (take k bs) (take w (drop k bs)) (drop w (drop k bs)) (are_take w (drop k bs) (are_drop k bs h)) (are_drop w (drop k bs) (are_drop k bs h)))
    ∙ rw (take-append-drop w (drop k bs), take-append-drop k bs, lengths, length-drop w (drop k bs), length-drop k bs)
  where
    lengths : length (take w (drop k bs)) ≡ w
    lengths = rw (length-take, length-drop) (omega arith)
