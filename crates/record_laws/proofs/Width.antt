-- How many bits a number needs, the width of an entry's field, and the totals of bits.
-- Main results: needed_lt, needed_unique, needed_leading, width_fits, width_run, total_one, total_least, total_last, record_length_most.
use Rattle.std.specs.Prelude.{◌≡◌, refl, Bool, true, false, ℕ, zero, suc, ◌+◌, ◌-◌, ◌*◌, ◌/◌, ◌%◌, ◌^◌, ◌≤◌, ◌<◌, max, ltb}
use Rattle.std.proofs.Common.{ap, ◌∙◌, pow-suc, add-zero, add-suc, le_antisymm, add-one, arith, lit<, pow-add, pow_mono, shr_lt, ltb-true, ltb-false}
use Rattle.std.proofs.Math.Arith.{half_le}
use Rattle.std.specs.Int.Count.{count_leading_zeros}
use Rattle.rules.specs.Vector.{bound}
use Rattle.rules.specs.Record.{bits_within, bits_needed, width, total, record_length}

within_lt : (f n : ℕ) → n ≤ f → n < 2 ^ bits_within f n
unfolding bits_within
within_lt zero zero h = lit< tt
within_lt zero (suc n) h = absurd (omega arith)
within_lt (suc f) zero h = lit< tt
within_lt (suc f) (suc n) h = rw pow-suc (omega (arith, within_lt f (suc n / 2) (half_le h)))

within_least : (f n : ℕ) → n ≤ f → 2 ^ bits_within f n ≤ max 1 (2 * n)
unfolding bits_within
within_least zero zero h = omega arith
within_least zero (suc n) h = absurd (omega arith)
within_least (suc f) zero h = omega arith
within_least (suc f) (suc n) h = rw pow-suc (omega (arith, within_least f (suc n / 2) (half_le h)))

-- a number fits the bits that it needs
pub needed_lt : (x : ℕ) → x < 2 ^ bits_needed x
unfolding bits_needed
needed_lt x = within_lt x x (omega arith)

-- and no fewer
pub needed_least : (x : ℕ) → 2 ^ bits_needed x ≤ 2 * x + 1
unfolding bits_needed
needed_least x = omega (arith, within_least x x (omega arith))

power_le : (m n : ℕ) → 2 ^ m < 2 ^ suc n → m ≤ n
power_le m n h = go (ltb n m) refl
  where
    go : (b : Bool) → ltb n m ≡ b → m ≤ n
    go true e = absurd (omega (arith, pow_mono {i = suc n} {j = m} (ltb-true n m e)))
    go false e = ltb-false n m e

pub needed_unique : (x m : ℕ) → x < 2 ^ m → 2 ^ m ≤ 2 * x + 1 → bits_needed x ≡ m
needed_unique x m h l =
    le_antisymm
    (power_le (bits_needed x) m (rw (pow-suc 2 m) (omega (arith, needed_least x))))
    (power_le m (bits_needed x) (rw (pow-suc 2 (bits_needed x)) (omega (arith, needed_lt x))))

-- the bits that a number needs, from the count of leading zeros
leading_within : (k n f : ℕ) → n < 2 ^ k → n ≤ f → count_leading_zeros k n + bits_within f n ≡ k
unfolding count_leading_zeros bits_within
leading_within zero n zero h e = refl
leading_within zero zero (suc f) h e = refl
leading_within zero (suc n) (suc f) h e = absurd (omega (arith, h))
leading_within (suc k) zero zero h e = omega arith
leading_within (suc k) zero (suc f) h e = omega arith
leading_within (suc k) (suc n) zero h e = absurd (omega arith)
leading_within (suc k) (suc n) (suc f) h e = omega (arith, leading_within k (suc n / 2) f (shr_lt k 1 (rw add-one h)) (half_le e))

pub needed_leading : (k x : ℕ) → x < 2 ^ k → count_leading_zeros k x + bits_needed x ≡ k
unfolding bits_needed
needed_leading k x h = leading_within k x x h (omega arith)

-- an entry within its bound fits its field
pub width_fits : (i x : ℕ) → x ≤ bound i → x < 2 ^ width i
unfolding width
width_fits i x h = omega (arith, needed_lt (bound i), h)

-- an entry's field has at most 11 bits
pub width_most : (i : ℕ) → i ≤ 1024 → width i ≤ 11
unfolding width bound
width_most i h = power_le (bits_needed (2 * (i - 1))) 11 (omega (arith, needed_least (2 * (i - 1))))

-- from entry 5 on a field has at least 4 bits
pub width_least : (i : ℕ) → 5 ≤ i → 4 ≤ width i
unfolding width bound
width_least i h = power_le 4 (bits_needed (2 * (i - 1))) (rw (pow-suc 2 (bits_needed (2 * (i - 1)))) (omega (arith, needed_lt (2 * (i - 1)))))

half : (m : ℕ) → 1 ≤ m → 2 ^ m ≡ 2 * 2 ^ (m - 1)
half m h = let e : m ≡ suc (m - 1) = omega arith in ap (λ (k : ℕ). 2 ^ k) e ∙ rw (pow-suc 2 (m - 1)) (omega arith)

-- the entries from i on have one width up to the entry whose number is half of what the width holds
pub width_below : (i : ℕ) → 5 ≤ i → i ≤ 2 ^ (width i - 1)
unfolding width bound
width_below i h = omega (arith, needed_lt (2 * (i - 1)), half (bits_needed (2 * (i - 1))) (omega (arith, width_least i h)))

pub width_run : (i j : ℕ) → 5 ≤ i → i ≤ j → j ≤ 2 ^ (width i - 1) → width j ≡ width i
unfolding width bound
width_run i j h l m =
    needed_unique (2 * (j - 1)) (bits_needed (2 * (i - 1)))
    (omega (arith, half (bits_needed (2 * (i - 1))) (omega (arith, width_least i h))))
    (omega (arith, needed_least (2 * (i - 1))))

-- and that entry's number is a multiple of four
pub width_fours : (i : ℕ) → 5 ≤ i → 2 ^ (width i - 1) % 4 ≡ 0
width_fours i h =
    let e : width i - 1 ≡ 2 + (width i - 3) = omega (arith, width_least i h) in
    rw (e, pow-add 2 2 (width i - 3)) (omega arith)

pub total_suc : (n : ℕ) → total (suc n) ≡ total n + width n
unfolding total
total_suc n = refl

-- "L(1)=L(2)=11, L(3)=13, L(4)=16, L(1024)=10,240"
pub total_zero : total 0 ≡ 11
unfolding total
total_zero = refl

pub total_one : total 1 ≡ 11
unfolding total
total_one = refl

pub total_last : total 1024 ≡ 10240
unfolding total
total_last = refl

pub total_add : (n k : ℕ) → total n ≤ total (n + k)
unfolding total
total_add n zero = rw add-zero (omega arith)
total_add n (suc k) = rw add-suc (omega (arith, total_add n k))

-- from entry 5 on each entry adds at least 4 bits
pub total_least : (n k : ℕ) → 5 ≤ n → total n + 4 * k ≤ total (n + k)
unfolding total
total_least n zero h = rw (add-zero n) (omega arith)
total_least n (suc k) h = rw add-suc (omega (arith, total_least n k h, width_least (n + k) (omega arith)))

pub total_mono : (m n : ℕ) → m ≤ n → total m ≤ total n
total_mono m n h = let e : m + (n - m) ≡ n = omega arith in rw e at (total_add m (n - m))

pub total_most : (n : ℕ) → n ≤ 1024 → total n ≤ 10240
total_most n h = rw total_last at (total_mono n 1024 h)

-- no record is longer than 1,280 bytes
pub record_length_most : (n : ℕ) → n ≤ 1024 → record_length n ≤ 1280
unfolding record_length
record_length_most n h = omega (arith, total_most n h)

-- and none is shorter than 2
pub record_length_least : (n : ℕ) → 2 ≤ record_length n
unfolding record_length
record_length_least n = omega (arith, rw total_zero at (total_mono 0 n (omega arith)))

-- the record's bytes hold its bits, and their last byte holds one at least
pub record_length_bits : (n : ℕ) → (total n ≤ 8 * record_length n) × (8 * record_length n < total n + 8)
unfolding record_length
record_length_bits n = (omega arith, omega arith)
