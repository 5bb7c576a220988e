-- A bit field from a word: the value of w bits that start anywhere in k bytes, one law over the bytes, the offset and the width. Main results:
-- value_word, value_lt, word_four, word_eight.
use Rattle.std.specs.Prelude.{◌≡◌, refl, List, [], ◌∷◌, ◌++◌, ℕ, zero, suc, ◌+◌, ◌-◌, ◌*◌, ◌/◌, ◌%◌, ◌^◌, ◌≤◌, ◌<◌, length, take, drop, get_or, replicate}
use Rattle.std.proofs.Common.{sym, ap, ap₂, ◌∙◌, add-zero, le_trans, arith, length-append, length-take, length-drop, take-append-drop, drop-drop, drop-cons, take_at, take-add, pow_mono}
use Rattle.std.proofs.lemmas.List.{length-replicate, take-append-le, drop-append-le}
use Rattle.rules.specs.Record.{Bits, field, number, bits_of}
use Rattle.record_laws.proofs.Number.{are_take, are_drop, length_field, number_lt, number_of_field, number_append, number_part}
use Rattle.record_laws.proofs.Bytes.{are_bits, length_bits, bits_append, drop_bits}
use Rattle.record_laws.specs.Window.{value_at, word_at}

pub value_lt : (s : List ℕ) (at w : ℕ) → value_at s at w < 2 ^ w
unfolding value_at
value_lt s at w = le_trans (number_lt (take w (drop at (bits_of s))) (are_take w (drop at (bits_of s)) (are_drop at (bits_of s) (are_bits s)))) (pow_mono l)
  where
    l : length (take w (drop at (bits_of s))) ≤ w
    l = rw length-take (omega arith)

-- four bytes
pub word_four : (s : List ℕ) (q : ℕ) → word_at 4 s q ≡ ((get_or s q 0 * 256 + get_or s (q + 1) 0) * 256 + get_or s (q + 2) 0) * 256 + get_or s (q + 3) 0
unfolding word_at
word_four s q = rw add-zero (omega arith)

-- and the four behind them
pub word_eight : (s : List ℕ) (q : ℕ) → word_at 8 s q ≡ word_at 4 s q * 4294967296 + word_at 4 s (q + 4)
unfolding word_at
word_eight s q =
    let a : q + 4 + 0 ≡ q + 4 = omega arith in
    let b : q + 4 + 1 ≡ q + 5 = omega arith in
    let c : q + 4 + 2 ≡ q + 6 = omega arith in
    let d : q + 4 + 3 ≡ q + 7 = omega arith in
    rw (a, b, c, d) (omega arith)

-- bits within the first part of a row
within : (fs rs : Bits) (o w : ℕ) → o + w ≤ length fs → take w (drop o (fs ++ rs)) ≡ take w (drop o fs)
within fs rs o w l = rw (drop-append-le o fs rs (omega arith)) (take-append-le w (drop o fs) rs (rw length-drop (omega arith)))

-- the bits of one byte
byte_bits : (s : List ℕ) (j : ℕ) → j < length s → take 8 (drop (8 * j) (bits_of s)) ≡ field 8 (get_or s j 0)
unfolding bits_of
byte_bits s j h =
    ap (take 8) (drop_bits j s ∙ ap bits_of (drop-cons s j 0 h))
    ∙ take_at (field 8 (get_or s j 0)) (bits_of (drop (suc j) s)) 8 (length_field 8 (get_or s j 0))

-- the number of the bits of k bytes
word_number : (k : ℕ) (s : List ℕ) (q : ℕ) → ((i : ℕ) → get_or s i 0 < 256) → q + k ≤ length s
    → number (take (8 * k) (drop (8 * q) (bits_of s))) ≡ word_at k s q
unfolding word_at number
word_number zero s q b l = refl
word_number (suc k) s q b l =
    ap (λ (n : ℕ). number (take n (drop (8 * q) (bits_of s)))) more
    ∙ ap number (take-add (8 * k) 8 (drop (8 * q) (bits_of s)))
    ∙ number_append (take (8 * k) (drop (8 * q) (bits_of s))) (take 8 (drop (8 * k) (drop (8 * q) (bits_of s))))
    ∙ rw (last, length_field 8 (get_or s (q + k) 0), number_of_field 8 (get_or s (q + k) 0) (b (q + k)), word_number k s q b (omega arith))
  where
    more : 8 * suc k ≡ 8 * k + 8
    more = omega arith

    place : 8 * q + 8 * k ≡ 8 * (q + k)
    place = omega arith

    last : take 8 (drop (8 * k) (drop (8 * q) (bits_of s))) ≡ field 8 (get_or s (q + k) 0)
    last =
        ap (take 8) (drop-drop (8 * k) (8 * q) (bits_of s) ∙ ap (λ (n : ℕ). drop n (bits_of s)) place)
        ∙ byte_bits s (q + k) (omega arith)

-- zero bytes behind the end change no byte
zeros_at : (k i : ℕ) → ◌≡◌ {A = ℕ} (get_or (replicate k 0) i 0) 0
zeros_at zero i = refl
zeros_at (suc k) zero = refl
zeros_at (suc k) (suc i) = zeros_at k i

padded_at : (s : List ℕ) (k i : ℕ) → get_or (s ++ replicate k 0) i 0 ≡ get_or s i 0
padded_at [] k i = zeros_at k i
padded_at (b ∷ s) k zero = refl
padded_at (b ∷ s) k (suc i) = padded_at s k i

padded_word : (k : ℕ) (s : List ℕ) (j q : ℕ) → word_at k (s ++ replicate j 0) q ≡ word_at k s q
unfolding word_at
padded_word zero s j q = refl
padded_word (suc k) s j q = ap₂ (λ (x y : ℕ). x * 256 + y) (padded_word k s j q) (padded_at s j (q + k))

-- a field of w bits behind o bits of k bytes
pub value_word : (k : ℕ) (s : List ℕ) (q o w : ℕ) → ((i : ℕ) → get_or s i 0 < 256) → 8 * q + o + w ≤ 8 * length s → o + w ≤ 8 * k
    → value_at s (8 * q + o) w ≡ word_at k s q / 2 ^ (8 * k - o - w) % 2 ^ w
unfolding value_at
value_word k s q o w b l f =
    ap number (sym (within (bits_of s) (bits_of (replicate k 0)) (8 * q + o) w (rw length_bits l)))
    ∙ ap (λ (bs : Bits). number (take w (drop (8 * q + o) bs))) (sym (bits_append s (replicate k 0)))
    ∙ ap (λ (bs : Bits). number (take w bs)) (sym (drop-drop o (8 * q) all))
    ∙ ap (λ (bs : Bits). number (take w (drop o bs))) (sym (take-append-drop (8 * k) (drop (8 * q) all)))
    ∙ ap number (within word (drop (8 * k) (drop (8 * q) all)) o w (rw size f))
    ∙ number_part word o w (are_take (8 * k) (drop (8 * q) all) (are_drop (8 * q) all (are_bits (s ++ replicate k 0)))) (rw size f)
    ∙ rw (size, word_number k (s ++ replicate k 0) q (λ i. rw padded_at (b i)) (rw (length-append, length-replicate) (omega arith)), padded_word k s k q)
  where
    all : Bits
    all = bits_of (s ++ replicate k 0)

    word : Bits
    word = take (8 * k) (drop (8 * q) all)

    size : length word ≡ 8 * k
    size = rw (length-take, length-drop, length_bits, length-append, length-replicate) (omega arith)
