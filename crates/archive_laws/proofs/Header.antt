-- The header: it is read back, and it is read from the first four bytes alone.
-- Main results: length_header, leaves_read, trees_read, leaves_first, trees_first, leaves_lt, trees_lt, header_again.
use Rattle.std.specs.Prelude.{◌≡◌, refl, List, [], ◌∷◌, ◌++◌, ℕ, zero, suc, ◌+◌, ◌-◌, ◌*◌, ◌≤◌, ◌<◌, length, take, drop, replicate}
use Rattle.std.proofs.Common.{sym, ap, ap₂, ◌∙◌, append_assoc, append-nil, arith, length-append, length-take, length-drop, take_at, drop_at, take-add, take-take, length-take-le, take_all}
use Rattle.std.proofs.Math.Seq.{take-append-add, take-nil}
use Rattle.rules.specs.Record.{Bits, field, number, bytes_of, bits_of, leaf_count}
use Rattle.record_laws.proofs.Number.{are_append, are_take, are_drop, are_field, length_field, number_of_field, field_of}
use Rattle.record_laws.specs.Bytes.{AreBytes}
use Rattle.record_laws.proofs.Bytes.{are_bits, length_bits, length_bytes, bits_append, bits_of_bytes, bytes_of_bits}
use Rattle.record_laws.specs.Window.{value_at}
use Rattle.record_laws.proofs.Window.{value_lt}
use Rattle.rules.specs.Archive.{header, trees_in}

pub length_header : (n count : ℕ) → length (header n count) ≡ 4
unfolding header
length_header n count = length_bytes 4 (field 11 n ++ field 21 count)

header_row : (n count : ℕ) → length (field 11 n ++ field 21 count) ≡ 32
header_row n count = rw (length-append, length_field 11 n, length_field 21 count) refl

pub header_bits : (n count : ℕ) → bits_of (header n count) ≡ field 11 n ++ field 21 count
unfolding header
header_bits n count =
    bits_of_bytes 4 (field 11 n ++ field 21 count) (are_append (field 11 n) (field 21 count) (are_field 11 n) (are_field 21 count))
    (omega (arith, header_row n count))
    ∙ ap (λ (k : ℕ). (field 11 n ++ field 21 count) ++ replicate (32 - k) 0) (header_row n count)
    ∙ append-nil (field 11 n ++ field 21 count)

front_bits : (n count : ℕ) (rest : List ℕ) → bits_of (header n count ++ rest) ≡ field 11 n ++ (field 21 count ++ bits_of rest)
front_bits n count rest =
    bits_append (header n count) rest ∙ ap (λ (bs : Bits). bs ++ bits_of rest) (header_bits n count)
    ∙ append_assoc (field 11 n) (field 21 count) (bits_of rest)

-- n and the tree count are read back
pub leaves_read : (n count : ℕ) (rest : List ℕ) → n < 2048 → leaf_count (header n count ++ rest) ≡ n
unfolding leaf_count
leaves_read n count rest h =
    ap (λ (bs : Bits). number (take 11 bs)) (front_bits n count rest)
    ∙ ap number (take_at (field 11 n) (field 21 count ++ bits_of rest) 11 (length_field 11 n))
    ∙ number_of_field 11 n h

pub trees_read : (n count : ℕ) (rest : List ℕ) → count < 2097152 → trees_in (header n count ++ rest) ≡ count
unfolding trees_in
trees_read n count rest h =
    ap (λ (bs : Bits). number (take 21 (drop 11 bs))) (front_bits n count rest)
    ∙ ap (λ (bs : Bits). number (take 21 bs)) (drop_at (field 11 n) (field 21 count ++ bits_of rest) 11 (length_field 11 n))
    ∙ ap number (take_at (field 21 count) (bits_of rest) 21 (length_field 21 count))
    ∙ number_of_field 21 count h

-- the bits of the first k bytes
pub take_bits : (k : ℕ) (s : List ℕ) → take (8 * k) (bits_of s) ≡ bits_of (take k s)
unfolding bits_of
take_bits zero s = refl
take_bits (suc k) [] = take-nil (8 * suc k)
take_bits (suc k) (b ∷ s) =
    let e : 8 * suc k ≡ length (field 8 b) + 8 * k = omega (arith, length_field 8 b) in
    rw (e, take-append-add (field 8 b) (bits_of s) (8 * k)) (ap (◌++◌ (field 8 b)) (take_bits k s))

take_drop : {A : Type 0} (k w : ℕ) (bs : List A) → take w (drop k bs) ≡ drop k (take (k + w) bs)
take_drop zero w bs = let e : 0 + w ≡ w = omega arith in rw e
take_drop (suc k) w [] = let e : suc k + w ≡ suc (k + w) = omega arith in rw e (take-nil w)
take_drop (suc k) w (b ∷ bs) = let e : suc k + w ≡ suc (k + w) = omega arith in rw e (take_drop k w bs)

-- both are read from the first four bytes
pub leaves_first : (s : List ℕ) → leaf_count s ≡ leaf_count (take 4 s)
unfolding leaf_count
leaves_first s =
    ap number (sym (take-take 11 32 (bits_of s) (omega arith)) ∙ ap (take 11) (take_bits 4 s))

pub trees_first : (s : List ℕ) → trees_in s ≡ trees_in (take 4 s)
unfolding trees_in
trees_first s =
    ap number (take_drop 11 21 (bits_of s) ∙ ap (drop 11) (take_bits 4 s ∙ sym (take_all 32 (bits_of (take 4 s)) l)) ∙ sym (take_drop 11 21 (bits_of (take 4 s))))
  where
    l : length (bits_of (take 4 s)) ≤ 32
    l = rw (length_bits, length-take) (omega arith)

pub leaves_lt : (s : List ℕ) → leaf_count s < 2048
unfolding leaf_count value_at
leaves_lt s = value_lt s 0 11

pub trees_lt : (s : List ℕ) → trees_in s < 2097152
unfolding trees_in value_at
trees_lt s = value_lt s 11 21

-- the header of what is read is the first four bytes
pub header_again : (s : List ℕ) → AreBytes (take 4 s) → 4 ≤ length s → header (leaf_count s) (trees_in s) ≡ take 4 s
unfolding header leaf_count trees_in
header_again s h l =
    ap (bytes_of 4) (ap₂ ◌++◌ first second ∙ sym (take-add 11 21 (bits_of s)) ∙ take_bits 4 s)
    ∙ ap (λ (k : ℕ). bytes_of k (bits_of (take 4 s))) (sym four) ∙ bytes_of_bits (take 4 s) h
  where
    four : length (take 4 s) ≡ 4
    four = length-take-le 4 s l

    first : field 11 (number (take 11 (bits_of s))) ≡ take 11 (bits_of s)
    first = field_of 11 (take 11 (bits_of s)) (rw (length-take, length_bits) (omega arith)) (are_take 11 (bits_of s) (are_bits s))

    second : field 21 (number (take 21 (drop 11 (bits_of s)))) ≡ take 21 (drop 11 (bits_of s))
    second =
        field_of 21 (take 21 (drop 11 (bits_of s))) (rw (length-take, length-drop, length_bits) (omega arith))
        (are_take 21 (drop 11 (bits_of s)) (are_drop 11 (bits_of s) (are_bits s)))
