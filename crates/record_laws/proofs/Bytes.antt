-- Bits in bytes: packing bits into bytes and taking the bits of bytes are inverse, up to zero bits at the end. Main results: bytes_of_bits,
-- bits_of_bytes, bytes_unique, bytes_snoc, bytes_take, word_byte.
use Rattle.std.specs.Prelude.{◌≡◌, refl, List, [], ◌∷◌, ◌++◌, ℕ, zero, suc, ◌+◌, ◌-◌, ◌*◌, ◌/◌, ◌%◌, ◌^◌, ◌≤◌, length, take, drop, replicate}
use Rattle.std.proofs.Common.{sym, ap, ap₂, ◌∙◌, append_assoc, zero-add, arith, length-append, length-take, length-drop, drop-drop, take_at, drop_at}
use Rattle.std.proofs.lemmas.List.{length-replicate, take-append-le, drop-append-le}
use Rattle.std.proofs.Math.Seq.{drop-append_seam, drop-nil}
use Rattle.rules.specs.Record.{Bits, field, number, bytes_of, bits_of}
use Rattle.record_laws.specs.Number.{AreBits}
use Rattle.record_laws.proofs.Number.{are_append, are_take, are_drop, are_zeros, are_field, length_field, number_lt, number_of_field, number_append, number_zeros, number_part, field_of}
use Rattle.record_laws.specs.Bytes.{AreBytes, byte_at}

pub are_bits : (s : List ℕ) → AreBits (bits_of s)
unfolding AreBits bits_of
are_bits [] = tt
are_bits (b ∷ s) = are_append (field 8 b) (bits_of s) (are_field 8 b) (are_bits s)

pub length_bits : (s : List ℕ) → length (bits_of s) ≡ 8 * length s
unfolding bits_of
length_bits [] = refl
length_bits (b ∷ s) = rw (length-append (field 8 b) (bits_of s), length_field 8 b, length_bits s) (omega arith)

pub bits_append : (s t : List ℕ) → bits_of (s ++ t) ≡ bits_of s ++ bits_of t
unfolding bits_of
bits_append [] t = refl
bits_append (b ∷ s) t = rw (bits_append s t, append_assoc (field 8 b) (bits_of s) (bits_of t))

-- the bits behind k bytes are those of the bytes behind them
pub drop_bits : (k : ℕ) (s : List ℕ) → drop (8 * k) (bits_of s) ≡ bits_of (drop k s)
unfolding bits_of
drop_bits zero s = refl
drop_bits (suc k) [] = drop-nil (8 * suc k)
drop_bits (suc k) (b ∷ s) =
    let e : 8 * suc k ≡ length (field 8 b) + 8 * k = omega (arith, length_field 8 b) in
    rw (e, ← drop-drop (8 * k) (length (field 8 b)) (field 8 b ++ bits_of s), drop-append_seam (field 8 b) (bits_of s)) (drop_bits k s)

pub length_bytes : (k : ℕ) (bs : Bits) → length (bytes_of k bs) ≡ k
unfolding bytes_of
length_bytes zero bs = refl
length_bytes (suc k) bs = ap suc (length_bytes k (drop 8 bs))

-- a byte of bits that may end in it, zero bits following
length_filled : (k : ℕ) (bs : Bits) → length (take k (bs ++ replicate k 0)) ≡ k
length_filled k bs = rw (length-take, length-append, length-replicate) (omega arith)

are_filled : (k : ℕ) (bs : Bits) → AreBits bs → AreBits (take k (bs ++ replicate k 0))
are_filled k bs h = are_take k (bs ++ replicate k 0) (are_append bs (replicate k 0) h (are_zeros k))

pub are_bytes : (k : ℕ) (bs : Bits) → AreBits bs → AreBytes (bytes_of k bs)
unfolding AreBytes bytes_of
are_bytes zero bs h = tt
are_bytes (suc k) bs h =
    (rw (length_filled 8 bs) at (number_lt (take 8 (bs ++ replicate 8 0)) (are_filled 8 bs h)), are_bytes k (drop 8 bs) (are_drop 8 bs h))

-- eight bits in front are the first byte
pub bytes_cons : (k : ℕ) (f r : Bits) → length f ≡ 8 → bytes_of (suc k) (f ++ r) ≡ number f ∷ bytes_of k r
unfolding bytes_of
bytes_cons k f r e = rw (append_assoc f r (replicate 8 0), take_at f (r ++ replicate 8 0) 8 e, drop_at f r 8 e)

-- bytes are made again from their bits
pub bytes_of_bits : (s : List ℕ) → AreBytes s → bytes_of (length s) (bits_of s) ≡ s
unfolding AreBytes bytes_of bits_of
bytes_of_bits [] h = refl
bytes_of_bits (b ∷ s) h =
    bytes_cons (length s) (field 8 b) (bits_of s) (length_field 8 b) ∙ ap₂ ◌∷◌ (number_of_field 8 b h.0) (bytes_of_bits s h.1)

-- a first part filled up with zero bits, and the rest filled up, are the whole filled up
filled : (n m j : ℕ) (bs : Bits) → n ≤ j → length bs ≤ n + m
    → take n (bs ++ replicate j 0) ++ (drop n bs ++ replicate (m - length (drop n bs)) 0) ≡ bs ++ replicate (n + m - length bs) 0
filled zero m j bs h l = rw (zero-add m)
filled (suc n) m zero bs h l = absurd (omega arith)
filled (suc n) m (suc j) [] h l =
    let e : suc n + m - 0 ≡ suc (n + m - 0) = omega arith in
    let d : ◌≡◌ {A = Bits} (drop n []) [] = drop-nil n in
    rw e (ap (◌∷◌ 0) (rw d at (filled n m j [] (omega arith) (omega arith))))
filled (suc n) m (suc j) (b ∷ bs) h l =
    let e : suc n + m - suc (length bs) ≡ n + m - length bs = omega arith in
    rw e (ap (◌∷◌ b) (filled n m (suc j) bs (omega arith) (omega arith)))

-- the bits of packed bits are these, and then zero bits
pub bits_of_bytes : (k : ℕ) (bs : Bits) → AreBits bs → length bs ≤ 8 * k → bits_of (bytes_of k bs) ≡ bs ++ replicate (8 * k - length bs) 0
unfolding bytes_of bits_of
bits_of_bytes zero [] h l = refl
bits_of_bytes zero (b ∷ bs) h l = absurd (omega arith)
bits_of_bytes (suc k) bs h l =
    let e : 8 * suc k ≡ 8 + 8 * k = omega arith in
    let f : field 8 (number (take 8 (bs ++ replicate 8 0))) ≡ take 8 (bs ++ replicate 8 0) = field_of 8 (take 8 (bs ++ replicate 8 0)) (length_filled 8 bs) (are_filled 8 bs h) in
    ap₂ ◌++◌ f (bits_of_bytes k (drop 8 bs) (are_drop 8 bs h) (rw length-drop (omega arith))) ∙ rw e (filled 8 (8 * k) 8 bs (omega arith) (omega arith))

-- bytes whose bits are these and then zero bits are these bits packed
pub bytes_unique : (s : List ℕ) (bs : Bits) → AreBytes s → AreBits bs → length bs ≤ 8 * length s
    → bits_of s ≡ bs ++ replicate (8 * length s - length bs) 0 → bytes_of (length s) bs ≡ s
bytes_unique s bs h g l e =
    sym (rw (length_bytes (length s) bs) at (bytes_of_bits (bytes_of (length s) bs) (are_bytes (length s) bs g)))
    ∙ ap (bytes_of (length s)) (bits_of_bytes (length s) bs g l ∙ sym e)
    ∙ bytes_of_bits s h

-- one byte more
pub bytes_snoc : (k : ℕ) (bs : Bits) → bytes_of (suc k) bs ≡ bytes_of k bs ++ (byte_at bs k ∷ [])
unfolding bytes_of byte_at
bytes_snoc zero bs = refl
bytes_snoc (suc k) bs =
    let e : 8 * suc k ≡ 8 + 8 * k = omega arith in
    rw (e, ← drop-drop (8 * k) 8 bs) (ap (◌∷◌ (number (take 8 (bs ++ replicate 8 0)))) (bytes_snoc k (drop 8 bs)))

-- whole bytes do not change when bits follow
pub bytes_prefix : (k : ℕ) (bs cs : Bits) → 8 * k ≤ length bs → bytes_of k (bs ++ cs) ≡ bytes_of k bs
unfolding bytes_of
bytes_prefix zero bs cs h = refl
bytes_prefix (suc k) bs cs h = ap₂ ◌∷◌ (ap number first) (ap (bytes_of k) (drop-append-le 8 bs cs l) ∙ bytes_prefix k (drop 8 bs) cs (rw length-drop (omega arith)))
  where
    l : 8 ≤ length bs
    l = omega arith

    first : take 8 ((bs ++ cs) ++ replicate 8 0) ≡ take 8 (bs ++ replicate 8 0)
    first = rw (append_assoc bs cs (replicate 8 0)) (take-append-le 8 bs (cs ++ replicate 8 0) l ∙ sym (take-append-le 8 bs (replicate 8 0) l))

-- the first of the bytes
pub bytes_take : (j k : ℕ) (bs : Bits) → j ≤ k → take j (bytes_of k bs) ≡ bytes_of j bs
unfolding bytes_of
bytes_take zero k bs h = refl
bytes_take (suc j) zero bs h = absurd (omega arith)
bytes_take (suc j) (suc k) bs h = ap (◌∷◌ (number (take 8 (bs ++ replicate 8 0)))) (bytes_take j k (drop 8 bs) (omega arith))

take_zeros : (k n : ℕ) → k ≤ n → ◌≡◌ {A = Bits} (take k (replicate n 0)) (replicate k 0)
take_zeros zero n h = refl
take_zeros (suc k) zero h = absurd (omega arith)
take_zeros (suc k) (suc n) h = ap (◌∷◌ 0) (take_zeros k n (omega arith))

-- as many zero bits as are needed follow
zeros_enough : (m y z : ℕ) (bs : Bits) → m ≤ length bs + y → m ≤ length bs + z → take m (bs ++ replicate y 0) ≡ take m (bs ++ replicate z 0)
zeros_enough zero y z bs h g = refl
zeros_enough (suc m) y z [] h g = take_zeros (suc m) y (omega arith) ∙ sym (take_zeros (suc m) z (omega arith))
zeros_enough (suc m) y z (b ∷ bs) h g = ap (◌∷◌ b) (zeros_enough m y z bs (omega arith) (omega arith))

-- bits behind k bits, zero bits following
part_filled : (k m z : ℕ) (bs : Bits) → k + m ≤ length bs + z → take m (drop k (bs ++ replicate z 0)) ≡ take m (drop k bs ++ replicate m 0)
part_filled zero m z bs h = zeros_enough m z m bs (omega arith) (omega arith)
part_filled (suc k) m zero [] h = absurd (omega arith)
part_filled (suc k) m (suc z) [] h =
    let d : ◌≡◌ {A = Bits} (drop k []) [] = drop-nil k in
    rw d at (part_filled k m z [] (omega arith))
part_filled (suc k) m z (b ∷ bs) h = part_filled k m z bs (omega arith)

-- bytes of a word that holds bits at its high end and then zero bits
pub word_byte : (bs : Bits) (k m : ℕ) → AreBits bs → length bs ≤ 64 → 8 * k + 8 + m ≡ 64
    → number bs * 2 ^ (64 - length bs) / 2 ^ m % 256 ≡ byte_at bs k
unfolding byte_at
word_byte bs k m h l e =
    let f : 64 - 8 * k - 8 ≡ m = omega arith in
    sym
    (ap number (sym (part_filled (8 * k) 8 (64 - length bs) bs (omega arith)))
    ∙ number_part word (8 * k) 8 (are_append bs (replicate (64 - length bs) 0) h (are_zeros (64 - length bs))) (rw size (omega arith))
    ∙ rw (size, f, value))
  where
    word : Bits
    word = bs ++ replicate (64 - length bs) 0

    size : length word ≡ 64
    size = rw (length-append, length-replicate) (omega arith)

    value : number word ≡ number bs * 2 ^ (64 - length bs)
    value = number_append bs (replicate (64 - length bs) 0) ∙ rw (number_zeros (64 - length bs), length-replicate {A = ℕ} (64 - length bs) 0) (omega arith)
