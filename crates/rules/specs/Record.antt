-- The packed record: bits in a row, most significant first, filled up to whole bytes.
-- Main definitions: bits_needed, width, total, record_length, field, number, record_of, entries_in, entries_of.
use Rattle.std.specs.Prelude.{Bool, false, ◌||◌, List, [], ◌∷◌, ◌++◌, ℕ, zero, suc, ◌+◌, ◌*◌, ◌/◌, ◌%◌, ◌^◌, eqb, length, take, drop, replicate}
use Rattle.rules.specs.Vector.{bound}
use Rattle.rules.specs.Order.{listed}

-- A bit is 0 or 1.
abbrev pub Bits : Type 0
Bits = List ℕ

-- as many bits as the number x needs: none for 0, else one more than its half; looking at k bits at most
unfoldable pub bits_within : ℕ → ℕ → ℕ
bits_within zero x = 0
bits_within (suc k) zero = 0
bits_within (suc k) (suc x) = suc (bits_within k (suc x / 2))

unfoldable pub bits_needed : ℕ → ℕ
unfolding bits_within
bits_needed x = bits_within x x

-- "v(i) takes as many bits as the number 2(i-1) needs .. v(0) and v(1) take none."
unfoldable pub width : ℕ → ℕ
unfolding bits_needed bound
width i = bits_needed (bound i)

-- "The totals L(n) of bits before padding": "n in 11 bits, then v(2), v(3) .. v(n-1)"
unfoldable pub total : ℕ → ℕ
unfolding width
total zero = 11
total (suc n) = total n + width n

-- "zero bits to the end of the byte": the bytes of a record of n leaves
unfoldable pub record_length : ℕ → ℕ
unfolding total
record_length n = (total n + 7) / 8

-- the w bits of x, most significant first
unfoldable pub field : ℕ → ℕ → Bits
field zero x = []
field (suc w) x = (x / 2 ^ w % 2) ∷ field w x

-- the number that bits stand for, most significant first, behind x
unfoldable pub number_from : ℕ → Bits → ℕ
number_from x [] = x
number_from x (b ∷ bs) = number_from (2 * x + b) bs

unfoldable pub number : Bits → ℕ
unfolding number_from
number bs = number_from 0 bs

-- the fields of entries, of which the first is number i
unfoldable pub fields : ℕ → List ℕ → Bits
unfolding field width
fields i [] = []
fields i (x ∷ v) = field (width i) x ++ fields (i + 1) v

-- the first k bytes of a row of bits; where the bits end, zero bits follow
unfoldable pub bytes_of : ℕ → Bits → List ℕ
unfolding number
bytes_of zero bs = []
bytes_of (suc k) bs = number (take 8 (bs ++ replicate 8 0)) ∷ bytes_of k (drop 8 bs)

-- "Bits, most significant first: n in 11 bits, then v(2), v(3) .. v(n-1), then zero bits to the end of the byte."
unfoldable pub record_of : List ℕ → List ℕ
unfolding bytes_of record_length field fields
record_of v = bytes_of (record_length (length v)) (field 11 (length v) ++ fields 0 v)

-- the bits of bytes
unfoldable pub bits_of : List ℕ → Bits
unfolding field
bits_of [] = []
bits_of (b ∷ bs) = field 8 b ++ bits_of bs

-- the n of a record
unfoldable pub leaf_count : List ℕ → ℕ
unfolding bits_of number
leaf_count s = number (take 11 (bits_of s))

-- "Entry i starts at bit L(i)."
unfoldable pub entry_in : Bits → ℕ → ℕ
unfolding number width total
entry_in bs i = number (take (width i) (drop (total i) bs))

-- the n entries in the bits of a record
unfoldable pub entries_in : ℕ → Bits → List ℕ
unfolding listed entry_in
entries_in n bs = listed n (entry_in bs)

-- the n entries of a record
unfoldable pub entries_of : ℕ → List ℕ → List ℕ
unfolding entries_in bits_of
entries_of n s = entries_in n (bits_of s)

-- some bit is set
unfoldable pub any_set : Bits → Bool
any_set [] = false
any_set (b ∷ bs) = eqb b 1 || any_set bs

-- the bits behind the fields of n leaves, in the bits of a record
unfoldable pub padding_in : ℕ → Bits → Bits
unfolding total
padding_in n bs = drop (total n) bs

-- the bits of a record of n leaves behind its fields
unfoldable pub padding : ℕ → List ℕ → Bits
unfolding bits_of padding_in
padding n s = padding_in n (bits_of s)
