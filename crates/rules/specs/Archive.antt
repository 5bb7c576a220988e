-- CR 1, the archive for one run: "n in 11 bits, tree count in 21 bits, then the records without their own n, each padded with zero bits to a
-- byte". In a record of 1 or 2 leaves there is no field, and it has no bytes.
-- Main definitions: header, trees_in, bare_record, bare_length, implied_length, archive_of, record_at, packed_at, framed.
use Rattle.std.specs.Prelude.{not, List, [], ◌∷◌, ◌++◌, ℕ, ◌+◌, ◌-◌, ◌*◌, ◌/◌, ltb, length, take, drop}
use Rattle.rules.specs.Record.{Bits, total, field, number, fields, bytes_of, bits_of}
use Rattle.rules.specs.Answer.{Making}
use Rattle.rules.specs.Guards.{refuse_if, refuse_count, refuse_length}

-- "n in 11 bits, tree count in 21 bits", most significant first
unfoldable pub header : ℕ → ℕ → List ℕ
unfolding bytes_of field
header n count = bytes_of 4 (field 11 n ++ field 21 count)

-- the tree count of an archive; its n is leaf_count, as in a record
unfoldable pub trees_in : List ℕ → ℕ
unfolding bits_of number
trees_in s = number (take 21 (drop 11 (bits_of s)))

-- the bits of the fields of n entries: those of a record before padding, without the 11 of its n
unfoldable pub field_bits : ℕ → ℕ
unfolding total
field_bits n = total n - 11

-- "each padded with zero bits to a byte": the bytes of a record without its n
unfoldable pub bare_length : ℕ → ℕ
unfolding field_bits
bare_length n = (field_bits n + 7) / 8

-- a record without its n: the fields from bit 0 on, filled up to whole bytes
unfoldable pub bare_record : List ℕ → List ℕ
unfolding bare_length bytes_of fields
bare_record v = bytes_of (bare_length (length v)) (fields 0 v)

-- the length that n and the tree count imply
unfoldable pub implied_length : ℕ → ℕ → ℕ
unfolding bare_length
implied_length n count = 4 + count * bare_length n

-- the records of vectors, one after another
unfoldable pub bare_records : List (List ℕ) → List ℕ
unfolding bare_record
bare_records [] = []
bare_records (v ∷ vs) = bare_record v ++ bare_records vs

-- the archive of vectors with n entries each
unfoldable pub archive_of : ℕ → List (List ℕ) → List ℕ
unfolding header bare_records
archive_of n vs = header n (length vs) ++ bare_records vs

-- record r of an archive of n leaves: it starts where an archive of r trees ends
unfoldable pub record_at : ℕ → List ℕ → ℕ → List ℕ
unfolding bare_length implied_length
record_at n s r = take (bare_length n) (drop (implied_length n r) s)

-- "Demands 2 and 3 read archive records as packed records with that n": n in 11 bits, then the bits of record r
unfoldable pub packed_at : ℕ → List ℕ → ℕ → Bits
unfolding field bits_of record_at
packed_at n s r = field 11 n ++ bits_of (record_at n s r)

-- what comes before a look into record r, by the archive's length, its n and its tree count: "2 under 4 bytes (place 4), 1, 2 when the length
-- is not the implied one (place: that length), 12 when r is not below the count (place r)"
unfoldable pub framed : {W : Type 0} → ℕ → ℕ → ℕ → ℕ → Making W → Making W
unfolding refuse_if refuse_count refuse_length implied_length
framed size n count r m =
    refuse_if (ltb size 4) 2 4
    (refuse_count n (refuse_length (implied_length n count) size (refuse_if (not (ltb r count)) 12 r m)))
