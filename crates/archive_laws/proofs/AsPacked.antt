-- "Demands 2 and 3 read archive records as packed records with that n": the packed record of the fields in an archive's record, and what unpacking
-- makes of it. Main results: unpack_packed, read_as_packed, packed_of_bare.
use Rattle.std.specs.Prelude.{◌≡◌, Bool, false, List, ◌++◌, ℕ, suc, ◌+◌, ◌-◌, ◌*◌, ◌≤◌, length, take, drop, replicate}
use Rattle.std.proofs.Math.Path.{refl, ap}
use Rattle.std.proofs.Common.{sym, ◌∙◌, append_assoc, arith, length-append, length-drop, take-append-drop, length-take-le}
use Rattle.std.proofs.Math.Option.{Option, none, some}
use Rattle.std.proofs.Math.Seq.{take_at, drop_at}
use Rattle.std.proofs.lemmas.List.{take-append-le, drop-append-le}
use Rattle.rules.specs.Vector.{fault}
use Rattle.rules.specs.Record.{Bits, width, total, record_length, field, number, fields, bytes_of, record_of, bits_of, leaf_count, entry_in, entries_in, entries_of, padding_in, padding, any_set}
use Rattle.rules.specs.Archive.{trees_in, bare_length, bare_record, record_at, packed_at}
use Rattle.rules.specs.Answer.{made}
use Rattle.rules.specs.Guards.{refuse_if, refuse_at}
use Rattle.rules.specs.CallUnpack.{from_bits, from_entries, unpack}
use Rattle.rules.specs.CallReadTree.{read_tree}
use Rattle.basics.proofs.Listed.{listed_cong}
use Rattle.accepting.proofs.Guards.{some_leaves, right_length}
use Rattle.record_laws.specs.Number.{AreBits}
use Rattle.record_laws.proofs.Number.{are_take, are_append, are_field, length_field, number_of_field}
use Rattle.record_laws.proofs.Bytes.{are_bits, length_bits, length_bytes, bits_of_bytes}
use Rattle.record_laws.proofs.Width.{total_zero, total_suc, total_mono, record_length_least, record_length_bits}
use Rattle.record_laws.proofs.FromRecord.{counted}
use Rattle.record_laws.specs.Inverse.{row}
use Rattle.record_laws.proofs.Inverse.{row_length, zeros_unset}
use Rattle.archive_laws.specs.Bare.{bare_pad}
use Rattle.archive_laws.proofs.Bare.{bare_length_bits}
use Rattle.archive_laws.proofs.BareFields.{bare_bits}
use Rattle.archive_laws.specs.Reader.{HasTree}
use Rattle.archive_laws.proofs.Reader.{record_size, reader_inside}
use Rattle.archive_laws.specs.AsPacked.{as_packed, then_padding}

-- of bits that begin with n and have all the fields
module _ (n : ℕ) (bs rest : Bits) (begins : bs ≡ field 11 n ++ rest) (are : AreBits bs) (long : total n ≤ length bs) where
  used : length (take (total n) bs) ≡ total n
  used = length-take-le (total n) bs long

  behind : Bits
  behind = replicate (8 * record_length n - total n) 0

  packed_bits : bits_of (as_packed n bs) ≡ take (total n) bs ++ behind
  unfolding as_packed behind
  packed_bits = rw used at (bits_of_bytes (record_length n) (take (total n) bs) (are_take (total n) bs are) (rw used (record_length_bits n).0))

  packed_length : length (as_packed n bs) ≡ record_length n
  unfolding as_packed
  packed_length = length_bytes (record_length n) (take (total n) bs)

  -- a part of the bits before the padding
  same_part : (o w : ℕ) → o + w ≤ total n → take w (drop o (bits_of (as_packed n bs))) ≡ take w (drop o bs)
  same_part o w l =
      ap (λ (cs : Bits). take w (drop o cs)) packed_bits
      ∙ within (take (total n) bs) behind (omega (arith, used))
      ∙ sym (within (take (total n) bs) (drop (total n) bs) (omega (arith, used)))
      ∙ ap (λ (cs : Bits). take w (drop o cs)) (take-append-drop (total n) bs)
    where
      within : (fs gs : Bits) → o + w ≤ length fs → take w (drop o (fs ++ gs)) ≡ take w (drop o fs)
      within fs gs h = rw (drop-append-le o fs gs (omega arith)) (take-append-le w (drop o fs) gs (rw length-drop (omega arith)))

  packed_count : n ≤ 1024 → leaf_count (as_packed n bs) ≡ n
  unfolding leaf_count
  packed_count l =
      let least : 11 ≤ total n = rw total_zero at (total_mono 0 n (omega arith)) in
      ap number (same_part 0 11 (omega arith) ∙ ap (take 11) begins ∙ take_at (field 11 n) rest 11 (length_field 11 n))
      ∙ number_of_field 11 n (omega arith)

  -- the same entries stand in both
  packed_entries : entries_of n (as_packed n bs) ≡ entries_in n bs
  unfolding entries_of entries_in entry_in
  packed_entries =
      listed_cong n (entry_in (bits_of (as_packed n bs))) (entry_in bs)
      (λ i h. ap number (same_part (total i) (width i) (omega (arith, total_suc i, total_mono (suc i) n h))))

  packed_padding : any_set (padding n (as_packed n bs)) ≡ false
  unfolding padding padding_in behind
  packed_padding =
      ap any_set (ap (drop (total n)) packed_bits ∙ drop_at (take (total n) bs) behind (total n) used)
      ∙ zeros_unset (8 * record_length n - total n)

  -- what unpacking makes of the packed record: 4, or the entries
  pub unpack_packed : 1 ≤ n → n ≤ 1024 → unpack (as_packed n bs) ≡ refuse_at 4 (fault 0 (entries_in n bs)) (made (entries_in n bs))
  unfolding from_entries from_bits refuse_if entries_of padding
  unpack_packed l h =
      counted (as_packed n bs) n (rw packed_length (record_length_least n)) (sym (packed_count h))
      ∙ some_leaves n _ l h
      ∙ right_length (record_length n) (length (as_packed n bs)) _ packed_length
      ∙ rw (packed_entries, packed_padding) refl

padding_last : (place : ℕ) (set : Bool) (o : Option ℕ) (v : List ℕ)
    → refuse_at 4 o (refuse_if set 10 place (made v)) ≡ then_padding set place (refuse_at 4 o (made v))
unfolding then_padding refuse_at
padding_last place set none v = refl
padding_last place set (some i) v = refl

-- What the reader makes of tree r is what unpacking makes of that packed record, but for the padding, which is the archive record's own: it may
-- have more or fewer bits, and its place is that record's last byte.
pub read_as_packed : (s : List ℕ) (r : ℕ) → HasTree s r
    → read_tree s r ≡ then_padding (any_set (padding_in (leaf_count s) (packed_at (leaf_count s) s r))) (bare_length (leaf_count s) - 1)
    (unpack (as_packed (leaf_count s) (packed_at (leaf_count s) s r)))
unfolding from_bits packed_at
read_as_packed s r F =
    reader_inside s r F
    ∙ padding_last _ (any_set (padding_in (leaf_count s) (packed_at (leaf_count s) s r))) (fault 0 (entries_in (leaf_count s) (packed_at (leaf_count s) s r))) _
    ∙ ap (then_padding _ _) (sym (unpack_packed (leaf_count s) (packed_at (leaf_count s) s r) _ refl are long F.some_leaf F.few))
  where
    are : AreBits (packed_at (leaf_count s) s r)
    are =
        are_append (field 11 (leaf_count s)) (bits_of (record_at (leaf_count s) s r)) (are_field 11 (leaf_count s)) (are_bits (record_at (leaf_count s) s r))

    long : total (leaf_count s) ≤ length (packed_at (leaf_count s) s r)
    long =
        rw (length-append, length_field, length_bits, record_size (leaf_count s) (trees_in s) s r (omega (arith, F.whole)) F.below)
        (omega (arith, (bare_length_bits (leaf_count s)).0))

-- of a vector's record without its n it is the vector's packed record
pub packed_of_bare : (v : List ℕ) → as_packed (length v) (field 11 (length v) ++ bits_of (bare_record v)) ≡ record_of v
unfolding as_packed record_of
packed_of_bare v =
    ap (λ (bs : Bits). bytes_of (record_length (length v)) (take (total (length v)) bs))
    (ap (◌++◌ (field 11 (length v))) (bare_bits v) ∙ sym (append_assoc (field 11 (length v)) (fields 0 v) (bare_pad (length v))))
    ∙ ap (bytes_of (record_length (length v))) (take_at (row v) (bare_pad (length v)) (total (length v)) (row_length v))
