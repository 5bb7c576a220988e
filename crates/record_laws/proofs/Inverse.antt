-- Packing and unpacking are inverse: unpacking gives back each valid vector of up to 1,024 entries from its record, and it accepts these records and
-- no others. Main results: length_record, record_bits, unpack_record, accepted_exactly.
use Rattle.std.specs.Prelude.{◌≡◌, refl, false, List, [], ◌∷◌, ◌++◌, ◌↔◌, ℕ, zero, suc, ◌+◌, ◌-◌, ◌*◌, ◌≤◌, length, take, drop, get_or, replicate}
use Rattle.std.proofs.Common.{sym, ap, ap₂, ◌∙◌, true≢false, append_assoc, zero-add, arith, length-append, length-take, length-drop, take-append-drop, take_at, drop_at, take-add}
use Rattle.rules.specs.Vector.{entry, Valid, fault, Vector}
use Rattle.rules.specs.Order.{listed}
use Rattle.rules.specs.Record.{Bits, total, record_length, field, number, fields, bytes_of, record_of, bits_of, leaf_count, entry_in, entries_of, any_set, padding}
use Rattle.rules.specs.Answer.{made}
use Rattle.rules.specs.CallUnpack.{unpack}
use Rattle.basics.proofs.Listed.{length_listed}
use Rattle.basics.proofs.Fault.{valid_no_fault}
use Rattle.record_laws.specs.Number.{AreBits}
use Rattle.record_laws.proofs.Number.{are_append, are_take, are_drop, are_field, length_field, number_of_field, field_of}
use Rattle.record_laws.specs.Bytes.{AreBytes}
use Rattle.record_laws.proofs.Bytes.{are_bits, length_bits, length_bytes, bits_of_bytes, bytes_unique}
use Rattle.record_laws.proofs.Width.{width_fits, total_zero, total_mono, record_length_least, record_length_bits}
use Rattle.record_laws.specs.FromRecord.{Accepted}
use Rattle.record_laws.proofs.FromRecord.{record_accepted, only_accepted, unpacked_vector}
use Rattle.record_laws.specs.Fields.{Fit}
use Rattle.record_laws.proofs.Fields.{are_fields, length_fields, entries_of_fields, fields_of_entries}
use Rattle.record_laws.specs.Inverse.{row, pad}

-- bits of which none is set are zero bits
pub zeros_unset : (k : ℕ) → any_set (replicate k 0) ≡ false
unfolding any_set
zeros_unset zero = refl
zeros_unset (suc k) = zeros_unset k

pub unset_zeros : (bs : Bits) → AreBits bs → any_set bs ≡ false → bs ≡ replicate (length bs) 0
unfolding AreBits any_set
unset_zeros [] h e = refl
unset_zeros (zero ∷ bs) h e = ap (◌∷◌ 0) (unset_zeros bs h.1 e)
unset_zeros (suc zero ∷ bs) h e = absurd (true≢false e)
unset_zeros (suc (suc b) ∷ bs) h e = absurd (omega (arith, h.0))

pub length_record : (v : List ℕ) → length (record_of v) ≡ record_length (length v)
unfolding record_of
length_record v = length_bytes (record_length (length v)) (field 11 (length v) ++ fields 0 v)

pub row_length : (v : List ℕ) → length (row v) ≡ total (length v)
row_length v = rw (length-append, length_field) (rw (total_zero, zero-add) at (length_fields 0 v))

row_bits : (v : List ℕ) → AreBits (row v)
row_bits v = are_append (field 11 (length v)) (fields 0 v) (are_field 11 (length v)) (are_fields 0 v)

-- the bits of a record: n, the fields, and zero bits
pub record_bits : (v : List ℕ) → bits_of (record_of v) ≡ (field 11 (length v) ++ fields 0 v) ++ pad (length v)
unfolding record_of
record_bits v =
    rw row_length at
    (bits_of_bytes (record_length (length v)) (row v) (row_bits v) (rw row_length (record_length_bits (length v)).0))

-- a valid vector's entries fit their fields
pub valid_fit : (v : List ℕ) → Valid v → Fit v
unfolding Fit entry
valid_fit v h k l = width_fits k (get_or v k 0) (h.bounded k l)

count_number : (v : List ℕ) → length v ≤ 1024 → number (take 11 (bits_of (record_of v))) ≡ length v
count_number v l =
    ap (λ (bs : Bits). number (take 11 bs)) (record_bits v ∙ append_assoc (field 11 (length v)) (fields 0 v) (pad (length v)))
    ∙ ap number (take_at (field 11 (length v)) (fields 0 v ++ pad (length v)) 11 (length_field 11 (length v)))
    ∙ number_of_field 11 (length v) (omega arith)

-- the leaf count, the entries and the padding of a vector's record
pub leaf_count_record : (v : List ℕ) → length v ≤ 1024 → leaf_count (record_of v) ≡ length v
unfolding leaf_count
leaf_count_record v l = count_number v l

pub entries_record : (v : List ℕ) → Valid v → entries_of (length v) (record_of v) ≡ v
unfolding entries_of
entries_record v h =
    ap (λ (bs : Bits). listed (length v) (entry_in bs))
    (record_bits v ∙ append_assoc (field 11 (length v)) (fields 0 v) (pad (length v)))
    ∙ entries_of_fields (field 11 (length v)) (pad (length v)) v (length_field 11 (length v)) (valid_fit v h)

pub padding_record : (v : List ℕ) → any_set (padding (length v) (record_of v)) ≡ false
unfolding padding
padding_record v =
    ap any_set (ap (drop (total (length v))) (record_bits v)
    ∙ drop_at (row v) (pad (length v)) (total (length v)) (row_length v))
    ∙ zeros_unset (8 * record_length (length v) - total (length v))

-- nothing is wrong in it
packed_accepted : (v : List ℕ) → Vector v → Accepted (record_of v) (length v)
packed_accepted v P = record {
  headed = record {
    two_bytes = rw length_record (record_length_least (length v));
    count = sym (leaf_count_record v P.few);
    some_leaf = P.valid.some_leaf;
    few = P.few;
    whole = length_record v;
  };
  within = ap (fault 0) (entries_record v P.valid) ∙ valid_no_fault v P.valid;
  unset = padding_record v;
}

-- unpacking a vector's record gives the vector
pub unpack_record : (v : List ℕ) → Vector v → unpack (record_of v) ≡ made v
unpack_record v P = record_accepted (record_of v) (length v) (packed_accepted v P) ∙ ap made (entries_record v P.valid)

-- a record with the leaf count n, of the right length and with no padding bit set, is the record of its entries
record_of_entries : (s : List ℕ) (n : ℕ) → AreBytes s → leaf_count s ≡ n → length s ≡ record_length n → any_set (padding n s) ≡ false
    → record_of (entries_of n s) ≡ s
unfolding record_of entries_of leaf_count padding
record_of_entries s n h c l p =
    rw (length_listed n (entry_in (bits_of s)), ← l)
    (ap (bytes_of (length s)) bits ∙ bytes_unique s (take (total n) (bits_of s)) h (are_take (total n) (bits_of s) (are_bits s)) short whole)
  where
    fits : total n ≤ length (bits_of s)
    fits = rw (length_bits s, l) (record_length_bits n).0

    size : length (take (total n) (bits_of s)) ≡ total n
    size = rw length-take (omega (arith, fits))

    least : 11 ≤ total n
    least = rw total_zero at (total_mono 0 n (omega arith))

    short : length (take (total n) (bits_of s)) ≤ 8 * length s
    short = rw (size, ← length_bits s) fits

    first : field 11 n ≡ take 11 (bits_of s)
    first = rw (← c) (field_of 11 (take 11 (bits_of s)) (rw length-take (omega (arith, fits, least))) (are_take 11 (bits_of s) (are_bits s)))

    bits : field 11 n ++ fields 0 (listed n (entry_in (bits_of s))) ≡ take (total n) (bits_of s)
    bits =
        let e : 11 + (total n - 11) ≡ total n = omega (arith, least) in
        ap₂ ◌++◌ first (fields_of_entries (bits_of s) (are_bits s) n fits) ∙ sym (take-add 11 (total n - 11) (bits_of s)) ∙ ap (λ (k : ℕ). take k (bits_of s)) e

    rest : drop (total n) (bits_of s) ≡ replicate (8 * length s - length (take (total n) (bits_of s))) 0
    rest =
        let e : length (drop (total n) (bits_of s)) ≡ 8 * length s - length (take (total n) (bits_of s)) = rw (length-drop, size, length_bits s) refl in
        unset_zeros (drop (total n) (bits_of s)) (are_drop (total n) (bits_of s) (are_bits s)) p ∙ ap (λ (k : ℕ). replicate k 0) e

    whole : bits_of s ≡ take (total n) (bits_of s) ++ replicate (8 * length s - length (take (total n) (bits_of s))) 0
    whole = sym (take-append-drop (total n) (bits_of s)) ∙ ap (◌++◌ (take (total n) (bits_of s))) rest

-- a record that is accepted is the record of the vector that it gives
accepted : (s v : List ℕ) → AreBytes s → unpack s ≡ made v → Vector v × (s ≡ record_of v)
accepted s v h e =
    let (A, same) = only_accepted s v e in
    (unpacked_vector s v e, sym (record_of_entries s (leaf_count s) h refl A.headed.whole A.unset) ∙ ap record_of same)

-- unpacking accepts exactly the records of valid vectors of up to 1,024 entries
pub accepted_exactly : (s v : List ℕ) → AreBytes s → (unpack s ≡ made v) ↔ (Vector v × (s ≡ record_of v))
accepted_exactly s v h = (accepted s v h, λ p. ap unpack p.1 ∙ unpack_record v p.0)
