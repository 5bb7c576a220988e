-- Records without their n: length, bits, entries and padding, read back as those of a record that has its n. Main results: bare_length_bits,
-- length_bare, bare_bits, from_bare; entries_behind_count, padding_behind_count (where they stand).
use Rattle.std.specs.Prelude.{◌≡◌, List, ◌++◌, ℕ, ◌+◌, ◌-◌, ◌*◌, ◌≤◌, ◌<◌, length, take}
use Rattle.std.proofs.Math.Path.{sym, ap}
use Rattle.std.proofs.Common.{◌∙◌, zero-add, arith}
use Rattle.std.proofs.Math.ListN.{drop}
use Rattle.std.proofs.Math.Seq.{drop-append-add}
use Rattle.rules.specs.Record.{Bits, width, total, field, number, fields, bits_of, entry_in, entries_in, padding_in}
use Rattle.rules.specs.Archive.{field_bits, bare_length, bare_record}
use Rattle.basics.proofs.Listed.{listed_cong}
use Rattle.record_laws.proofs.Number.{length_field}
use Rattle.record_laws.proofs.Bytes.{length_bytes}
use Rattle.record_laws.specs.Window.{value_at}
use Rattle.record_laws.proofs.Width.{total_zero}
use Rattle.record_laws.specs.Fields.{entry_from, entries_from}
use Rattle.record_laws.proofs.Fields.{length_fields, total_header}

-- "each padded with zero bits to a byte"
pub bare_length_bits : (n : ℕ) → (field_bits n ≤ 8 * bare_length n) × (8 * bare_length n < field_bits n + 8)
unfolding bare_length
bare_length_bits n = (omega arith, omega arith)

pub length_bare : (v : List ℕ) → length (bare_record v) ≡ bare_length (length v)
unfolding bare_record
length_bare v = length_bytes (bare_length (length v)) (fields 0 v)

pub length_all_fields : (v : List ℕ) → length (fields 0 v) ≡ field_bits (length v)
unfolding field_bits
length_all_fields v = omega (arith, rw (total_zero, zero-add) at (length_fields 0 v))

-- behind the 11 bits of n the fields start at bit 0 of the record
module _ (n : ℕ) (s : List ℕ) where
  place_of_lem : (i : ℕ) → drop (total i) (field 11 n ++ bits_of s) ≡ drop (0 + (total i - 11)) (bits_of s)
  place_of_lem i =
      let e : total i ≡ length (field 11 n) + (total i - 11) = sym (rw length_field (total_header i)) in
      ap (λ (k : ℕ). drop k (field 11 n ++ bits_of s)) e
      ∙ drop-append-add (field 11 n) (bits_of s) (total i - 11)
      ∙ ap (λ (k : ℕ). drop k (bits_of s)) (sym (zero-add (total i - 11)))

  pub entries_behind_count : entries_from 0 n s ≡ entries_in n (field 11 n ++ bits_of s)
  unfolding entries_from entries_in value_at
  entries_behind_count =
      listed_cong n (entry_from 0 s) (entry_in (field 11 n ++ bits_of s)) (λ i h. ap (λ (bs : Bits). number (take (width i) bs)) (sym (place_of_lem i)))

  pub padding_behind_count : drop (field_bits n) (bits_of s) ≡ padding_in n (field 11 n ++ bits_of s)
  unfolding padding_in field_bits
  padding_behind_count = ap (λ (k : ℕ). drop k (bits_of s)) (sym (zero-add (total n - 11))) ∙ sym (place_of_lem n)
