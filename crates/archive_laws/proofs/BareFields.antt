-- What the length of a record without its n gives: its bits, its entries, its padding.
-- Main results: bare_bits, entries_bare, padding_bare, from_bare.
use Rattle.std.specs.Prelude.{◌≡◌, false, List, ◌++◌, ℕ, ◌-◌, ◌*◌, length}
use Rattle.std.proofs.Math.Path.{sym, ap}
use Rattle.std.proofs.Common.{◌∙◌, append_assoc, drop_at}
use Rattle.std.proofs.Math.ListN.{drop}
use Rattle.rules.specs.Vector.{Valid}
use Rattle.rules.specs.Record.{total, field, fields, bits_of, entries_in, padding_in, any_set}
use Rattle.rules.specs.Archive.{field_bits, bare_length, bare_record}
use Rattle.rules.specs.Answer.{made}
use Rattle.rules.specs.CallUnpack.{from_bits}
use Rattle.basics.proofs.Fault.{valid_no_fault}
use Rattle.record_laws.proofs.Number.{length_field}
use Rattle.record_laws.proofs.Bytes.{bits_of_bytes}
use Rattle.record_laws.proofs.Fields.{are_fields, entries_of_fields}
use Rattle.record_laws.proofs.FromBits.{bits_accepted}
use Rattle.record_laws.specs.Inverse.{row}
use Rattle.record_laws.proofs.Inverse.{row_length, zeros_unset, valid_fit}
use Rattle.archive_laws.specs.Bare.{bare_pad}
use Rattle.archive_laws.proofs.Bare.{bare_length_bits, length_all_fields}

pub bare_bits : (v : List ℕ) → bits_of (bare_record v) ≡ fields 0 v ++ bare_pad (length v)
unfolding bare_record
bare_bits v =
    rw length_all_fields at
    (bits_of_bytes (bare_length (length v)) (fields 0 v) (are_fields 0 v) (rw length_all_fields (bare_length_bits (length v)).0))

-- the same behind n: the bits of a record
packed_bits : (v : List ℕ) → field 11 (length v) ++ bits_of (bare_record v) ≡ field 11 (length v) ++ (fields 0 v ++ bare_pad (length v))
packed_bits v = ap (◌++◌ (field 11 (length v))) (bare_bits v)

pub entries_bare : (v : List ℕ) → Valid v → entries_in (length v) (field 11 (length v) ++ bits_of (bare_record v)) ≡ v
unfolding entries_in
entries_bare v h =
    ap (entries_in (length v)) (packed_bits v)
    ∙ entries_of_fields (field 11 (length v)) (bare_pad (length v)) v (length_field 11 (length v)) (valid_fit v h)

pub padding_bare : (v : List ℕ) → any_set (padding_in (length v) (field 11 (length v) ++ bits_of (bare_record v))) ≡ false
unfolding padding_in
padding_bare v =
    ap any_set (ap (drop (total (length v))) (packed_bits v ∙ sym (append_assoc (field 11 (length v)) (fields 0 v) (bare_pad (length v))))
    ∙ drop_at (row v) (bare_pad (length v)) (total (length v)) (row_length v))
    ∙ zeros_unset (8 * bare_length (length v) - field_bits (length v))

-- a record without its n makes its vector
pub from_bare : (v : List ℕ) (last : ℕ) → Valid v → from_bits (length v) last (field 11 (length v) ++ bits_of (bare_record v)) ≡ made v
from_bare v last h =
    let e = entries_bare v h in
    bits_accepted (length v) last (field 11 (length v) ++ bits_of (bare_record v)) (rw e (valid_no_fault v h)) (padding_bare v) ∙ ap made e
