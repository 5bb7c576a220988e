-- Unpack: "2 (under 2 bytes, place 2), 1, 2 (not the record's byte length), 4, 10, 3".
-- Main definitions: from_bits, from_entries, unpack, unpack_call.
use Rattle.std.specs.Prelude.{List, ℕ, ◌-◌, ltb, length}
use Rattle.rules.specs.Vector.{fault}
use Rattle.rules.specs.Record.{Bits, record_length, bits_of, leaf_count, entries_in, padding_in, any_set}
use Rattle.rules.specs.Answer.{Made, made}
use Rattle.rules.specs.Guards.{refuse_if, refuse_at, refuse_count, refuse_length}
use Rattle.rules.specs.Promise.{Call, makes, list}

-- what the entries and the padding in the bits of a record of n leaves make; "4, 10", which points at the last byte
unfoldable pub from_bits : ℕ → ℕ → Bits → Made
unfolding refuse_at refuse_if fault entries_in any_set padding_in
from_bits n last bs =
    refuse_at 4 (fault 0 (entries_in n bs)) (refuse_if (any_set (padding_in n bs)) 10 last (made (entries_in n bs)))

unfoldable pub from_entries : ℕ → List ℕ → Made
unfolding from_bits bits_of
from_entries n s = from_bits n (length s - 1) (bits_of s)

unfoldable pub unpack : List ℕ → Made
unfolding refuse_if refuse_count refuse_length from_entries leaf_count record_length
unpack s =
    refuse_if (ltb (length s) 2) 2 2
    (refuse_count (leaf_count s) (refuse_length (record_length (leaf_count s)) (length s) (from_entries (leaf_count s) s)))

abbrev pub unpack_call : List ℕ → Call (List ℕ) (List ℕ)
unpack_call s = makes list (unpack s)
