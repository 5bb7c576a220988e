-- What a record gives, by what the public call makes of it.
-- Main definition: Unpacks. Main results: length_wrong, head_right; headed_filled, entry_above, padding_set, entries_right.
use Rattle.std.specs.Prelude.{true, List, ◌≢◌, ◌≡◌, ℕ, ◌+◌, ◌-◌, ◌≤◌, length, take, Result, Ok, Err}
use Rattle.std.proofs.Math.Option.{none, some}
use Rattle.std.proofs.Common.{sym, ◌∙◌}
use Rattle.std.proofs.Math.Path.{ap}
use native.Mathlib.Omega.{arith}
use Rattle.std.proofs.Math.ListN.{drop}
use Rattle.rules.specs.Vector.{fault}
use Rattle.rules.specs.Record.{leaf_count, record_length, bits_of, entries_in, entries_of, padding_in, any_set}
use Rattle.rules.specs.Archive.{field_bits}
use Rattle.rules.specs.Answer.{made, refuses}
use Rattle.rules.specs.CallUnpack.{from_entries, unpack}
use Rattle.record_laws.specs.Fields.{entries_from}
use Rattle.record_laws.proofs.Fields.{total_header, entries_from_header}
use Rattle.record_laws.proofs.Width.{record_length_bits}
use Rattle.record_laws.specs.FromRecord.{Headed}
use Rattle.record_laws.proofs.FromRecord.{headed, wrong_record}
use Rattle.record.specs.Filled.{Filled}
use Rattle.record_entries.specs.Contains.{Contains}
use Rattle.record_entries.specs.Makes.{entry_made, padding_made, entries_made}
use Rattle.unpacking.specs.declared.RecordFault.{RecordFault}
use Rattle.unpacking.specs.declared.RecordFault.TheVariants.{Length, LeafCount, Entry, Padding}

-- each answer; vector is the array that was read into
abbrev pub Unpacks : List ℕ → List ℕ → Result ℕ RecordFault → Type 0
Unpacks s vector (Ok n) = (n ≤ length vector) × (unpack s ≡ made (take n vector))
Unpacks s vector (Err (Length wanted)) = unpack s ≡ refuses 2 wanted
Unpacks s vector (Err LeafCount) = unpack s ≡ refuses 1 0
Unpacks s vector (Err (Entry i)) = unpack s ≡ refuses 4 i
Unpacks s vector (Err (Padding place)) = unpack s ≡ refuses 10 place

-- a leaf count that is right, and the length that it wants
module _ (s : List ℕ) {n wanted : ℕ} (two_bytes : 2 ≤ length s) (count : n ≡ leaf_count s) (some_leaf : n ≢ 0) (few : n ≤ 1024)
    (long : wanted ≡ record_length n) where
  pub length_wrong : length s ≢ wanted → unpack s ≡ refuses 2 wanted
  length_wrong d = wrong_record s n two_bytes count (omega (arith, some_leaf)) few (λ e. d (e ∙ sym long)) ∙ ap (refuses 2) (sym long)

  pub head_right : length s ≡ wanted → Headed s n
  head_right e =
      record { two_bytes = two_bytes; count = count; some_leaf = omega (arith, some_leaf); few = few; whole = e ∙ long }

-- a record with the length that its n fixes: what its bytes contain from bit 11 on
module _ (s : List ℕ) (n : ℕ) (H : Headed s n) where
  pub headed_filled : Filled s 11 n
  unfolding field_bits
  headed_filled =
      let e = total_header n in
      let k = record_length_bits n in
      let w = H.whole in
      record { some_leaf = H.some_leaf; few = H.few; near = omega arith; inside = omega arith; last = omega arith }

  entries : entries_from 11 n s ≡ entries_in n (bits_of s)
  unfolding entries_of
  entries = entries_from_header n s

  behind : drop (11 + field_bits n) (bits_of s) ≡ padding_in n (bits_of s)
  unfolding field_bits padding_in
  behind = ap (λ (k : ℕ). drop k (bits_of s)) (total_header n)

  pub entry_above : (i : ℕ) → fault 0 (entries_from 11 n s) ≡ some i → unpack s ≡ refuses 4 i
  unfolding from_entries
  entry_above i h = headed s n H ∙ entry_made s 11 n (length s - 1) (bits_of s) entries behind i h

  pub padding_set : (fault 0 (entries_from 11 n s) ≡ none) × (any_set (drop (11 + field_bits n) (bits_of s)) ≡ true) → unpack s ≡ refuses 10 (length s - 1)
  unfolding from_entries
  padding_set h = headed s n H ∙ padding_made s 11 n (length s - 1) (bits_of s) entries behind h

  pub entries_right : (xs : List ℕ) → Contains s 11 n xs (Ok tt) → (n ≤ length xs) × (unpack s ≡ made (take n xs))
  unfolding from_entries
  entries_right xs h =
      let made_so = entries_made s 11 n (length s - 1) (bits_of s) entries behind xs h in (made_so.0, headed s n H ∙ made_so.1)
