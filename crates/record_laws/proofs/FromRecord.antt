-- When a record is accepted, and when it is refused with 2, 1, 4 or 10. Main results: under_two_bytes, counted, wrong_record, entry_refused,
-- padding_refused (when a record is refused); record_accepted, only_accepted (exactly the accepted ones make their entries); unpacked_vector.
use Rattle.std.specs.Prelude.{true, List, ◌≢◌, ◌≡◌, refl, ℕ, ◌-◌, ◌≤◌, ◌<◌, ltb, length}
use Rattle.std.proofs.Math.Option.{none, some}
use Rattle.std.proofs.Common.{subst, ◌∙◌, ltb-false, lt-ltb, le-ltb}
use Rattle.rules.specs.Vector.{fault, Vector}
use Rattle.rules.specs.Record.{leaf_count, record_length, bits_of, entries_of, any_set, padding}
use Rattle.rules.specs.Answer.{made, refuses}
use Rattle.rules.specs.Guards.{refuse_count, refuse_length}
use Rattle.rules.specs.CallUnpack.{from_entries, unpack}
use Rattle.basics.proofs.Fault.{no_fault_valid}
use Rattle.accepting.proofs.Guards.{some_leaves, wrong_length, right_length, refuse_if_lem, passed_count, passed_length, passed_if}
use Rattle.record_laws.proofs.FromBits.{entry_in_bits, padding_in_bits, bits_accepted, bits_made, length_entries_in}
use Rattle.record_laws.specs.FromRecord.{Headed, Accepted}

-- "2 (under 2 bytes, place 2)"
pub under_two_bytes : (s : List ℕ) → length s < 2 → unpack s ≡ refuses 2 2
unfolding unpack
under_two_bytes s h = refuse_if_lem (ltb (length s) 2) 2 2 _ (lt-ltb (length s) 2 h)

-- 1: with two bytes it has a leaf count, which is looked at next
pub counted : (s : List ℕ) (n : ℕ) → 2 ≤ length s → n ≡ leaf_count s
    → unpack s ≡ refuse_count n (refuse_length (record_length n) (length s) (from_entries n s))
unfolding unpack
counted s n h c = rw (le-ltb (length s) 2 h, ← c)

-- "2 (not the record's byte length)"
pub wrong_record : (s : List ℕ) (n : ℕ) → 2 ≤ length s → n ≡ leaf_count s → 1 ≤ n → n ≤ 1024 → length s ≢ record_length n
    → unpack s ≡ refuses 2 (record_length n)
wrong_record s n h c l u d = counted s n h c ∙ some_leaves n _ l u ∙ wrong_length (record_length n) (length s) _ d

-- its bits are looked at next
pub headed : (s : List ℕ) (n : ℕ) → Headed s n → unpack s ≡ from_entries n s
headed s n H =
    counted s n H.two_bytes H.count ∙ some_leaves n _ H.some_leaf H.few ∙ right_length (record_length n) (length s) _ H.whole

-- 4
pub entry_refused : (s : List ℕ) (n i : ℕ) → Headed s n → fault 0 (entries_of n s) ≡ some i → unpack s ≡ refuses 4 i
unfolding from_entries entries_of
entry_refused s n i H e = headed s n H ∙ entry_in_bits n (length s - 1) (bits_of s) i e

-- 10: "last byte's number"
pub padding_refused : (s : List ℕ) (n : ℕ) → Headed s n → fault 0 (entries_of n s) ≡ none → any_set (padding n s) ≡ true
    → unpack s ≡ refuses 10 (length s - 1)
unfolding from_entries entries_of padding
padding_refused s n H e b = headed s n H ∙ padding_in_bits n (length s - 1) (bits_of s) e b

-- it makes its entries,
pub record_accepted : (s : List ℕ) (n : ℕ) → Accepted s n → unpack s ≡ made (entries_of n s)
unfolding from_entries entries_of padding
record_accepted s n A = headed s n A.headed ∙ bits_accepted n (length s - 1) (bits_of s) A.within A.unset

-- and no other makes any
pub only_accepted : (s v : List ℕ) → unpack s ≡ made v → Accepted s (leaf_count s) × (entries_of (leaf_count s) s ≡ v)
unfolding unpack from_entries entries_of padding
only_accepted s v e =
    let long = passed_if (ltb (length s) 2) 2 2 _ e in
    let leaves = passed_count n _ long.1 in
    let size = passed_length (record_length n) (length s) _ leaves.2 in
    let inside = bits_made n (length s - 1) (bits_of s) v size.1 in
    let H : Headed s n = record {
      two_bytes = ltb-false (length s) 2 long.0;
      count = refl;
      some_leaf = leaves.0;
      few = leaves.1;
      whole = size.0;
    } in
    (record { headed = H; within = inside.0; unset = inside.1 }, inside.2)
  where
    n : ℕ
    n = leaf_count s

pub length_entries : (n : ℕ) (s : List ℕ) → length (entries_of n s) ≡ n
unfolding entries_of
length_entries n s = length_entries_in n (bits_of s)

-- what is made is a vector that every call accepts
pub unpacked_vector : (s v : List ℕ) → unpack s ≡ made v → Vector v
unpacked_vector s v e =
    let (A, same) = only_accepted s v e in
    let H = A.headed in
    let l = length_entries (leaf_count s) s in
    subst Vector same (record { valid = no_fault_valid (entries_of (leaf_count s) s) (rw l H.some_leaf) A.within; few = rw l H.few })
