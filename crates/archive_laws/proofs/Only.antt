-- An archive whose trees are all accepted is the one that is written of their vectors: no two archives have the same n and the same trees. Main
-- results: accepted_record, only_archive, only_written, same_archive.
use Rattle.std.specs.Prelude.{◌≡◌, refl, false, List, [], ◌∷◌, ◌++◌, ℕ, zero, suc, ◌+◌, ◌-◌, ◌*◌, ◌≤◌, ◌<◌, length, take, drop, get_or, replicate}
use Rattle.std.proofs.Common.{sym, ap, ap₂, ◌∙◌, zero-mul, suc-mul, arith, length-append, length-drop, take-append-drop, take-add, take_all, drop_at, drop-drop, length-take-le}
use Rattle.rules.specs.Vector.{Valid}
use Rattle.rules.specs.Record.{total, field, fields, bytes_of, bits_of, leaf_count, entries_in, padding_in, any_set}
use Rattle.rules.specs.Archive.{header, trees_in, field_bits, bare_length, bare_record, bare_records, implied_length, archive_of, record_at, packed_at}
use Rattle.rules.specs.Answer.{made}
use Rattle.rules.specs.CallWriteArchive.{write_archive}
use Rattle.rules.specs.CallReadTree.{read_tree}
use Rattle.record_laws.proofs.Number.{are_append, are_take, are_drop, are_field, length_field}
use Rattle.record_laws.specs.Bytes.{AreBytes}
use Rattle.record_laws.proofs.Bytes.{are_bits, length_bits, bytes_unique}
use Rattle.record_laws.proofs.Fields.{total_header, fields_of_entries}
use Rattle.record_laws.proofs.FromBits.{length_entries_in}
use Rattle.record_laws.proofs.Inverse.{unset_zeros}
use Rattle.archive_laws.proofs.Header.{header_again, trees_lt}
use Rattle.archive_laws.proofs.Bare.{bare_length_bits, padding_behind_count}
use Rattle.archive_laws.proofs.Reader.{record_size, only_accepted, read_vector}
use Rattle.archive_laws.specs.Written.{Trees, joined}
use Rattle.archive_laws.proofs.Written.{write_archive_lem}
use Rattle.archive_laws.specs.Writer.{Run}
use Rattle.archive_laws.specs.Only.{AllRead}

-- bytes with the length that n fixes and no padding bit set are the record of their entries
bare_of_entries : (n : ℕ) (b : List ℕ) → AreBytes b → length b ≡ bare_length n → any_set (padding_in n (field 11 n ++ bits_of b)) ≡ false
    → bare_record (entries_in n (field 11 n ++ bits_of b)) ≡ b
unfolding bare_record field_bits entries_in
bare_of_entries n b h size p =
    rw (length_entries_in n (field 11 n ++ bits_of b), ← size)
    (ap (bytes_of (length b)) those ∙ bytes_unique b (take (field_bits n) (bits_of b)) h (are_take (field_bits n) (bits_of b) (are_bits b)) (omega (arith, long, fits)) whole)
  where
    fits : field_bits n ≤ 8 * length b
    fits = rw size (bare_length_bits n).0

    long : length (take (field_bits n) (bits_of b)) ≡ field_bits n
    long = length-take-le (field_bits n) (bits_of b) (rw length_bits fits)

    all : total n ≤ length (field 11 n ++ bits_of b)
    all = rw (length-append, length_field, length_bits) (omega (arith, fits, total_header n))

    those : fields 0 (entries_in n (field 11 n ++ bits_of b)) ≡ take (field_bits n) (bits_of b)
    those =
        fields_of_entries (field 11 n ++ bits_of b) (are_append (field 11 n) (bits_of b) (are_field 11 n) (are_bits b)) n all
        ∙ ap (take (total n - 11)) (drop_at (field 11 n) (bits_of b) 11 (length_field 11 n))

    rest : drop (field_bits n) (bits_of b) ≡ replicate (8 * length b - length (take (field_bits n) (bits_of b))) 0
    rest =
        let e : length (drop (field_bits n) (bits_of b)) ≡ 8 * length b - length (take (field_bits n) (bits_of b)) = rw (length-drop, long, length_bits b) refl in
        unset_zeros (drop (field_bits n) (bits_of b)) (are_drop (field_bits n) (bits_of b) (are_bits b)) (ap any_set (padding_behind_count n b) ∙ p)
        ∙ ap (λ (k : ℕ). replicate k 0) e

    whole : bits_of b ≡ take (field_bits n) (bits_of b) ++ replicate (8 * length b - length (take (field_bits n) (bits_of b))) 0
    whole = sym (take-append-drop (field_bits n) (bits_of b)) ∙ ap (◌++◌ (take (field_bits n) (bits_of b))) rest

-- an accepted tree's record is the record of its vector
pub accepted_record : (s : List ℕ) (r : ℕ) (v : List ℕ) → AreBytes (record_at (leaf_count s) s r) → read_tree s r ≡ made v
    → record_at (leaf_count s) s r ≡ bare_record v
unfolding packed_at
accepted_record s r v h e =
    let (A, same) = only_accepted s r v e in
    let F = A.has_tree in
    let size = record_size (leaf_count s) (trees_in s) s r (omega (arith, F.whole)) F.below in
    sym (bare_of_entries (leaf_count s) (record_at (leaf_count s) s r) h size A.unset) ∙ ap bare_record same

take_bytes : (k : ℕ) (s : List ℕ) → AreBytes s → AreBytes (take k s)
unfolding AreBytes
take_bytes zero s h = tt
take_bytes (suc k) [] h = tt
take_bytes (suc k) (b ∷ s) h = (h.0, take_bytes k s h.1)

drop_bytes : (k : ℕ) (s : List ℕ) → AreBytes s → AreBytes (drop k s)
unfolding AreBytes
drop_bytes zero s h = h
drop_bytes (suc k) [] h = tt
drop_bytes (suc k) (b ∷ s) h = drop_bytes k s h.1

record_bytes : (n : ℕ) (s : List ℕ) (r : ℕ) → AreBytes s → AreBytes (record_at n s r)
unfolding record_at
record_bytes n s r h = take_bytes (bare_length n) (drop (implied_length n r) s) (drop_bytes (implied_length n r) s h)

-- records that stand one after another are the bytes there
records_are : (n : ℕ) (s : List ℕ) (vs : List (List ℕ)) (at : ℕ) → ((r : ℕ) → r < length vs → record_at n s (at + r) ≡ bare_record (get_or vs r []))
    → bare_records vs ≡ take (length vs * bare_length n) (drop (implied_length n at) s)
unfolding bare_records record_at implied_length
records_are n s [] at h = rw (zero-mul (bare_length n)) refl
records_are n s (v ∷ vs) at h =
    let z : at ≡ at + 0 = omega arith in
    let o : at + 1 ≡ suc at = omega arith in
    let next : 4 + (at + 1) * bare_length n ≡ 4 + at * bare_length n + bare_length n = rw (o, suc-mul at (bare_length n)) (omega arith) in
    let more : bare_length n + length vs * bare_length n ≡ suc (length vs) * bare_length n = omega (arith, suc-mul (length vs) (bare_length n)) in
    ap₂ ◌++◌ (sym (ap (λ (k : ℕ). take (bare_length n) (drop (4 + k * bare_length n) s)) z ∙ h 0 (omega arith)))
    (records_are n s vs (at + 1)
    (λ r l. let e : at + 1 + r ≡ at + suc r = omega arith in ap (λ (k : ℕ). take (bare_length n) (drop (4 + k * bare_length n) s)) e ∙ h (suc r) (omega arith))
    ∙ ap (λ (k : ℕ). take (length vs * bare_length n) (drop k s)) next
    ∙ ap (take (length vs * bare_length n)) (sym (drop-drop (bare_length n) (4 + at * bare_length n) s)))
    ∙ sym (take-add (bare_length n) (length vs * bare_length n) (drop (4 + at * bare_length n) s))
    ∙ ap (λ (k : ℕ). take k (drop (4 + at * bare_length n) s)) more

trees_are : (n : ℕ) (vs : List (List ℕ)) → ((r : ℕ) → r < length vs → Valid (get_or vs r []) × (length (get_or vs r []) ≡ n)) → Trees n vs
unfolding Trees
trees_are n [] h = tt
trees_are n (v ∷ vs) h = ((h 0 (omega arith)).0, (h 0 (omega arith)).1, trees_are n vs (λ r l. h (suc r) (omega arith)))

-- the vectors are ones that the writer takes
read_run : (s : List ℕ) (vs : List (List ℕ)) → AllRead s vs → Run (leaf_count s) vs
read_run s vs A = record {
  some_leaf = A.some_leaf;
  few_leaves = A.few;
  trees = trees_are (leaf_count s) vs (λ r l. let R = read_vector s r (get_or vs r []) (A.each r l) in (R.0.valid, R.1));
  few = omega (arith, A.trees, trees_lt s);
}

-- and the archive is the one of these vectors
pub only_archive : (s : List ℕ) (vs : List (List ℕ)) → AllRead s vs → s ≡ archive_of (leaf_count s) vs
unfolding archive_of implied_length
only_archive s vs A =
    sym (take-append-drop 4 s)
    ∙ ap₂ ◌++◌
    (sym (header_again s (take_bytes 4 s A.bytes) (omega (arith, A.whole))) ∙ ap (header (leaf_count s)) (sym A.trees))
    (sym (take_all (length vs * bare_length (leaf_count s)) (drop 4 s) short)
    ∙ ap (λ (k : ℕ). take (length vs * bare_length (leaf_count s)) (drop k s)) first
    ∙ sym (records_are (leaf_count s) s vs 0 records))
  where
    first : 4 ≡ 4 + 0 * bare_length (leaf_count s)
    first = omega (arith, zero-mul (bare_length (leaf_count s)))

    short : length (drop 4 s) ≤ length vs * bare_length (leaf_count s)
    short = rw (length-drop, A.trees) (omega (arith, A.whole))

    records : (r : ℕ) → r < length vs → record_at (leaf_count s) s (0 + r) ≡ bare_record (get_or vs r [])
    records r l =
        let z : 0 + r ≡ r = omega arith in
        ap (record_at (leaf_count s) s) z ∙ accepted_record s r (get_or vs r []) (record_bytes (leaf_count s) s r A.bytes) (A.each r l)

-- the writer makes it of their entries
pub only_written : (s : List ℕ) (vs : List (List ℕ)) → AllRead s vs → write_archive (leaf_count s) (joined vs) ≡ made s
only_written s vs A =
    let R = read_run s vs A in
    write_archive_lem (leaf_count s) vs R.trees R.some_leaf R.few_leaves R.few ∙ ap made (sym (only_archive s vs A))

-- two archives with one n whose trees are accepted and are the same vectors are the same bytes
pub same_archive : (s t : List ℕ) (vs : List (List ℕ)) → leaf_count s ≡ leaf_count t → AllRead s vs → AllRead t vs → s ≡ t
same_archive s t vs e A B = only_archive s vs A ∙ ap (λ (n : ℕ). archive_of n vs) e ∙ sym (only_archive t vs B)
