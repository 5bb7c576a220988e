-- What is read of a tree, by what the public call makes of it.
-- Main definitions: Gives, bare_made. Main results: bare_filled, entry_above, padding_set, entries_right (what bytes make); record_made.
use Rattle.std.specs.Prelude.{true, List, [], ◌∷◌, ◌++◌, ◌≡◌, ℕ, zero, suc, ◌+◌, ◌-◌, ◌≤◌, length, take, drop, Result, Ok, Err}
use Rattle.std.proofs.lemmas.Bool.{false≢true}
use Rattle.std.proofs.Math.Option.{none, some}
use Rattle.std.proofs.Common.{sym, ap, ◌∙◌, zero-add, arith}
use Rattle.rules.specs.Vector.{fault}
use Rattle.rules.specs.Record.{Bits, leaf_count, field, bits_of, padding_in, any_set}
use Rattle.rules.specs.Archive.{field_bits, bare_length, record_at, packed_at}
use Rattle.rules.specs.Answer.{Made, made, refuses}
use Rattle.rules.specs.CallUnpack.{from_bits}
use Rattle.rules.specs.CallReadTree.{read_tree}
use Rattle.record_laws.specs.Fields.{entries_from}
use Rattle.archive_laws.proofs.Bare.{bare_length_bits, entries_behind_count, padding_behind_count}
use Rattle.archive_laws.proofs.Reader.{reader_inside}
use Rattle.record.specs.Filled.{Filled}
use Rattle.record_entries.specs.Contains.{Contains}
use Rattle.record_entries.specs.Makes.{entry_made, padding_made, entries_made}
use Rattle.rules.specs.declared.Part.{Part}
use Rattle.archive.specs.Finds.{IsRecord, part_bytes, part_bytes_lem}
use Rattle.archive.specs.declared.ArchiveFault.{ArchiveFault}
use Rattle.archive.specs.declared.ArchiveFault.TheVariants as archives
use Rattle.tree_reading.specs.declared.TreeFault.{TreeFault}
use Rattle.tree_reading.specs.declared.TreeFault.TheVariants.{Length, LeafCount, NoTree, Entry, Padding}

-- each answer, where m is to be made; vector is the array that was read into
abbrev pub Gives : Made → List ℕ → Result ℕ TreeFault → Type 0
Gives m vector (Ok n) = (n ≤ length vector) × (m ≡ made (take n vector))
Gives m vector (Err (Length wanted)) = m ≡ refuses 2 wanted
Gives m vector (Err LeafCount) = m ≡ refuses 1 0
Gives m vector (Err (NoTree r)) = m ≡ refuses 12 r
Gives m vector (Err (Entry i)) = m ≡ refuses 4 i
Gives m vector (Err (Padding place)) = m ≡ refuses 10 place

-- what is wrong with an archive, of a tree
abbrev pub tree_fault : ArchiveFault → TreeFault
tree_fault (archives.Length wanted) = Length wanted
tree_fault archives.LeafCount = LeafCount
tree_fault (archives.NoTree r) = NoTree r

-- what the bytes of a record without its n make: as those of a record with it
abbrev pub bare_made : ℕ → List ℕ → Made
bare_made n s = from_bits n (bare_length n - 1) (field 11 n ++ bits_of s)

-- where a bit is set there is a byte
pub set_byte : (s : List ℕ) (at : ℕ) → any_set (drop at (bits_of s)) ≡ true → 1 ≤ length s
unfolding bits_of any_set
set_byte [] zero h = absurd (false≢true h)
set_byte [] (suc at) h = absurd (false≢true h)
set_byte (b ∷ s) at h = omega arith

-- the bytes of a record without its n: what they contain from bit 0 on
module _ (s : List ℕ) (n : ℕ) (some_leaf : 1 ≤ n) (few : n ≤ 1024) (whole : length s ≡ bare_length n) where
  abbrev packed : Bits
  packed = field 11 n ++ bits_of s

  pub bare_filled : Filled s 0 n
  bare_filled =
      let k = bare_length_bits n in
      record { some_leaf = some_leaf; few = few; near = omega arith; inside = omega (arith, whole, k.0); last = omega (arith, whole, k.1) }

  behind : drop (0 + field_bits n) (bits_of s) ≡ padding_in n packed
  behind = ap (λ (k : ℕ). drop k (bits_of s)) (zero-add (field_bits n)) ∙ padding_behind_count n s

  pub entry_above : (i : ℕ) → fault 0 (entries_from 0 n s) ≡ some i → bare_made n s ≡ refuses 4 i
  entry_above = entry_made s 0 n (bare_length n - 1) packed (entries_behind_count n s) behind

  pub padding_set : (fault 0 (entries_from 0 n s) ≡ none) × (any_set (drop (0 + field_bits n) (bits_of s)) ≡ true) → bare_made n s ≡ refuses 10 (length s - 1)
  padding_set h =
      padding_made s 0 n (bare_length n - 1) packed (entries_behind_count n s) behind h ∙ ap (λ (k : ℕ). refuses 10 (k - 1)) (sym whole)

  pub entries_right : (xs : List ℕ) → Contains s 0 n xs (Ok tt) → (n ≤ length xs) × (bare_made n s ≡ made (take n xs))
  entries_right = entries_made s 0 n (bare_length n - 1) packed (entries_behind_count n s) behind

-- what the bytes of record r make is what the public call makes
pub record_made : (s : List ℕ) (r n : ℕ) (part : Part) → IsRecord s r n part → read_tree s r ≡ bare_made n (part_bytes s part)
unfolding packed_at
record_made s r n part h =
    reader_inside s r h.1 ∙ ap (λ (k : ℕ). bare_made k (record_at (leaf_count s) s r)) (sym h.0) ∙ ap (bare_made n) (sym (part_bytes_lem s r n part h))
