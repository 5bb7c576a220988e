-- Unpack: when it refuses, and that it writes an element a leaf. Main definition: RecordRefused.
use Rattle.std.specs.Prelude.{List, ◌≢◌, ◌≡◌, ℕ, ◌-◌, ◌≤◌, ◌<◌, length}
use Rattle.rules.specs.Record.{record_length, leaf_count, bits_of, entries_of}
use Rattle.demands.specs.Conditions.{CountWrong, CountRight, Above, WithinBounds, PaddingSet}
use Rattle.rules.specs.First.{First}

-- "Unpacking: 2 (under 2 bytes, place 2), 1, 2 (not the record's byte length), 4, 10"; the place of 10 is the last byte's number
pub data RecordRefused (s : List ℕ) : ℕ → ℕ → Type 0 where
  record_short : length s < 2 → RecordRefused s 2 2
  record_1 : 2 ≤ length s → CountWrong (leaf_count s) → RecordRefused s 1 0
  record_2 : 2 ≤ length s → CountRight (leaf_count s) → length s ≢ record_length (leaf_count s) → RecordRefused s 2 (record_length (leaf_count s))
  record_4 : {i : ℕ} → 2 ≤ length s → CountRight (leaf_count s) → length s ≡ record_length (leaf_count s)
      → First (Above (entries_of (leaf_count s) s)) i → RecordRefused s 4 i
  record_10 : 2 ≤ length s → CountRight (leaf_count s) → length s ≡ record_length (leaf_count s)
      → WithinBounds (entries_of (leaf_count s) s) → PaddingSet (leaf_count s) (bits_of s) → RecordRefused s 10 (length s - 1)
