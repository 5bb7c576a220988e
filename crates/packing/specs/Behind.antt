-- The fields of a vector behind some bits, filled up to whole bytes: behind n in 11 bits they are its record, behind none its record
-- without its n.
-- Main definitions: bytes_behind, packed_behind, Fits. Main results: behind_count, behind_nothing.
use Rattle.std.specs.Prelude.{◌≡◌, List, ◌++◌, ℕ, ◌+◌, ◌/◌, ◌^◌, ◌≤◌, ◌<◌, length}
use Rattle.std.proofs.Common.{arith}
use Rattle.rules.specs.Vector.{Vector}
use Rattle.rules.specs.Record.{record_length, field, fields, bytes_of, record_of}
use Rattle.rules.specs.Archive.{field_bits, bare_length, bare_record}
use Rattle.record_laws.proofs.Fields.{total_header}

-- the bytes of so many bits and the fields of n entries
unfoldable pub bytes_behind : ℕ → ℕ → ℕ
unfolding field_bits
bytes_behind bits n = (bits + field_bits n + 7) / 8

-- the bits of x, and behind them the fields of a vector
unfoldable pub packed_behind : ℕ → ℕ → List ℕ → List ℕ
unfolding bytes_behind bytes_of field fields
packed_behind width x v = bytes_of (bytes_behind width (length v)) (field width x ++ fields 0 v)

-- what is to be written: no more bits than those of n, and a vector; there is room for both
pub record Fits (width x : ℕ) (v : List ℕ) (room : ℕ) : Type 0 where
  pub vector : Vector v
  pub few : width ≤ 11
  pub small : x < 2 ^ width
  pub enough : bytes_behind width (length v) ≤ room

-- behind n: the record
pub bytes_behind_count : (n : ℕ) → bytes_behind 11 n ≡ record_length n
unfolding bytes_behind field_bits record_length
bytes_behind_count n = rw (total_header n)

pub behind_count : (v : List ℕ) → packed_behind 11 (length v) v ≡ record_of v
unfolding packed_behind record_of
behind_count v = rw (bytes_behind_count (length v))

-- behind nothing: the record without its n
pub bytes_behind_nothing : (n : ℕ) → bytes_behind 0 n ≡ bare_length n
unfolding bytes_behind bare_length
bytes_behind_nothing n = let e : 0 + field_bits n ≡ field_bits n = omega arith in rw e

pub behind_nothing : (v : List ℕ) → packed_behind 0 0 v ≡ bare_record v
unfolding packed_behind bare_record field
behind_nothing v = rw (bytes_behind_nothing (length v))
