-- The entries and the padding behind them, in one row of bits.
-- Main results: padding_behind, all_read.
use mathlib.Core.Path.{◌≡◌, ap, ◌∙◌}
use mathlib.Core.List.{List}
use Prim.Native.Nat.{ℕ, ◌+◌, ◌-◌, ◌<◌}
use Rattle.std.specs.Borrow.{Bor}
use lib.ListN.{length, take, get_or}
use lib.Seq.{get_or-set_same}
use Rattle.rules.specs.Record.{total}
use Rattle.rules.specs.Archive.{field_bits}
use Rattle.record_laws.proofs.Width.{total_one}
use Rattle.record_laws.specs.Window.{value_at}
use Rattle.record_laws.specs.Fields.{entries_from}
use Rattle.bits.specs.Fields.{field_read, FieldInside}
use Rattle.bit_reader.specs.declared.Reader.{Reader}
use Rattle.entry_reader.specs.Reading.{Reading, Read}

-- the fields end where the padding starts
fields_end : (start n : ℕ) → start + (total n - total 1) ≡ start + field_bits n
unfolding field_bits
fields_end start n = rw total_one

-- so the padding lies within the bytes behind the entries
pub padding_behind : (s : List ℕ) (start n p room : ℕ) → FieldInside s (start + field_bits n) p room 0 → FieldInside s (start + (total n - total 1)) p room 0
padding_behind s start n p room f = rw (fields_end start n) f

-- all entries are read, and the padding
pub all_read : (x : Bor (List ℕ)) (start n p : ℕ) (other : List ℕ) {before after rest : List ℕ} {q : Reader} → 0 < length other → Reading x.now start start 1 before
    → Read (record { bytes = x; at = start }) 1 n before q after → rest ≡ field_read x.now (start + (total n - total 1)) p other 0
    → (take n after ≡ entries_from start n x.now) × (get_or rest 0 0 ≡ value_at x.now (start + field_bits n) p)
unfolding field_read
all_read x start n p other h begun r e = (
  (r.reads start begun).done,
  ap (λ (o : List ℕ). get_or o 0 0) e ∙ get_or-set_same other 0 (value_at x.now (start + (total n - total 1)) p) 0 h ∙ ap (λ (m : ℕ). value_at x.now m p) (fields_end start n),
)
