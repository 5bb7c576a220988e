-- What it means to put the fields of entries behind bits that are held.
-- Main definitions: PutEntries, Due.
use Rattle.std.specs.Prelude.{◌≡◌, List, ◌++◌, ℕ, ◌+◌, ◌*◌, ◌≤◌, length, take}
use Rattle.rules.specs.Record.{Bits, fields, total}
use Rattle.record_laws.specs.Fields.{Fit}
use Rattle.bit_writer.specs.Pending.{Held}
use Rattle.bit_writer.specs.declared.Writer.{Writer}

-- The fields of the entries from i to end are held behind those before them, in the same buffer, whatever bits stand in front.
pub record PutEntries (v : List ℕ) (i end : ℕ) (w r : Writer) : Type 0 where
  pub same : r.out.ghost_name ≡ w.out.ghost_name
  pub long : length r.out.now ≡ length w.out.now
  pub count : r.bits + total i ≡ w.bits + total end
  pub held : (front : Bits) → Held (front ++ fields 0 (take i v)) w → Held (front ++ fields 0 (take end v)) r

-- The entries from i to end are due: they fit their fields, and there is room for these and for a word behind them.
pub record Due (v : List ℕ) (i end : ℕ) (w : Writer) : Type 0 where
  pub some_put : 1 ≤ i
  pub most : i ≤ end
  pub whole : end ≤ length v
  pub few : length v ≤ 1024
  pub fit : Fit v
  pub fits : w.bits + total end + 64 ≤ 8 * length w.out.now + total i
  pub short : length w.out.now ≤ 65536
