-- Entries that are read from their fields, some after others, by a reading position that moves on.
-- Main definitions: Reading, Read, Left.
use Rattle.std.specs.Prelude.{◌≡◌, List, ℕ, ◌+◌, ◌-◌, ◌*◌, ◌≤◌, ◌<◌, ◌^◌, length, take}
use Rattle.rules.specs.Record.{total}
use Rattle.record_laws.specs.Fields.{entries_from}
use Rattle.bit_reader.specs.declared.Reader.{Reader}
use Rattle.bit_reader.specs.Moving.{moved_on}

-- The first i of the entries whose fields start at a bit stand in the buffer, and the next field starts at bit at.
pub record Reading (s : List ℕ) (start at i : ℕ) (out : List ℕ) : Type 0 where
  pub place : at + 11 ≡ start + total i
  pub done : take i out ≡ entries_from start i s

-- The entries from i to end are read, wherever the fields start: the first of them from r on, and q is r moved on behind them.
pub record Read (r : Reader) (i end : ℕ) (before : List ℕ) (q : Reader) (after : List ℕ) : Type 0 where
  pub moved : q ≡ moved_on (total end - total i) r
  pub reads : (start : ℕ) → Reading r.bytes.now start r.at i before → Reading r.bytes.now start q.at end after

-- The entries from i to end are left to read, the first of them from bit at on: their fields and some bits behind them lie within
-- the bytes, and there is room for them.
pub record Left (s : List ℕ) (at i end behind room : ℕ) : Type 0 where
  pub some_read : 1 ≤ i
  pub most : i ≤ end
  pub few : end ≤ 1024
  pub fits : end ≤ room
  pub short : length s ≤ 2 ^ 32
  pub inside : i < end → at + total end + behind ≤ 8 * length s + total i
