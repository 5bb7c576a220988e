-- `tree_reading::read_bare` meets its contract: what the bytes contain from bit 0 on is what they make behind their n (specs/Gives).
use native.Mathlib.Omega.{arith}
use Prim.Native.Nat.{◌+◌}
use Rattle.rules.specs.Archive.{field_bits}
use Rattle.tree_reading.specs.Gives.{set_byte, bare_filled, entry_above, padding_set, entries_right}
use Rattle.tree_reading.proofs.read_bare.Goals as goal

pub read_entries-requires : goal.read_entries-requires
read_entries-requires c = let p = c.requires in (bare_filled c.args.bytes.now c.args.n p.0 p.1 p.2, omega arith)

pub overflow_sub-result : goal.overflow_sub-result
overflow_sub-result c = omega (arith, set_byte c.args.bytes.now (0 + field_bits c.args.n) (rw c.in-Err-Padding.field-0-is at c.in-Err-Padding.ensures).1)

pub returns-in-Ok : goal.returns-in-Ok
returns-in-Ok c = let p = c.requires in entries_right _ _ p.0 p.1 p.2 _ c.in-Ok.ensures

pub returns-in-Err-Entry : goal.returns-in-Err-Entry
returns-in-Err-Entry c = let p = c.requires in entry_above _ _ p.0 p.1 p.2 _ (rw c.in-Err-Entry.field-0-is at c.in-Err-Entry.ensures)

pub returns-in-Err-Padding : goal.returns-in-Err-Padding
returns-in-Err-Padding c = let p = c.requires in padding_set _ _ p.0 p.1 p.2 (rw c.in-Err-Padding.field-0-is at c.in-Err-Padding.ensures)
