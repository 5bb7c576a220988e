-- `unpacking::read_headed` meets its contract: what the bytes contain from bit 11 on is what the record gives (specs/Unpacks).
use native.Mathlib.Omega.{arith}
use Rattle.unpacking.specs.Unpacks.{headed_filled, entry_above, padding_set, entries_right}
use Rattle.unpacking.proofs.read_headed.Goals as goal

pub read_entries-requires : goal.read_entries-requires
read_entries-requires c = let H = c.requires in (headed_filled c.args.s.now c.args.n H, omega (arith, H.few))

pub overflow_sub-result : goal.overflow_sub-result
overflow_sub-result c = let H = c.requires in omega (arith, H.two_bytes)

pub returns-in-Ok : goal.returns-in-Ok
returns-in-Ok c = entries_right _ _ c.requires _ c.in-Ok.ensures

pub returns-in-Err-Entry : goal.returns-in-Err-Entry
returns-in-Err-Entry c = entry_above _ _ c.requires _ (rw c.in-Err-Entry.field-0-is at c.in-Err-Entry.ensures)

pub returns-in-Err-Padding : goal.returns-in-Err-Padding
returns-in-Err-Padding c = padding_set _ _ c.requires (rw c.in-Err-Padding.field-0-is at c.in-Err-Padding.ensures)
