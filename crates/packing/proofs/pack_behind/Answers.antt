-- `packing::pack_behind` meets its contract: the bits and the fields are built (`built`), and copied.
use native.Mathlib.Omega.{arith}
use mathlib.Core.Path.{refl, ◌∙◌}
use Rattle.packing.proofs.Packing.{entries_due, still_lent, built}
use Rattle.packing.proofs.pack_behind.Goals as goal

pub put_entries-p-requires : goal.put_entries-p-requires
put_entries-p-requires c = entries_due c.requires c.begin-none.ensures refl c.put_field-front.ensures

pub overflow_add-bytes : goal.overflow_add-bytes
overflow_add-bytes c = let b = built c.requires c.begin-none.ensures refl c.put_field-front.ensures c.put_entries-p.ensures in omega (arith, b.0, b.1)

pub copy-requires : goal.copy-requires
copy-requires c =
    let b = built c.requires c.begin-none.ensures refl c.put_field-front.ensures c.put_entries-p.ensures in
    let room = still_lent c.requires c.begin-none.ensures refl c.put_field-front.ensures c.put_entries-p.ensures in
    (omega (arith, b.0, b.1, room), omega (arith, b.0, c.requires.enough))

pub returns : goal.returns
returns c =
    let (bytes, _, are) = built c.requires c.begin-none.ensures refl c.put_field-front.ensures c.put_entries-p.ensures in
    c.copy.ensures ∙ rw (bytes, are)
