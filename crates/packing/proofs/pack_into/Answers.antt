-- `packing::pack_into` meets its contract: behind n in 11 bits the fields are the record.
use native.Mathlib.Omega.{arith}
use mathlib.Core.Path.{◌∙◌}
use lib.ListN.{length}
use Rattle.packing.specs.Behind.{bytes_behind_count, behind_count}
use Rattle.packing.proofs.pack_into.Goals as goal

pub pack_behind-requires : goal.pack_behind-requires
pack_behind-requires c =
    let given = c.requires in
    record { vector = given.0; few = omega arith; small = omega (arith, given.0.few); enough = omega (arith, bytes_behind_count (length c.args.v.now), given.1) }

pub returns : goal.returns
returns c = c.pack_behind.ensures ∙ rw (behind_count _, bytes_behind_count _)
