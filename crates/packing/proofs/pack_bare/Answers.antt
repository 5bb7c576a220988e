-- `packing::pack_bare` meets its contract: behind no bits the fields are the record without its n.
use native.Mathlib.Omega.{arith}
use mathlib.Core.Path.{◌∙◌}
use lib.ListN.{length}
use Rattle.packing.specs.Behind.{bytes_behind_nothing, behind_nothing}
use Rattle.packing.proofs.pack_bare.Goals as goal

pub pack_behind-requires : goal.pack_behind-requires
pack_behind-requires c =
    let given = c.requires in
    record { vector = given.0; few = omega arith; small = omega arith; enough = omega (arith, bytes_behind_nothing (length c.args.v.now), given.1) }

pub returns : goal.returns
returns c = c.pack_behind.ensures ∙ rw (behind_nothing _, bytes_behind_nothing _)
