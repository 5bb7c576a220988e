-- `sets_of` meets its contract.
use mathlib.Core.Path.{◌∙◌}
use Rattle.leaf_sets.specs.Bits.{bits_copied}
use Rattle.leaf_sets.specs.Merging.{before_sets, sets_of_vector}
use native.Mathlib.Omega.{arith}
use Rattle.leaf_sets.proofs.sets_of.Goals as goal

pub merged_sets-requires : goal.merged_sets-requires
merged_sets-requires c = let a = c.args in
    let h = c.requires in (
      before_sets h.vector.0.valid h.vector.1 c.fill.ensures (c.copy.auto.out ∙ h.list_len.0)
          (rw c.copy.ensures (bits_copied _ a.clusters.now (omega (arith, h.vector.1, h.vector.2)) h.vector.1 h.vector.3)),
      omega (arith, h.vector.1, h.list_len.1),
    )

pub returns : goal.returns
returns c = sets_of_vector _ _ _ c.merged_sets.new.sets c.args.sets.now _ c.requires.vector.0.valid c.fill.ensures.listed c.merged_sets.ensures
