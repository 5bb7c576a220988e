-- `unpacking::read_vector` meets its contract: the length, the leaf count and the length that it wants, and then the entries.
use mathlib.Core.Path.{◌∙◌}
use Rattle.accepting.proofs.Guards.{no_leaf, many_leaves}
use Rattle.record_laws.proofs.FromRecord.{under_two_bytes, counted}
use Rattle.unpacking.specs.Unpacks.{length_wrong, head_right}
use Rattle.unpacking.proofs.read_vector.Goals as goal
use Rattle.unpacking.proofs.read_vector.Goals.{then-n-eq0-via-then-n-eq0, then-n-eq0-via-else-n-eq0+then-n-gt-MOST_LEAVES}

pub returns-then-s-lt2 : goal.returns-then-s-lt2
returns-then-s-lt2 c = under_two_bytes _ c.if-s-lt2.true

pub returns-then-n-eq0 : goal.returns-then-n-eq0
returns-then-n-eq0 c =
    counted _ _ c.if-s-lt2.false c.leaf_count-n.ensures
    ∙ elim c.then-n-eq0.branch [
      | then-n-eq0-via-then-n-eq0 w ↦ no_leaf _ _ w.if-n-eq0.true
      | then-n-eq0-via-else-n-eq0+then-n-gt-MOST_LEAVES w ↦ many_leaves _ _ w.if-n-gt-MOST_LEAVES.true
    ]

pub returns-then-s-wanted : goal.returns-then-s-wanted
returns-then-s-wanted c =
    length_wrong _ c.if-s-lt2.false c.leaf_count-n.ensures c.if-n-eq0.false c.if-n-gt-MOST_LEAVES.false
    c.record_length-wanted.ensures c.if-s-wanted.true

pub read_headed-requires : goal.read_headed-requires
read_headed-requires c =
    head_right _ c.if-s-lt2.false c.leaf_count-n.ensures c.if-n-eq0.false c.if-n-gt-MOST_LEAVES.false
    c.record_length-wanted.ensures c.if-s-wanted.false
