-- `archive::find` meets its contract: the tests, one after another, are those of the frame (specs/Finds).
use native.Mathlib.Omega.{arith}
use Rattle.archive_laws.specs.Framed.{short}
use Rattle.archive_laws.proofs.Header.{trees_lt}
use Rattle.archive.specs.Finds.{no_leaf_found, many_leaves_found, length_found, no_tree_found, record_found}
use Rattle.archive.proofs.find.Goals as goal
use Rattle.archive.proofs.find.Goals.{then-n-eq0-via-then-n-eq0, then-n-eq0-via-else-n-eq0+then-n-gt-MOST_LEAVES}

pub returns-then-s-lt-HEADER_BYTES : goal.returns-then-s-lt-HEADER_BYTES
returns-then-s-lt-HEADER_BYTES c = short c.if-s-lt-HEADER_BYTES.true

pub returns-then-n-eq0 : goal.returns-then-n-eq0
returns-then-n-eq0 c =
    elim c.then-n-eq0.branch [
      | then-n-eq0-via-then-n-eq0 w ↦ no_leaf_found _ _ c.if-s-lt-HEADER_BYTES.false c.leaf_count-n.ensures w.if-n-eq0.true
      | then-n-eq0-via-else-n-eq0+then-n-gt-MOST_LEAVES w ↦ many_leaves_found _ _ c.if-s-lt-HEADER_BYTES.false c.leaf_count-n.ensures w.if-n-gt-MOST_LEAVES.true
    ]

pub implied_length-wanted-requires : goal.implied_length-wanted-requires
implied_length-wanted-requires c = (omega (arith, c.if-n-eq0.false), c.if-n-gt-MOST_LEAVES.false, rw c.tree_count-count.ensures (trees_lt c.args.s.now))

pub returns-then-s-wanted : goal.returns-then-s-wanted
returns-then-s-wanted c =
    length_found _ _ c.if-s-lt-HEADER_BYTES.false c.leaf_count-n.ensures c.if-n-eq0.false c.if-n-gt-MOST_LEAVES.false
    c.tree_count-count.ensures c.implied_length-wanted.ensures c.if-s-wanted.true

pub returns-then-count-tree : goal.returns-then-count-tree
returns-then-count-tree c =
    no_tree_found _ _ c.if-s-lt-HEADER_BYTES.false c.leaf_count-n.ensures c.if-n-eq0.false c.if-n-gt-MOST_LEAVES.false
    c.tree_count-count.ensures c.implied_length-wanted.ensures c.if-s-wanted.false c.if-count-tree.true

pub record_part-requires : goal.record_part-requires
record_part-requires c =
    let few = trees_lt c.args.s.now in
    (omega (arith, c.if-n-eq0.false), c.if-n-gt-MOST_LEAVES.false, omega (arith, c.if-count-tree.false, c.tree_count-count.ensures, few))

pub returns : goal.returns
returns c = (
  c.leaf_count-n.ensures,
  record_found _ _ c.if-s-lt-HEADER_BYTES.false c.leaf_count-n.ensures c.if-n-eq0.false c.if-n-gt-MOST_LEAVES.false
      c.tree_count-count.ensures c.implied_length-wanted.ensures c.if-s-wanted.false c.if-count-tree.false,
  c.record_part.ensures,
)
