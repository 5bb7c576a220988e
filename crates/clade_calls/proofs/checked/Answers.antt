-- `checked` meets its contract: what the header says, and then the trees.
use mathlib.Core.Path.{sym, ap, ap₂, ◌∙◌}
use Rattle.rules.specs.Archive.{implied_length}
use Rattle.rules.specs.Answer.{number_of, refused}
use Rattle.archive_laws.proofs.Header.{trees_lt}
use Rattle.clade_calls.specs.Checked.{stopped, of_archive, short_archive, no_leaf, many_leaves, table_leaves, length_refused}
use native.Mathlib.Omega.{arith}
use Rattle.clade_calls.proofs.checked.Goals as goal

pub returns-then-archive-lt-HEADER_BYTES : goal.returns-then-archive-lt-HEADER_BYTES
unfolding number_of
returns-then-archive-lt-HEADER_BYTES c = stopped c.refuse.ensures (of_archive (short_archive c.args.archive.now c.if-archive-lt-HEADER_BYTES.true)) c.clear.ensures

pub returns-then-n-eq0 : goal.returns-then-n-eq0
unfolding number_of
returns-then-n-eq0 c = stopped c.refuse-then-n-eq0.ensures (of_archive (no_leaf c.args.archive.now c.if-archive-lt-HEADER_BYTES.false
    (sym c.leaf_count-n.ensures ∙ c.if-n-eq0.true))) c.clear.ensures

pub returns-then-n-gt-MOST_LEAVES : goal.returns-then-n-gt-MOST_LEAVES
unfolding number_of
returns-then-n-gt-MOST_LEAVES c = stopped c.refuse-then-n-gt-MOST_LEAVES.ensures (of_archive (many_leaves c.args.archive.now c.if-archive-lt-HEADER_BYTES.false
    (rw c.leaf_count-n.ensures at c.if-n-gt-MOST_LEAVES.true))) c.clear.ensures

pub returns-then-n-gt-TABLE_LEAVES : goal.returns-then-n-gt-TABLE_LEAVES
unfolding number_of
returns-then-n-gt-TABLE_LEAVES c = let e = c.leaf_count-n.ensures in
    stopped (c.refuse-then-n-gt-TABLE_LEAVES.ensures ∙ ap (refused 14) e) (of_archive (table_leaves c.args.archive.now
    c.if-archive-lt-HEADER_BYTES.false (rw e at c.if-n-eq0.false) (rw e at c.if-n-gt-MOST_LEAVES.false) (rw e at c.if-n-gt-TABLE_LEAVES.true)))
    c.clear.ensures

pub implied_length-wanted-requires : goal.implied_length-wanted-requires
implied_length-wanted-requires c = (omega (arith, c.if-n-eq0.false), omega (arith, c.if-n-gt-TABLE_LEAVES.false), rw c.tree_count-count.ensures (trees_lt c.args.archive.now))

pub returns-then-archive-wanted : goal.returns-then-archive-wanted
unfolding number_of
returns-then-archive-wanted c = let e = c.leaf_count-n.ensures in
    let w = c.implied_length-wanted.ensures ∙ ap₂ implied_length e c.tree_count-count.ensures in
    stopped (c.refuse-then-archive-wanted.ensures ∙ ap (refused 2) w) (of_archive (length_refused c.args.archive.now
    c.if-archive-lt-HEADER_BYTES.false (rw e at c.if-n-eq0.false) (rw e at c.if-n-gt-TABLE_LEAVES.false)
    (λ q. c.if-archive-wanted.true (q ∙ sym w)))) c.clear.ensures

pub invariant_of-check_trees : goal.invariant_of-check_trees
invariant_of-check_trees c = record {
  given = record {
    some = omega (arith, c.if-n-eq0.false);
    few = c.if-n-gt-TABLE_LEAVES.false;
    counted = rw c.tree_count-count.ensures (trees_lt c.args.archive.now);
    whole = c.if-archive-wanted.false ∙ c.implied_length-wanted.ensures;
  };
}
