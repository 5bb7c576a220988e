-- `add_trees` meets its contract: the first r trees are added.
use Rattle.clade_pass.specs.Pass.{passing_start, passing_roomy, record_inside, record_bytes, passing_next, passing_refused, passing_end}
use mathlib.Core.Path.{◌∙◌, sym}
use borrow.Author.Rules.{rules}
use Rattle.clade_pass.proofs.add_trees.Goals as goal

pub loop-r-init : goal.loop-r-init
loop-r-init c = passing_start c.args.trees.now.given c.bare_length-size.ensures c.requires

pub overflow_add-next : goal.overflow_add-next
overflow_add-next c = let k = record_inside c.loop-r.invariant c.loop-r-test.true in search rules

pub slice_bounds-add_tree-end : goal.slice_bounds-add_tree-end
slice_bounds-add_tree-end c = let k = record_inside c.loop-r.invariant c.loop-r-test.true in search rules

pub add_tree-requires : goal.add_tree-requires
add_tree-requires c = let P = c.loop-r.invariant in
    record { le_n = (P.given.some, P.given.few, record_bytes P c.loop-r-test.true, c.leaf_bits.ensures); roomy = passing_roomy P }

pub loop-r-preserved : goal.loop-r-preserved
loop-r-preserved c = passing_next c.loop-r.invariant _ (sym c.is_err.ensures.value ∙ c.if-is_err.false) c.loop-r-test.true c.add_tree.ensures

pub returns-then-is_err : goal.returns-then-is_err
returns-then-is_err c = passing_refused c.loop-r.invariant _ _ (sym c.is_err.ensures.value ∙ c.if-is_err.true) c.loop-r-test.true c.add_tree.ensures

pub returns : goal.returns
returns c = passing_end c.loop-r.invariant c.loop-r-test.false
