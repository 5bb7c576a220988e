-- `pass` meets its contract: where records have bytes, by all trees; else at once.
use mathlib.Core.Path.{◌≡◌}
use Rattle.clade_pass.specs.Pass.{one_leaf_passed, two_leaves_passed}
use native.Mathlib.Omega.{arith}
use Rattle.clade_pass.proofs.pass.Goals as goal

pub returns-then-trees-eq2 : goal.returns-then-trees-eq2
returns-then-trees-eq2 c = two_leaves_passed c.if-trees-eq2.true c.add_pairs.ensures

pub returns-else-trees-eq2 : goal.returns-else-trees-eq2
returns-else-trees-eq2 c = let e : c.args.trees.now.n ≡ 1 = omega (arith, c.if-trees-eq2.false, c.args.trees.now.given.some) in
    one_leaf_passed e c.clear.ensures
