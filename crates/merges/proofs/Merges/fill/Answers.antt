-- `fill` meets its contract: the lists hold the merges of the first i entries.
use borrow.Author.Rules.{rules}
use mathlib.Core.Path.{refl}
use Rattle.merges.specs.Built.{built_start, built_next, built_end, next_leaf}
use Rattle.merges.proofs.Merges.fill.Goals as goal

pub loop-i-init : goal.loop-i-init
loop-i-init c = built_start c.requires (search rules) (search rules)

pub put-lo-requires : goal.put-lo-requires
put-lo-requires c = next_leaf c.loop-i.invariant c.loop-i-test.true refl

pub loop-i-preserved : goal.loop-i-preserved
loop-i-preserved c = built_next c.loop-i.invariant c.loop-i-test.true refl (search rules) c.put-lo.ensures

pub returns : goal.returns
returns c = built_end c.loop-i.invariant c.loop-i-test.false
