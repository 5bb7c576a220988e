-- `pair_words` meets its contract: after t turns the words of the first t rows stand, and number has the node of each name.
use native.Mathlib.Omega.{arith}
use mathlib.Core.Path.{refl}
use Rattle.numbering.specs.Numbered.{next_merge}
use Rattle.node_words.specs.Paired.{pairing_start, pairing_room, pairing_next}
use Rattle.node_words.proofs.pair_words.Goals as goal

pub loop-t-init : goal.loop-t-init
loop-t-init c = pairing_start c.requires.0 c.requires.1

pub pair-a-requires-clause-in_small : goal.pair-a-requires-clause-in_small
pair-a-requires-clause-in_small c = (next_merge c.loop-t.invariant.numbered c.loop-t-test.true refl refl).in_small

pub bounds-number-a : goal.bounds-number-a
bounds-number-a c = omega (arith, pairing_room c.loop-t.invariant c.loop-t-test.true c.pair-a.ensures.larger c.pair-a.ensures.smaller)

pub bounds-number-b : goal.bounds-number-b
bounds-number-b c = omega (arith, pairing_room c.loop-t.invariant c.loop-t-test.true c.pair-a.ensures.larger c.pair-a.ensures.smaller)

pub bounds-number-a-in-loop-t : goal.bounds-number-a-in-loop-t
bounds-number-a-in-loop-t c = omega (arith, pairing_room c.loop-t.invariant c.loop-t-test.true c.pair-a.ensures.larger c.pair-a.ensures.smaller)

pub loop-t-preserved : goal.loop-t-preserved
loop-t-preserved c = pairing_next c.loop-t.invariant c.loop-t-test.true c.pair-a.ensures.larger c.pair-a.ensures.smaller c.pair_word.ensures
