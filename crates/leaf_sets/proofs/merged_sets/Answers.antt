-- `merged_sets` meets its contract: the first t merges are done.
use mathlib.Core.Path.{refl}
use Rattle.leaf_sets.specs.Merging.{merging_start, next_sets, merging_next, merging_end}
use Rattle.leaf_sets.proofs.merged_sets.Goals as goal

pub loop-t-init : goal.loop-t-init
loop-t-init c = let h = c.requires in merging_start h.0 h.1

pub pair-a-requires-clause-in_small : goal.pair-a-requires-clause-in_small
pair-a-requires-clause-in_small c = (next_sets c.loop-t.invariant c.loop-t-test.true refl refl).in_small

pub bounds-clusters-a : goal.bounds-clusters-a
bounds-clusters-a c = (next_sets c.loop-t.invariant c.loop-t-test.true c.pair-a.ensures.larger c.pair-a.ensures.smaller).a_in_clusters

pub bounds-clusters-b : goal.bounds-clusters-b
bounds-clusters-b c = (next_sets c.loop-t.invariant c.loop-t-test.true c.pair-a.ensures.larger c.pair-a.ensures.smaller).b_in_clusters

pub overflow_add-both : goal.overflow_add-both
overflow_add-both c = record { fits = (next_sets c.loop-t.invariant c.loop-t-test.true c.pair-a.ensures.larger c.pair-a.ensures.smaller).fits }

pub bounds-clusters-a-in-loop-t : goal.bounds-clusters-a-in-loop-t
bounds-clusters-a-in-loop-t c = (next_sets c.loop-t.invariant c.loop-t-test.true c.pair-a.ensures.larger c.pair-a.ensures.smaller).a_in_clusters

pub loop-t-preserved : goal.loop-t-preserved
loop-t-preserved c = merging_next c.loop-t.invariant c.loop-t-test.true c.pair-a.ensures.larger c.pair-a.ensures.smaller

pub returns : goal.returns
returns c = merging_end c.loop-t.invariant c.loop-t-test.false
