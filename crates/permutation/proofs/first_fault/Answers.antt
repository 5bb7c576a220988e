-- `permutation::first_fault` meets its contract. The loop's invariant is Search: the values before index i have no fault.
use Rattle.permutation.specs.Marks.{search_start, search_next, search_stop, search_end}
use Rattle.permutation.proofs.first_fault.Goals as goal

pub loop-i-init : goal.loop-i-init
loop-i-init c = rw c.requires.1 (search_start _ _ c.requires.0)

pub returns-then-not-mark : goal.returns-then-not-mark
returns-then-not-mark c = let found = c.mark in
    search_stop c.loop-i.invariant c.loop-i-test.true found.ensures c.if-not-mark.true

pub loop-i-preserved : goal.loop-i-preserved
loop-i-preserved c = let found = c.mark in
    search_next c.loop-i.invariant c.loop-i-test.true found.ensures c.if-not-mark.false

pub returns : goal.returns
returns c = search_end c.loop-i.invariant c.loop-i-test.false
