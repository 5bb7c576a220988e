-- `follow` meets its contract. The invariant: every walk that could begin at the key k has come to j.
use Rattle.chains.specs.Walk.{cell, far}
use Rattle.entries.specs.Keyed.{Following}
use Rattle.entries.proofs.follow.Given as goal

abbrev pub invariant-loop-j : goal.invariant-loop-j
invariant-loop-j l = Following l.k l.keys l.next l.initial.set.blocks l.initial.set.names l.initial.out l.set.blocks l.set.names l.out l.j

abbrev pub decreases-loop-j : goal.decreases-loop-j
decreases-loop-j l = far (cell l.next) 1024 l.j
