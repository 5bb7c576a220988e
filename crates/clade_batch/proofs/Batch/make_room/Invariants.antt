-- `Batch::make_room` meets its contract: the clades from place j on are moved.
use Rattle.std.proofs.Common.{◌≡◌, ◌≤◌, length}
use Rattle.clade_batch.specs.Moved.{Moved}
use Rattle.clade_batch.proofs.Batch.make_room.Given as goal

abbrev pub invariant-loop-j : goal.invariant-loop-j
invariant-loop-j l = (l.place ≤ l.j) × (length l.self.words ≡ 8193) × Moved l.initial.self.words l.n l.j l.self.words
