-- `shuffle` meets its contract. The loop's invariant is Emptying: the state of the queue, and that its result stays.
use Rattle.queue.proofs.Emptying.{Emptying}
use Rattle.queue.proofs.Queue.shuffle.Given as goal

abbrev pub invariant-loop-head : goal.invariant-loop-head
invariant-loop-head l = Emptying l.n l.left l.right l.initial.self.nodes l.initial.self.labels l.initial.self.given l.initial.tail l.self.nodes l.self.labels l.self.given l.head l.tail
