-- `Batch::make_room` meets its contract: the clades from place j on are moved.
use Rattle.std.proofs.Common.{◌∙◌, ◌≡◌, ◌+◌, ◌-◌, ◌*◌, get_or, set, length-set}
use Rattle.clade_batch.specs.Moved.{moved_start, moved_next}
use native.Mathlib.Omega.{arith}
use Rattle.clade_batch.proofs.Batch.make_room.Goals as goal

pub loop-j-init : goal.loop-j-init
loop-j-init c = (omega arith, omega arith, moved_start c.args.self.now.words c.args.n)

pub loop-j-preserved : goal.loop-j-preserved
loop-j-preserved c =
    let I = c.loop-j.invariant in
    let w = c.loop-j.self.words in
    let j = c.loop-j.j - 1 in (
      omega arith,
      length-set (set w (2 * j + 2) (get_or w (2 * j) 0)) (2 * j + 3) _ ∙ length-set w (2 * j + 2) _ ∙ I.1,
      moved_next j (omega arith) I.2 (omega arith) (omega (arith, I.2.same)),
    )

pub returns : goal.returns
returns c =
    let e : c.loop-j.j ≡ c.args.place = omega (arith, c.loop-j.invariant.0) in
    rw e at c.loop-j.invariant.2
