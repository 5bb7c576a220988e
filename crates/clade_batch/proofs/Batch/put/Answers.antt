-- `Batch::put` meets its contract: nothing where the place is the end of a full batch, else three stores where room was made.
use mathlib.Core.Path.{◌≡◌, ◌∙◌, sym}
use Rattle.clade_batch.specs.Added.{put_full, put_in}
use native.Mathlib.Omega.{arith}
use Rattle.clade_batch.proofs.Batch.put.Goals as goal

pub returns-then-place-ge-MOST : goal.returns-then-place-ge-MOST
returns-then-place-ge-MOST c = let a = c.args in let h = c.requires in let e : a.k ≡ a.place = omega (arith, h.0, h.1, c.if-place-ge-MOST.true) in put_full a.self.now.words a.place a.leaves (sym h.2 ∙ e) c.if-place-ge-MOST.true (omega arith)

pub returns : goal.returns
returns c = let a = c.args in
    let h = c.requires in
    put_in a.leaves c.make_room.ensures (omega arith) (omega arith) (omega arith) a.k (sym h.2) h.1 h.0 c.min-n.ensures
