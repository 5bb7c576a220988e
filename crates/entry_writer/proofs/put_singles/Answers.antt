-- `entry_writer::put_singles` meets its contract. The loop keeps `Ahead`.
use native.Mathlib.Omega.{arith}
use Rattle.entry_writer.proofs.Putting.{ahead_start, ahead_fits, ahead_one, ahead_end}
use Rattle.entry_writer.proofs.put_singles.Goals as goal

pub loop-k-init : goal.loop-k-init
loop-k-init c = ahead_start c.requires

pub put_field-q-requires : goal.put_field-q-requires
put_field-q-requires c =
    let f = ahead_fits c.loop-k.invariant c.loop-k-test.true in (
      omega (arith, f.0, c.field_width.ensures),
      rw (c.from.ensures, c.field_width.ensures) f.1,
      f.2,
    )

pub loop-k-preserved : goal.loop-k-preserved
loop-k-preserved c =
    ahead_one c.loop-k.invariant c.loop-k-test.true c.put_field-q.result
    (rw (c.from.ensures, c.field_width.ensures) at c.put_field-q.ensures)

pub returns : goal.returns
returns c = ahead_end c.loop-k.invariant c.loop-k-test.false
