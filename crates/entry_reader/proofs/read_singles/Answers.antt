-- `entry_reader::read_singles` meets its contract. The loop keeps `Onward`.
use native.Mathlib.Omega.{arith}
use mathlib.Core.Path.{refl}
use Rattle.entry_reader.proofs.Reading.{onward_start, onward_fits, onward_one, onward_done}
use Rattle.entry_reader.proofs.read_singles.Goals as goal

pub loop-k-init : goal.loop-k-init
loop-k-init c = (refl, onward_start c.requires)

pub field_width-requires : goal.field_width-requires
field_width-requires c = let l = c.loop-k.invariant.1.left in (l.some_read, omega (arith, l.few))

pub next_field-q-requires : goal.next_field-q-requires
next_field-q-requires c = onward_fits c.loop-k.invariant.1 c.loop-k-test.true c.field_width.result c.field_width.ensures

pub loop-k-preserved : goal.loop-k-preserved
loop-k-preserved c =
    let e = c.next_field-q.ensures in
    rw e.0
    (c.loop-k.invariant.0, onward_one c.loop-k.invariant.1 c.loop-k-test.true c.field_width.result c.next_field-q.new.out c.field_width.ensures e.1)

pub returns : goal.returns
returns c = onward_done c.args.r c.loop-k.q c.loop-k.invariant.0 c.loop-k.invariant.1 c.loop-k-test.false
