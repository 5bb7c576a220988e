-- `fields::read_fields` meets its contract. One reading position is made, and moves on over the entries and the padding.
use Rattle.bit_reader.specs.Moving.{at_bit}
use Rattle.entry_reader.specs.Reading.{Read}
use Rattle.fields.proofs.Padding.{padding_behind, all_read}
use Rattle.fields.proofs.read_fields.Goals as goal

pub next_field-requires : goal.next_field-requires
next_field-requires c =
    let a = c.args in
    let r = c.read_entries-rest in
    let e : Read (at_bit a.start a.s) 1 a.n a.out.now r.result r.new.out = rw c.reading.ensures at r.ensures in
    rw e.moved (padding_behind a.s.now a.start a.n a.padding _ c.requires.1)

pub returns : goal.returns
returns c =
    let a = c.args in
    let r = c.read_entries-rest in
    let e : Read (at_bit a.start a.s) 1 a.n a.out.now r.result r.new.out = rw c.reading.ensures at r.ensures in
    all_read a.s a.start a.n a.padding a.other.now c.requires.1.3 c.requires.0.2 e (rw e.moved at c.next_field.ensures.1)
