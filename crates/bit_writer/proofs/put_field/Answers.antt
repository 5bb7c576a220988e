-- `bit_writer::put_field` meets its contract: a field without bits changes nothing (`none_held`).
use borrow.Author.Rules.{rules}
use Prim.Native.Nat.{◌/◌, ◌%◌}
use Rattle.bit_writer.proofs.Writing.{none_held}
use Rattle.bit_writer.proofs.put_field.Goals as goal

pub returns-then-width-eq0 : goal.returns-then-width-eq0
returns-then-width-eq0 c = let a = c.args in
    let w = a.w in
    record {
      same = search rules;
      long = search rules;
      count = search rules;
      held = λ bits r. none_held bits w.acc (w.bits % 8) (w.bits / 8) w.out.now a.width a.x c.if-width-eq0.true r;
    }
