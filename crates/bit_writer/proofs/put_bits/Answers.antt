-- `bit_writer::put_bits` meets its contract: the bits are pushed in from below, and all that is held is stored (`put_counted`).
use native.Mathlib.Omega.{arith}
use borrow.Author.Rules.{rules}
use Rattle.bit_writer.proofs.Writing.{put_counted}
use Rattle.bit_writer.proofs.put_bits.Goals as goal

pub returns : goal.returns
returns c =
    let a = c.args in
    let w = a.w in
    record {
      same = search rules;
      long = c.store_word.auto.out;
      count = search rules;
      held = λ bits r. rw c.store_word.ensures (put_counted bits w.acc w.bits w.out.now a.width a.x r (omega arith) (omega arith) (omega arith));
    }
