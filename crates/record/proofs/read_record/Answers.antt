-- `record::read_record` meets its contract: the entries in their three parts, and the padding by the number that it stands for (`set_value`).
use native.Mathlib.Omega.{arith}
use borrow.Author.Rules.{rules}
use mathlib.Core.Path.{◌∙◌}
use Prim.Native.Nat.{◌+◌}
use lib.ListN.{length-set}
use Rattle.rules.specs.Archive.{field_bits}
use Rattle.record.proofs.Whole.{few_bytes, fields_left, padding_inside, parts_of, reading_start, set_value}
use Rattle.record.proofs.read_record.Goals as goal

pub overflow_mul-width : goal.overflow_mul-width
overflow_mul-width c = let k = few_bytes c.args.s.now c.args.start c.args.n c.requires.0 in search rules

pub read_fields-requires : goal.read_fields-requires
read_fields-requires c =
    let a = c.args in
    let F = c.requires.0 in (
      (
        fields_left a.s.now a.start a.n F _ (simp length-set c.requires.1),
        parts_of a.n F.some_leaf c.min-first.ensures c.fours_end-last.ensures,
        reading_start a.s.now a.start a.out.now (omega (arith, F.some_leaf)),
      ),
      rw c.field_bits.ensures (padding_inside a.s.now a.start a.n F),
    )

pub shape_of-out : goal.shape_of-out
shape_of-out c = c.read_fields.auto.out ∙ simp length-set

pub returns : goal.returns
returns c =
    let a = c.args in
    let e = c.read_fields.ensures in
    (e.0, rw e.1 (set_value a.s.now (a.start + field_bits a.n) _ (omega (arith, c.field_bits.ensures))))
