-- `lengths::field_bits` meets its contract: L(n) counts the 11 bits of the leaf count (`total_header`).
use native.Mathlib.Omega.{arith}
use borrow.Author.Rules.{rules}
use Rattle.rules.specs.Archive.{field_bits}
use Rattle.record_laws.proofs.Fields.{total_header}
use Rattle.lengths.proofs.field_bits.Goals as goal

pub overflow_sub-result : goal.overflow_sub-result
overflow_sub-result c = omega (arith, total_header c.args.n)

pub returns : goal.returns
unfolding field_bits
returns c = search rules
