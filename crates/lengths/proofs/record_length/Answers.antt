-- `lengths::record_length` meets its contract.
use native.Mathlib.Omega.{arith}
use borrow.Author.Rules.{rules}
use Rattle.rules.specs.Record.{record_length}
use Rattle.record_laws.proofs.Width.{total_most}
use Rattle.lengths.proofs.record_length.Goals as goal

pub overflow_add-result : goal.overflow_add-result
overflow_add-result c = omega (arith, total_most c.args.n (omega arith))

pub returns : goal.returns
unfolding record_length
returns c = search rules
