-- `archive::bare_length` meets its contract.
use native.Mathlib.Omega.{arith}
use borrow.Author.Rules.{rules}
use Rattle.rules.specs.Archive.{bare_length}
use Rattle.archive.proofs.Header.{bits_most}
use Rattle.archive.proofs.bare_length.Goals as goal

pub overflow_add-result : goal.overflow_add-result
overflow_add-result c = omega (arith, bits_most c.args.n (omega arith))

pub returns : goal.returns
unfolding bare_length
returns c = search rules
