-- `archive::implied_length` meets its contract: nothing wraps, since an archive has at most 2,097,151 records of 1,279 bytes (`records_most`).
use native.Mathlib.Omega.{arith}
use Prim.Native.Nat.{◌*◌, ◌≤◌}
use Rattle.rules.specs.Archive.{implied_length}
use Rattle.archive.proofs.Header.{records_most}
use Rattle.archive.proofs.implied_length.Goals as goal

-- the records, in the length that was worked out
records : (c : goal.After-bare_length) → c.args.count * c.bare_length.result ≤ 2682256129
records c = rw c.bare_length.ensures (records_most c.args.n c.args.count c.requires.1 c.requires.2)

pub overflow_mul-result : goal.overflow_mul-result
overflow_mul-result c = omega (arith, records c)

pub overflow_add-result : goal.overflow_add-result
overflow_add-result c = omega (arith, records c)

pub returns : goal.returns
unfolding implied_length
returns c = rw c.bare_length.ensures
