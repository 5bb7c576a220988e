-- `archive_writing::write_header` meets its contract: n and the tree count are put (`header_put`) and copied.
use native.Mathlib.Omega.{arith}
use mathlib.Core.Path.{refl, ◌∙◌}
use Rattle.archive_writing.proofs.Header.{header_long, header_put}
use Rattle.archive_writing.proofs.write_header.Goals as goal

pub copy-requires : goal.copy-requires
copy-requires c = (omega (arith, header_long _ _ c.begin-none.ensures refl c.put_bits-leaves.ensures c.put_bits-both.ensures), omega arith)

pub returns : goal.returns
returns c = c.copy.ensures ∙ rw (header_put _ _ c.begin-none.ensures refl c.put_bits-leaves.ensures c.put_bits-both.ensures)
