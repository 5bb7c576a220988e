-- `load_behind` meets its contract: nothing is loaded at the start and inside a batch.
use Rattle.clade_calls.specs.Filling.{loaded_next, header_bytes}
use native.Mathlib.Omega.{arith}
use Rattle.clade_calls.proofs.load_behind.Goals as goal

pub leaf_count-n-requires : goal.leaf_count-n-requires
leaf_count-n-requires c = omega (arith, header_bytes (c.requires.header (omega (arith, c.if-i-eq0.false))))

pub tree_count-count-requires : goal.tree_count-count-requires
tree_count-count-requires c = header_bytes (c.requires.header (omega (arith, c.if-i-eq0.false)))

pub returns-then-i-eq0-2 : goal.returns-then-i-eq0-2
returns-then-i-eq0-2 c = loaded_next (omega (arith, c.if-i-eq0.false)) c.if-i-eq0-2.true (rw (c.leaf_count-n.ensures, c.tree_count-count.ensures) at
    c.load_next.ensures)
