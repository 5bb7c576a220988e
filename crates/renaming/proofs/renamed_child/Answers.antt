-- `renaming::renamed_child` meets its contract: a leaf is below n.
use mathlib.Core.Path.{sym, ap, ◌∙◌}
use Prim.Native.Nat.{ℕ}
use lib.ListN.{get_or}
use Rattle.rules.specs.Vector.{entry}
use Rattle.shuffle_laws.proofs.Rows.{child_leaf, child_inner}
use native.Mathlib.Omega.{arith}
use Rattle.renaming.proofs.renamed_child.Goals as goal

pub returns-then-at-p : goal.returns-then-at-p
unfolding entry
returns-then-at-p c = ap (λ (x : ℕ). get_or c.args.p.now x 0) c.from-at.ensures ∙ sym (child_leaf _ _ _ (omega (arith, c.from-at.ensures)))

pub returns-else-at-p : goal.returns-else-at-p
returns-else-at-p c = sym (child_inner _ _ _ (omega (arith, c.from-at.ensures)))
