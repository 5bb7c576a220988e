use mathlib.Core.Path.{refl}
use Rattle.text_laws.proofs.Cells.{leaf_small, leaf_large}
use Rattle.text_cells.proofs.leaf.Goals as goal

pub returns-then-x-lt1024 : goal.returns-then-x-lt1024
returns-then-x-lt1024 c = (refl, leaf_small _ _ c.if-x-lt1024.true)

pub returns-else-x-lt1024 : goal.returns-else-x-lt1024
returns-else-x-lt1024 c = (refl, leaf_large _ _ c.if-x-lt1024.false)
