-- The order of a tree's merges: of the ready pairs the one with the greatest larger name comes first. Lists of merges in that order and trees up to
-- turning are the same thing. Main definition: Step.
use Rattle.std.specs.Prelude.{◌≡◌}
use Rattle.std.proofs.Math.Option.{some}
use Prim.Native.Nat.{◌<◌}
use Rattle.rules.specs.Building.{Merge}
use Rattle.rules.specs.Tree.{Tree}
use Rattle.rules.specs.Order.{best, collapse}
use Rattle.growing.specs.Ready.{Ready, Greatest}
use Rattle.growing.specs.Collapse.{Collapsed}

-- the list of a tree's merges

-- m is the best pair of a tree with distinct leaves, and is put back as its smaller name
pub record Step (m : Merge) (t : Tree) : Type 0 where
  pub is_best : best t ≡ some m
  pub top : Greatest (λ p. Ready p t) m
  pub rises : m.0 < m.1
  pub back : Collapsed m t (collapse m t)
