-- The tree after a merge: its ready pair is one complete cluster. Grafting the pair gives the tree back, up to turning. Main definition: Collapsed.
use Rattle.std.specs.Prelude.{◌≡◌, ◌≢◌, ◌⊎◌, true, false}
use Rattle.std.proofs.Math.Option.{some}
use Rattle.rules.specs.Building.{Merge}
use Rattle.rules.specs.Tree.{Tree, leaf, node, has, Distinct}
use Rattle.rules.specs.Order.{ready, collapse}
use Rattle.clades.specs.Form.{form}
use Rattle.growing.specs.Grown.{graft}

-- a node is the pair itself, or is left with its two parts merged within
abbrev pub Cases : Merge → Tree → Tree → Type 0
Cases m l r = ((ready l r ≡ some m) × (collapse m (node l r) ≡ leaf m.0)) ⊎ (collapse m (node l r) ≡ node (collapse m l) (collapse m r))

-- u is t with the pair m put back as the leaf of its smaller name
pub record Collapsed (m : Merge) (t u : Tree) : Type 0 where
  pub form_back : form t ≡ graft m (form u)
  pub once : Distinct u
  pub smaller : has u m.0 ≡ true
  pub larger : has u m.1 ≡ false

-- no name of p is the smaller name of m
unfoldable pub Clear : Merge → Merge → Type 0
Clear m p = (p.0 ≢ m.0) × (p.1 ≢ m.0)
