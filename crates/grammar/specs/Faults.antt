-- No label of bytes that are labelled as a tree is at fault exactly when the leaves of its tree are 0 to n-1, each once. Main definitions: used_by.
use Rattle.std.specs.Prelude.{◌≡◌, Bool, true, false, cond, ◌||◌, not, List, [], ◌∷◌, ℕ, ◌<◌, ltb}
use Rattle.std.proofs.Math.Option.{Option, none, some}
use Rattle.rules.specs.Building.{member}
use Rattle.rules.specs.Names.{PlacedFault}
use Rattle.rules.specs.Tree.{Tree, leaf, node, has, Distinct}

-- the first fault among labels without their places: is there none?
unfoldable pub fits : ℕ → List ℕ → List ℕ → Bool
unfolding member
fits n used [] = true
fits n used (x ∷ xs) = cond (not (ltb x n) || member x used) false (fits n (x ∷ used) xs)

abbrev pub is_none : Option PlacedFault → Bool
is_none none = true
is_none (some x) = false

-- the labels used once a tree's leaves are
unfoldable pub used_by : Tree → List ℕ → List ℕ
used_by (leaf x) used = x ∷ used
used_by (node l r) used = used_by r (used_by l used)

-- what it means that the leaves of a tree fit behind used labels
pub record Fitting (n : ℕ) (used : List ℕ) (t : Tree) : Type 0 where
  pub once : Distinct t
  pub small : (x : ℕ) → has t x ≡ true → x < n
  pub fresh : (x : ℕ) → has t x ≡ true → member x used ≡ false
