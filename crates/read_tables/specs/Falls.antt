-- The order of a tree's merges is that of its chains: at each node the orders of the two parts merge by the greater larger name, which is run by run,
-- and the node's own pair comes last. Main definitions: Merged, Goes.
use Rattle.std.specs.Prelude.{◌≡◌, ℕ, ◌+◌, ◌<◌}
use mathlib.Core.List.{List, [], ◌∷◌}
use Rattle.std.proofs.Math.Option.{some}
use Rattle.rules.specs.Tree.{Tree, size}
use Rattle.rules.specs.Order.{best, collapse}
use Rattle.read_tables.specs.Larger.{inner, Pair}

-- a list's head, if there is one, is below x
unfoldable pub HeadBelow : ℕ → List ℕ → Type 0
HeadBelow x [] = Unit {0}
HeadBelow x (y ∷ ys) = y < x

-- two lists merged by always taking the greater head
pub data Merged : List ℕ → List ℕ → List ℕ → Type 0 where
  ends : Merged [] [] []
  first : {x : ℕ} {xs ys zs : List ℕ} → HeadBelow x ys → Merged xs ys zs → Merged (x ∷ xs) ys (x ∷ zs)
  second : {y : ℕ} {xs ys zs : List ℕ} → HeadBelow y xs → Merged xs ys zs → Merged xs (y ∷ ys) (y ∷ zs)

-- the merges of a tree by the larger names in the list, one after the other, are the best each time, and nothing is left
unfoldable pub Goes : (ℕ → ℕ) → Tree → List ℕ → Type 0
Goes s t [] = inner t ≡ 0
Goes s t (i ∷ is) = Pair t i × (best t ≡ some (s i, i)) × (size (collapse (s i, i) t) + 1 ≡ size t) × Goes s (collapse (s i, i) t) is
