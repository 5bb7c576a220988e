-- Falling trees: the larger name of each pair is smaller than those of the pairs under it. Their merges go n-1, n-2, .., 1. Main definitions: higher,
-- tops, Falling, Left, Next, Down.
use Rattle.std.specs.Prelude.{◌≡◌, ◌≢◌, List, [], ◌∷◌, ℕ, zero, suc, ◌+◌, ◌≤◌, ◌<◌, max, ltb}
use Rattle.std.proofs.Math.Option.{some}
use Rattle.rules.specs.Building.{Merge}
use Rattle.rules.specs.Tree.{Tree, leaf, node, least}
use Rattle.rules.specs.Order.{best, collapse}
use Rattle.basics.specs.Sums.{one}
use Rattle.merging.specs.Once.{hit}

-- the larger name of the pair of two parts
abbrev pub higher : Tree → Tree → ℕ
higher l r = max (least l) (least r)

-- of how many pairs x is the larger name
unfoldable pub tops : ℕ → Tree → ℕ
unfolding hit least
tops x (leaf y) = 0
tops x (node l r) = hit x (higher l r) + tops x l + tops x r

-- larger names are lo or more, and each is smaller than those of the pairs under it
unfoldable pub Falling : ℕ → Tree → Type 0
unfolding least
Falling lo (leaf x) = Unit {0}
Falling lo (node l r) = (least l ≢ least r) × (lo ≤ higher l r) × Falling (suc (higher l r)) l × Falling (suc (higher l r)) r

-- What a merge leaves of a tree: its least leaf and its order stay, and the merge's larger name is one less.
pub record Left (t t' : Tree) (m : Merge) : Type 0 where
  pub name : least t' ≡ least t
  pub fewer : (x : ℕ) → tops x t' + hit x m.1 ≡ tops x t
  pub falls : (lo : ℕ) → Falling lo t → Falling lo t'

-- no name is the larger name of two pairs
abbrev pub Once : Tree → Type 0
Once t = (x : ℕ) → tops x t ≤ 1

-- The next merge of a falling tree: its larger name is the greatest of all.
pub record Next (t : Tree) (m : Merge) : Type 0 where
  pub found : best t ≡ some m
  pub rises : m.0 < m.1
  pub counted : 1 ≤ tops m.1 t
  pub greatest : (x : ℕ) → 1 ≤ tops x t → x ≤ m.1
  pub leaves : Once t → Left t (collapse m t) m

-- what the next merge of a part is: none of a leaf
unfoldable pub NextOf : Tree → Type 0
NextOf (leaf x) = Unit {0}
NextOf (node l r) = (m : Merge) × Next (node l r) m

-- merges with the larger names k, k-1, .., 1, each above its smaller name
unfoldable pub Down : ℕ → List Merge → Type 0
Down zero ms = Unit {0}
Down (suc k) [] = ⊥
Down (suc k) (m ∷ ms) = (m.0 < m.1) × (m.1 ≡ suc k) × Down k ms

-- the larger names of a tree are 1 to k, each once
abbrev pub Names : ℕ → Tree → Type 0
Names k t = (x : ℕ) → tops x t + hit x 0 ≡ one (ltb x (suc k))
