-- The clade table: it rises, has exactly the clades that occur, their sizes and counts, and is the only such list. Main definitions: IsTable, InSome,
-- Each, leaves_of, count_in.
use Rattle.std.specs.Prelude.{◌≡◌, ◌⊎◌, ◌↔◌, true, cond, List, [], ◌∷◌, ℕ, eqb}
use Rattle.std.specs.Int.Count.{ones}
use Rattle.rules.specs.Building.{member}
use Rattle.rules.specs.Tree.{Tree, size}
use Rattle.rules.specs.declared.Clade.{Clade as Entry}
use Rattle.rules.specs.CladeTable.{inner, occurs}
use Rattle.clade_laws.specs.Inner.{PairIn}
use Rattle.clade_laws.specs.Rising.{From}

-- what holds of each element
unfoldable pub Each : {A : Type 0} → (A → Type 0) → List A → Type 0
Each P [] = Unit {0}
Each P (x ∷ l) = P x × Each P l

-- the leaf sets of entries
unfoldable pub leaves_of : List Entry → List ℕ
leaves_of [] = []
leaves_of (e ∷ es) = e.leaves ∷ leaves_of es

-- m is an inner leaf set of some tree
unfoldable pub InSome : ℕ → List Tree → Type 0
InSome m [] = ⊥
InSome m (t ∷ ts) = (member m (inner t) ≡ true) ⊎ InSome m ts

-- the count of a leaf set in a table, 0 where it is not there
unfoldable pub count_in : List Entry → ℕ → ℕ
count_in [] m = 0
count_in (e ∷ es) m = cond (eqb e.leaves m) e.count (count_in es m)

-- "one entry for each different clade of two leaves or more, its leaf set .., its size, and in how many trees it occurs. Entries rise"
pub record IsTable (ts : List Tree) (es : List Entry) : Type 0 where
  pub rises : From 0 (leaves_of es)
  pub holds : (m : ℕ) → (member m (leaves_of es) ≡ true) ↔ InSome m ts
  pub sizes : Each (λ e. e.size ≡ ones e.leaves) es
  pub counts : Each (λ e. e.count ≡ occurs e.leaves ts) es

-- u is a pair of one of the trees
unfoldable pub PairOf : Tree → List Tree → Type 0
unfolding PairIn
PairOf u [] = ⊥
PairOf u (t ∷ ts) = PairIn u t ⊎ PairOf u ts
