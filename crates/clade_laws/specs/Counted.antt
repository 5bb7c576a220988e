-- In how many trees, by 01's clades as sets: `occurs` counts the trees that have the clade. Main definition: Counted.
use Rattle.std.specs.Prelude.{List, [], ◌∷◌, ℕ, suc}
use Rattle.rules.specs.Tree.{Tree}

-- k of the trees have the property
pub data Counted (P : Tree → Type 0) : List Tree → ℕ → Type 0 where
  none : Counted P [] 0
  one : {t : Tree} {ts : List Tree} {k : ℕ} → P t → Counted P ts k → Counted P (t ∷ ts) (suc k)
  skip : {t : Tree} {ts : List Tree} {k : ℕ} → (P t → ⊥) → Counted P ts k → Counted P (t ∷ ts) k
