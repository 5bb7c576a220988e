-- The counts add up to trees times (n-1); the order of the trees does not count. Main definitions: sum_counts, Reordered.
use Rattle.std.specs.Prelude.{List, [], ◌∷◌, ℕ, ◌+◌}
use Rattle.rules.specs.Tree.{Tree}
use Rattle.rules.specs.declared.Clade.{Clade as Entry}

-- the counts of a table, added up
unfoldable pub sum_counts : List Entry → ℕ
sum_counts [] = 0
sum_counts (e ∷ es) = e.count + sum_counts es

-- the sum of f over a list
unfoldable pub sum_over : (ℕ → ℕ) → List ℕ → ℕ
sum_over f [] = 0
sum_over f (m ∷ l) = f m + sum_over f l

-- the same trees in another order
pub data Reordered : List Tree → List Tree → Type 0 where
  same : {ts : List Tree} → Reordered ts ts
  swap : {t u : Tree} {ts : List Tree} → Reordered (t ∷ u ∷ ts) (u ∷ t ∷ ts)
  keep : {t : Tree} {ts us : List Tree} → Reordered ts us → Reordered (t ∷ ts) (t ∷ us)
  after : {ts us ws : List Tree} → Reordered ts us → Reordered us ws → Reordered ts ws
