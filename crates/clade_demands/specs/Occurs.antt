-- In how many trees of an archive a clade occurs, by the reader of tree r and by 01's clades, and how many leaves it has. Main definitions: HasClade,
-- HowMany, leaves_in.
use Rattle.std.specs.Prelude.{Bool, List, ◌≡◌, ℕ, suc}
use Rattle.rules.specs.Tree.{tree_of}
use Rattle.rules.specs.Answer.{made}
use Rattle.rules.specs.CallReadTree.{read_tree}
use Rattle.basics.specs.Sums.{one, sum_below}
use Rattle.clade_laws.specs.Inner.{CladeNumber}

-- m is the number of a clade of two leaves or more of tree r, the tree of the vector that the reader reads
abbrev pub HasClade : List ℕ → ℕ → ℕ → Type 0
HasClade s m r = (v : List ℕ) × (read_tree s r ≡ made v) × CladeNumber (tree_of v) m

-- k of the numbers below n have the property
pub data HowMany (P : ℕ → Type 0) : ℕ → ℕ → Type 0 where
  none_below : HowMany P 0 0
  one_more : {n k : ℕ} → P n → HowMany P n k → HowMany P (suc n) (suc k)
  no_more : {n k : ℕ} → (P n → ⊥) → HowMany P n k → HowMany P (suc n) k

-- how many leaves below n a set has
unfoldable pub leaves_in : ℕ → (ℕ → Bool) → ℕ
unfolding sum_below one
leaves_in n c = sum_below (λ x. one (c x)) n
