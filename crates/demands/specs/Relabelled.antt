-- Renamed leaves: what relabelling and Queue Shuffle make of a vector's tree. Main definitions: Permutation, unmoved, NewNames, Relabelled, Shuffled.
use Rattle.std.specs.Prelude.{Bool, true, List, ◌↔◌, ◌≡◌, ℕ, ◌≤◌, ◌<◌, length}
use Rattle.rules.specs.Vector.{Valid, entry}
use Rattle.rules.specs.Tree.{tree_of, Clade, SameClades}
use Rattle.rules.specs.Order.{listed}
use Rattle.rules.specs.Shuffle.{renamed}

-- a permutation of the leaves 0 to n-1: n values, each below n and none of them twice
pub record Permutation (n : ℕ) (p : List ℕ) : Type 0 where
  pub values : length p ≡ n
  pub below : (x : ℕ) → x < n → entry p x < n
  pub apart : (x y : ℕ) → x < n → y < n → entry p x ≡ entry p y → x ≡ y

-- every leaf keeps its name
unfoldable pub unmoved : ℕ → List ℕ
unfolding listed
unmoved n = listed n (λ x. x)

-- "leaf x becoming p(x)": d is the set of the new names of the leaves in c
abbrev pub NewNames : List ℕ → (ℕ → Bool) → (ℕ → Bool) → Type 0
NewNames p c d = (y : ℕ) → (d y ≡ true) ↔ ((x : ℕ) × (c x ≡ true) × (entry p x ≡ y))

-- w is the vector of v's tree with leaf x renamed p(x): valid, with as many entries, and a set of leaves is a clade of its tree exactly when it is
-- the set of the new names of a clade of v's tree; no other vector has a tree with the clades of the renamed one
pub record Relabelled (v p w : List ℕ) : Type 0 where
  pub valid : Valid w
  pub entries : length w ≡ length v
  pub clades : SameClades (tree_of w) (renamed p (tree_of v))
  pub clades_renamed : (d : ℕ → Bool) → Clade (tree_of w) d ↔ ((c : ℕ → Bool) × Clade (tree_of v) c × NewNames p c d)
  pub only : (u : List ℕ) → Valid u → SameClades (tree_of u) (renamed p (tree_of v)) → u ≡ w

-- "The result is the permutation new and the vector of the relabelled tree, which has v(i) < i for all i >= 1"
pub record Shuffled (v new w : List ℕ) : Type 0 where
  pub permutation_new : Permutation (length v) new
  pub relabelled_by_new : Relabelled v new w
  pub ordered : (i : ℕ) → 1 ≤ i → i < length v → entry w i < i
