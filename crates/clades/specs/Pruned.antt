-- A tree with some of its leaves taken out: a pair that loses one side becomes the other side. Main definitions: beside, pruned, Restriction.
use Rattle.std.specs.Prelude.{◌≡◌, Bool, ◌&&◌, cond, ℕ}
use Rattle.std.proofs.Math.Bool.{true}
use Rattle.std.proofs.Math.Option.{Option, none, some}
use Rattle.rules.specs.Tree.{Tree, leaf, node, Clade}

-- what is left of a pair
unfoldable pub beside : Option Tree → Option Tree → Option Tree
beside none u = u
beside (some t) none = some t
beside (some t) (some u) = some (node t u)

-- the tree of the leaves that are kept; none where there are none
unfoldable pub pruned : (ℕ → Bool) → Tree → Option Tree
unfolding beside
pruned keep (leaf x) = cond (keep x) (some (leaf x)) none
pruned keep (node l r) = beside (pruned keep l) (pruned keep r)

-- c is got "by keeping, in each clade" of the tree, only some leaves, and is not empty
pub record Restriction (keep : ℕ → Bool) (t : Tree) (c : ℕ → Bool) : Type 0 where
  pub whole : ℕ → Bool
  pub is_clade : Clade t whole
  pub cut : (x : ℕ) → c x ≡ whole x && keep x
  pub not_empty : (x : ℕ) × (c x ≡ true)

-- what is left, pruned again
unfoldable pub again : (ℕ → Bool) → Option Tree → Option Tree
again keep none = none
again keep (some t) = pruned keep t
