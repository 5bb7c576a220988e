-- One to one: valid vectors and rooted binary trees with leaves 0 to n-1, up to turning pairs round. Main results: same_clades_same_vector,
-- every_tree, only_vector.
use Rattle.std.specs.Prelude.{List, ◌↔◌, ◌≡◌, ℕ}
use Rattle.std.proofs.Common.{sym, ap, ◌∙◌, subst}
use Rattle.rules.specs.Vector.{Valid}
use Rattle.rules.specs.Tree.{Tree, leaf, tree_of, grown, LeavesBelow, SameClades}
use Rattle.rules.specs.Order.{order, vector_of, listed, entry_at}
use Rattle.basics.proofs.Listed.{length_listed}
use Rattle.clades.proofs.Size.{size_below}
use Rattle.clades.proofs.Form.{form_clades}
use Rattle.clades.proofs.Leaves.{below_some}
use Rattle.clades.proofs.Same.{same_refl, same_sym, same_trans}
use Rattle.building.specs.InOrder.{InOrder}
use Rattle.building.proofs.InOrder.{in_order_is_merges}
use Rattle.building.proofs.Entry.{merges_injective}
use Rattle.growing.proofs.OrderOf.{order_rising, order_good, order_greedy, order_under, order_once, grown_order}
use Rattle.laws.proofs.TreeOf.{equal_trees_equal_order}
use Rattle.laws.specs.OneToOne.{VectorOf}

-- Two valid vectors, of any lengths, are equal exactly when their trees have the same clades.
pub same_clades_same_vector : (v w : List ℕ) → Valid v → Valid w → (v ≡ w) ↔ SameClades (tree_of v) (tree_of w)
same_clades_same_vector v w ok ok' = (
  λ e. subst (λ (u : List ℕ). SameClades (tree_of v) (tree_of u)) e (same_refl (tree_of v)),
  λ s. merges_injective v w ok ok' (equal_trees_equal_order v w ok ok' s),
)

-- the order of a tree's merges is one that a vector has
order_in_order : (n : ℕ) (t : Tree) → LeavesBelow n t → InOrder n (order t)
order_in_order n t L = record {
  smaller_first = order_rising t L.once;
  of_clusters = order_good n t L;
  greatest_first = order_greedy t L.once;
  of_leaves = order_under n t L;
  each_once = order_once n t L;
}

vector_listed : (n : ℕ) (t : Tree) → LeavesBelow n t → listed n (entry_at (order t)) ≡ vector_of t
unfolding vector_of
vector_listed n t L = ap (λ (k : ℕ). listed k (entry_at (order t))) (sym (size_below n t L))

listed_vector : (n : ℕ) (t : Tree) → LeavesBelow n t → VectorOf n t (listed n (entry_at (order t)))
unfolding tree_of
listed_vector n t L =
    let w = in_order_is_merges n (order t) (below_some n t L) (order_in_order n t L) in
    record {
      valid = w.0;
      entries = length_listed n (entry_at (order t));
      clades = subst (λ (u : Tree). SameClades u t) (sym (ap (λ P. grown P leaf 0) w.1 ∙ grown_order n t L)) (same_sym t _ (form_clades t));
    }

-- Every rooted binary tree with leaves 0 to n-1, each once, has the clades of the tree of the vector that `vector_of` gives.
pub every_tree : (n : ℕ) (t : Tree) → LeavesBelow n t → VectorOf n t (vector_of t)
every_tree n t L = subst (VectorOf n t) (vector_listed n t L) (listed_vector n t L)

-- and of no other vector's tree: so whatever `vector_of` is made of, it is the one vector whose tree has the clades of t
pub only_vector : (n : ℕ) (t : Tree) → LeavesBelow n t → (v : List ℕ) → Valid v → SameClades (tree_of v) t → v ≡ vector_of t
only_vector n t L v ok s =
    let e = every_tree n t L in
    (same_clades_same_vector v (vector_of t) ok e.valid).1
    (same_trans (tree_of v) t (tree_of (vector_of t)) s (same_sym (tree_of (vector_of t)) t e.clades))
