-- The tree of a vector: its leaves, how it stands, and that the building rule merges its pairs in the order that fact 1 says.
-- Main results: tree_leaves, tree_form, tree_turned, fact_one, equal_trees_equal_order, vector_again.
use Rattle.std.specs.Prelude.{Bool, true, false, List, ◌≡◌, refl, ℕ, ltb, length}
use Rattle.std.proofs.Common.{sym, ap, ap₂, ◌∙◌, subst, arith, ltb-true, ltb-false}
use Rattle.rules.specs.Vector.{Valid, entry}
use Rattle.rules.specs.Building.{merges}
use Rattle.rules.specs.Tree.{leaf, size, tree_of, grown, LeavesBelow, SameClades}
use Rattle.rules.specs.Order.{order, vector_of, listed, entry_at}
use Rattle.clades.specs.Form.{form, Turned}
use Rattle.clades.proofs.Form.{form_turned}
use Rattle.clades.proofs.Same.{same_leaves}
use Rattle.clades.proofs.Size.{size_below}
use Rattle.merging.specs.Insertion.{pairs}
use Rattle.merging.proofs.Insertion.{valid_bounded}
use Rattle.merging.proofs.Named.{rising}
use Rattle.building.proofs.Built.{merges_are_pairs}
use Rattle.building.proofs.Entry.{entries_of_merges}
use Rattle.growing.proofs.Fact1.{pairs_order, pairs_below}
use Rattle.growing.proofs.Grown.{form_grown}
use Rattle.growing.proofs.OrderOf.{same_order}

-- the tree by insertion
pub tree_by_pairs : (v : List ℕ) → Valid v → tree_of v ≡ grown (pairs v) leaf 0
unfolding tree_of
tree_by_pairs v ok = rw (merges_are_pairs v ok)

-- the leaves are 0 to n-1, each once
pub tree_leaves : (v : List ℕ) → Valid v → LeavesBelow (length v) (tree_of v)
tree_leaves v ok = rw (tree_by_pairs v ok) (pairs_below v (valid_bounded v ok) ok.some_leaf)

pub tree_size : (v : List ℕ) → Valid v → size (tree_of v) ≡ length v
tree_size v ok = size_below (length v) (tree_of v) (tree_leaves v ok)

pub tree_form : (v : List ℕ) → Valid v → form (tree_of v) ≡ tree_of v
unfolding pairs
tree_form v ok = rw (tree_by_pairs v ok) (form_grown (pairs v) (rising (entry v) (length v) (valid_bounded v ok)))

-- "the child with the smaller least leaf first"
pub tree_turned : (v : List ℕ) → Valid v → Turned (tree_of v)
tree_turned v ok = subst Turned (tree_form v ok) (form_turned (tree_of v) (tree_leaves v ok).once)

-- Fact 1 of 01: "The order of merges depends on the tree alone: of the pairs whose two clusters are complete,
-- the one whose larger name is greatest comes first."
pub fact_one : (v : List ℕ) → Valid v → merges v ≡ order (tree_of v)
fact_one v ok = rw (tree_by_pairs v ok, merges_are_pairs v ok) (sym (pairs_order v (valid_bounded v ok)))

-- trees with the same clades have the same number of leaves
same_count : (m n : ℕ) → ((x : ℕ) → ltb x m ≡ ltb x n) → m ≡ n
same_count m n h = go (ltb m n) (ltb n m) refl refl
  where
    go : (a b : Bool) → ltb m n ≡ a → ltb n m ≡ b → m ≡ n
    go true b p q = absurd (omega (arith, ltb-true m m (h m ∙ p)))
    go false true p q = absurd (omega (arith, ltb-true n n (sym (h n) ∙ q)))
    go false false p q = omega (arith, ltb-false m n p, ltb-false n m q)

same_length : (v w : List ℕ) → Valid v → Valid w → SameClades (tree_of v) (tree_of w) → length v ≡ length w
same_length v w ok ok' s =
    same_count (length v) (length w)
    (λ x. sym ((tree_leaves v ok).all x) ∙ same_leaves (tree_of v) (tree_of w) s x ∙ (tree_leaves w ok').all x)

-- "depends on the tree alone": trees with the same clades have the same order of merges
pub equal_trees_equal_order : (v w : List ℕ) → Valid v → Valid w → SameClades (tree_of v) (tree_of w) → merges v ≡ merges w
equal_trees_equal_order v w ok ok' s =
    fact_one v ok
    ∙ same_order (length v) (tree_of v) (tree_of w) (tree_leaves v ok) (rw (same_length v w ok ok' s) (tree_leaves w ok')) s
    ∙ sym (fact_one w ok')

-- the vector of a valid vector's tree is that vector
pub vector_again : (v : List ℕ) → Valid v → vector_of (tree_of v) ≡ v
unfolding vector_of
vector_again v ok =
    ap₂ listed (tree_size v ok) (ap entry_at (sym (fact_one v ok))) ∙ entries_of_merges v ok
