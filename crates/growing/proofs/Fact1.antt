-- Fact 1 of 01: "The order of merges depends on the tree alone: of the pairs whose two clusters are complete, the one whose larger name is greatest
-- comes first." Main results: fact_1 (of a tree's order), pairs_order, pairs_below. Of the clusters that merges build: Complete.
use Rattle.std.specs.Prelude.{◌≡◌, List, ◌∷◌, ℕ, zero, suc, ◌≤◌, ◌<◌, length, take, get_or}
use Rattle.std.proofs.Common.{arith}
use Rattle.rules.specs.Vector.{entry}
use Rattle.rules.specs.Building.{Merge}
use Rattle.rules.specs.Tree.{Tree, leaf, grown, Distinct, LeavesBelow}
use Rattle.rules.specs.Order.{collapse, order}
use Rattle.merging.specs.Insertion.{pairs, Bounded}
use Rattle.merging.proofs.Greedy.{greedy}
use Rattle.merging.proofs.Named.{good, rising, pairs_named}
use Rattle.growing.proofs.Grown.{grown_below}
use Rattle.growing.specs.Ready.{Ready, Greatest}
use Rattle.growing.specs.OrderOf.{Step}
use Rattle.growing.proofs.OrderOf.{order_induct, order_of_grown}
use Rattle.growing.specs.Fact1.{after}

-- fact 1: at each step, of the pairs of the tree that are complete and not merged, the one whose larger name is greatest is merged
pub fact_1 : (t : Tree) → Distinct t → (k : ℕ) → k < length (order t) → Greatest (λ p. Ready p (after (take k (order t)) t)) (get_or (order t) k (0, 0))
fact_1 = order_induct (λ t P. (k : ℕ) → k < length P → Greatest (λ p. Ready p (after (take k P) t)) (get_or P k (0, 0))) (λ x k h. absurd (omega arith)) more
  where
    more : (m : Merge) (t : Tree) (P : List Merge) → Step m t
        → ((k : ℕ) → k < length P → Greatest (λ p. Ready p (after (take k P) (collapse m t))) (get_or P k (0, 0)))
        → (k : ℕ) → k < length (m ∷ P) → Greatest (λ p. Ready p (after (take k (m ∷ P)) t)) (get_or (m ∷ P) k (0, 0))
    more m t P s f zero h = unfold after in s.top
    more m t P s f (suc k) h = unfold after in f k (omega arith)

-- the order of the tree of a vector's merges is the merges
pub pairs_order : (v : List ℕ) → Bounded (entry v) (length v) → order (grown (pairs v) leaf 0) ≡ pairs v
unfolding pairs
pairs_order v b = order_of_grown (pairs v) (rising (entry v) (length v) b) (good (entry v) (length v) b) (greedy (entry v) (length v) b)

-- the tree of a vector's merges has its leaves
pub pairs_below : (v : List ℕ) → Bounded (entry v) (length v) → 1 ≤ length v → LeavesBelow (length v) (grown (pairs v) leaf 0)
unfolding pairs
pairs_below v b h = grown_below (length v) (pairs v) (rising (entry v) (length v) b) (good (entry v) (length v) b) (pairs_named (entry v) (length v) h)
