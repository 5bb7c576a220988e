-- Fact 1 of 01, step by step, over the clusters that the merges so far have built.
-- Main results: fact_one_at_each_step, fact_one_of_one_pair, complete_larger_name.
use Rattle.std.specs.Prelude.{List, ◌≡◌, ℕ, ◌<◌, length, take, drop, get_or}
use Rattle.std.proofs.Common.{sym, subst, take-append-drop}
use Rattle.rules.specs.Vector.{Valid}
use Rattle.rules.specs.Building.{Merge, merges}
use Rattle.merging.specs.Named.{Rising}
use Rattle.merging.proofs.Rest.{rising_first}
use Rattle.building.proofs.InOrder.{merges_in_order}
use Rattle.growing.specs.Complete.{Complete}
use Rattle.growing.proofs.Complete.{complete_rising, next_complete}
use Rattle.growing.specs.Ready.{Greatest}
use Rattle.growing.proofs.Ready.{greatest_one}

-- "of the pairs whose two clusters are complete, the one whose larger name is greatest comes first": after k merges, of the pairs of the
-- final tree whose two clusters are there and not merged away, the next merge is the one whose larger name is greatest: each other one
-- has a smaller larger name
pub fact_one_at_each_step : (v : List ℕ) → Valid v → (k : ℕ) → k < length (merges v)
    → Greatest (Complete (take k (merges v)) (merges v)) (get_or (merges v) k (0, 0))
fact_one_at_each_step v ok =
    let O = merges_in_order v ok in
    next_complete (merges v) O.smaller_first O.of_clusters O.greatest_first

-- "the one": there is exactly one such pair
pub fact_one_of_one_pair : (v : List ℕ) → Valid v → (k : ℕ) → k < length (merges v)
    → (p : Merge) → Greatest (Complete (take k (merges v)) (merges v)) p → p ≡ get_or (merges v) k (0, 0)
fact_one_of_one_pair v ok k h p g =
    greatest_one (Complete (take k (merges v)) (merges v)) (get_or (merges v) k (0, 0)) p (fact_one_at_each_step v ok k h) g

-- of a complete pair the second name is the larger one
pub complete_larger_name : (v : List ℕ) → Valid v → (k : ℕ) (p : Merge) → Complete (take k (merges v)) (merges v) p → p.0 < p.1
complete_larger_name v ok k =
    let O = merges_in_order v ok in
    complete_rising (take k (merges v)) (merges v)
    (rising_first (take k (merges v)) (drop k (merges v)) (subst Rising (sym (take-append-drop k (merges v))) O.smaller_first))
    O.smaller_first O.of_clusters
