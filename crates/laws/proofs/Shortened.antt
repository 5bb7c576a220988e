-- The tree of a shortened vector is the tree of the whole with the later leaves taken out. (That it is valid: building Shortened.valid_take.)
-- Main results: shortened_tree, shortened_clades.
use Rattle.std.specs.Prelude.{Bool, List, ◌↔◌, ◌≡◌, ℕ, ◌≤◌, length, take}
use Rattle.std.proofs.Math.Option.{some}
use Rattle.std.proofs.Common.{ap, sym, ◌∙◌}
use Rattle.rules.specs.Vector.{Valid, entry}
use Rattle.rules.specs.Tree.{leaf, tree_of, grown, Clade}
use Rattle.clades.specs.Pruned.{pruned, Restriction}
use Rattle.clades.proofs.Pruned.{pruned_clades}
use Rattle.merging.specs.Insertion.{pairs}
use Rattle.merging.proofs.Insertion.{valid_bounded}
use Rattle.building.proofs.Shortened.{valid_take, only_pairs, pairs_take}
use Rattle.growing.specs.Shortened.{keep_below}
use Rattle.growing.proofs.Shortened.{pruned_pairs}
use Rattle.laws.proofs.TreeOf.{tree_by_pairs}

-- the tree of the first m entries is the whole tree with the leaves from m on taken out
pub shortened_tree : (v : List ℕ) → Valid v → (m : ℕ) → 1 ≤ m → m ≤ length v → pruned (keep_below m) (tree_of v) ≡ some (tree_of (take m v))
unfolding pairs
shortened_tree v ok m h l =
    ap (pruned (keep_below m)) (tree_by_pairs v ok)
    ∙ pruned_pairs (entry v) (length v) m (valid_bounded v ok) h l
    ∙ ap some (sym (tree_by_pairs (take m v) (valid_take v ok m h l) ∙ ap (λ P. grown P leaf 0) (pairs_take v m h l ∙ only_pairs (entry v) m (length v) h l)))

-- "exactly the non-empty sets got by keeping, in each clade of the whole tree, only leaves 0 to m-1"
pub shortened_clades : (v : List ℕ) → Valid v → (m : ℕ) → 1 ≤ m → m ≤ length v
    → (c : ℕ → Bool) → Clade (tree_of (take m v)) c ↔ Restriction (keep_below m) (tree_of v) c
shortened_clades v ok m h l c = pruned_clades (keep_below m) (tree_of v) (tree_of (take m v)) (shortened_tree v ok m h l) c
