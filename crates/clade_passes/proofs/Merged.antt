-- The leaf sets by merges: each merge adds the sets of its two clusters. They are the inner sets of the tree, each once, in the order of merges. Main
-- results: vector_sets_lem, archive_sets_lem, archive_batch, trees_below.
use Rattle.std.specs.Prelude.{◌≡◌, Bool, true, false, cond, List, [], ◌∷◌, ◌++◌, ℕ, ◌+◌, ◌^◌, eqb, length}
use Rattle.std.proofs.Math.Path.{refl}
use Rattle.std.proofs.Common.{sym, ap, ap₂, ◌∙◌, subst, arith}
use Rattle.rules.specs.Vector.{Valid, entry}
use Rattle.rules.specs.Building.{Merge, member}
use Rattle.rules.specs.Tree.{Tree, leaf, node, joined, grown, has, Distinct, LeavesBelow, tree_of}
use Rattle.rules.specs.CladeTable.{inner, occurs, clade_table, trees_of}
use Rattle.basics.proofs.Bools.{or_no}
use Rattle.clades.proofs.Leaves.{lacks}
use Rattle.clades.specs.Size.{sum_leaves}
use Rattle.merging.specs.Named.{Good, Rising}
use Rattle.merging.proofs.Named.{rising, good}
use Rattle.merging.specs.Insertion.{pairs}
use Rattle.merging.proofs.Insertion.{valid_bounded}
use Rattle.building.proofs.Built.{merges_are_pairs}
use Rattle.growing.specs.Grown.{filled, graft}
use Rattle.growing.proofs.Grown.{grown_graft, has_grown, distinct_grown}
use Rattle.laws.proofs.TreeOf.{tree_leaves}
use Rattle.clade_laws.proofs.Numbers.{leaves_powers}
use Rattle.clade_laws.proofs.Inner.{inner_different}
use Rattle.clade_laws.specs.Entries.{Each}
use Rattle.clade_passes.specs.Passes.{batch}
use Rattle.clade_passes.specs.Collected.{times, collected}
use Rattle.clade_passes.proofs.Collected.{times_append, times_different, collected_batch}
use Rattle.clade_passes.specs.Merged.{merged_into, merged_sets, vector_sets, inner_by, archive_sets}

inner_by_lem : (t : Tree) → inner t ≡ inner_by (λ x. 2 ^ x) t
unfolding inner inner_by
inner_by_lem (leaf x) = refl
inner_by_lem (node l r) = rw (leaves_powers (node l r), inner_by_lem l, inner_by_lem r)

sum_graft : (set : ℕ → ℕ) (m : Merge) (t : Tree) → sum_leaves set (graft m t) ≡ sum_leaves (merged_into m set) t
unfolding sum_leaves graft filled joined merged_into
sum_graft set m (leaf x) = go (eqb x m.0)
  where
    go : (b : Bool) → sum_leaves set (cond b (node (leaf m.0) (leaf m.1)) (leaf x)) ≡ cond b (set m.0 + set m.1) (set x)
    go true = refl
    go false = refl
sum_graft set m (node l r) = ap₂ ◌+◌ (sum_graft set m l) (sum_graft set m r)

-- where the cluster is not in the tree nothing changes
graft_out : (set : ℕ → ℕ) (m : Merge) (t : Tree) → has t m.0 ≡ false → inner_by set (graft m t) ≡ inner_by (merged_into m set) t
unfolding inner_by graft filled joined has
graft_out set m (leaf x) h = rw h
graft_out set m (node l r) h =
    let k : (has l m.0 ≡ false) × (has r m.0 ≡ false) = or_no (has l m.0) (has r m.0) h in
    ap₂ (λ (x : ℕ) (a : List ℕ). x ∷ a) (sum_graft set m (node l r)) (ap₂ ◌++◌ (graft_out set m l k.0) (graft_out set m r k.1))

-- where it is, there is one pair more
graft_in : (y : ℕ) (set : ℕ → ℕ) (m : Merge) (t : Tree) → Distinct t → has t m.0 ≡ true
    → times y (inner_by set (graft m t)) ≡ cond (eqb y (set m.0 + set m.1)) 1 0 + times y (inner_by (merged_into m set) t)
unfolding inner_by graft filled joined has Distinct times sum_leaves
graft_in y set m (leaf x) D h = rw h
graft_in y set m (node l r) D h = go (has l m.0) refl (graft_in y set m l D.1) (graft_in y set m r D.2)
  where
    one : ℕ
    one = cond (eqb y (set m.0 + set m.1)) 1 0

    set' : ℕ → ℕ
    set' = merged_into m set

    all : (a b : List ℕ) → times y (a ++ b) ≡ one + (times y (inner_by set' l) + times y (inner_by set' r))
        → times y (sum_leaves set (graft m (node l r)) ∷ a ++ b) ≡ one + times y (inner_by set' (node l r))
    all a b e =
        omega (arith, e, ap (λ (k : ℕ). cond {A = ℕ} (eqb y k) 1 0) (sum_graft set m (node l r)), times_append y (inner_by set' l) (inner_by set' r))

    go : (b : Bool) → has l m.0 ≡ b → (has l m.0 ≡ true → times y (inner_by set (graft m l)) ≡ one + times y (inner_by set' l))
        → (has r m.0 ≡ true → times y (inner_by set (graft m r)) ≡ one + times y (inner_by set' r))
        → times y (sum_leaves set (graft m (node l r)) ∷ inner_by set (graft m l) ++ inner_by set (graft m r)) ≡ one + times y (inner_by set' (node l r))
    go true q f g = all (inner_by set (graft m l)) (inner_by set (graft m r)) (omega (arith, times_append y (inner_by set (graft m l)) (inner_by set (graft m r)), f q, ap (times y) (graft_out set m r (lacks l r D m.0 q))))
    go false q f g = all (inner_by set (graft m l)) (inner_by set (graft m r)) (omega (arith, times_append y (inner_by set (graft m l)) (inner_by set (graft m r)), g (rw q at h), ap (times y) (graft_out set m l q)))

merged_inner : (y : ℕ) (set : ℕ → ℕ) (P : List Merge) → Rising P → Good P → times y (merged_sets P set) ≡ times y (inner_by set (grown P leaf 0))
unfolding merged_sets times Rising Good
merged_inner y set [] g G = unfold grown in unfold inner_by in refl
merged_inner y set (m ∷ P) g G =
    ap (λ (k : ℕ). cond (eqb y (set m.0 + set m.1)) 1 0 + k) (merged_inner y (merged_into m set) P g.1 G.2)
    ∙ sym (graft_in y set m (grown P leaf 0) (distinct_grown P g.1 G.2) (has_grown P G.2 m.0 ∙ G.0))
    ∙ ap (λ (t : Tree). times y (inner_by set t)) (sym (grown_graft m P 0))

-- the sets of a vector's merges are the inner sets of its tree, each once
pub vector_sets_lem : (v : List ℕ) → Valid v → (y : ℕ) → times y (vector_sets v) ≡ cond (member y (inner (tree_of v))) 1 0
unfolding vector_sets tree_of pairs
vector_sets_lem v ok y =
    ap (λ (P : List Merge). times y (merged_sets P (λ x. 2 ^ x))) (merges_are_pairs v ok)
    ∙ merged_inner y (λ x. 2 ^ x) (pairs v) (rising (entry v) (length v) (valid_bounded v ok)) (good (entry v) (length v) (valid_bounded v ok))
    ∙ ap (λ (P : List Merge). times y (inner_by (λ x. 2 ^ x) (grown P leaf 0))) (sym (merges_are_pairs v ok))
    ∙ ap (times y) (sym (inner_by_lem (tree_of v))) ∙ times_different y (inner (tree_of v)) (inner_different (tree_of v) (tree_leaves v ok).once)

pub archive_sets_lem : (vs : List (List ℕ)) → Each Valid vs → (y : ℕ) → times y (archive_sets vs) ≡ occurs y (trees_of vs)
unfolding archive_sets trees_of Each occurs
archive_sets_lem [] ok y = unfold times in refl
archive_sets_lem (v ∷ vs) ok y = times_append y (vector_sets v) (archive_sets vs) ∙ ap₂ ◌+◌ (vector_sets_lem v ok.0 y) (archive_sets_lem vs ok.1 y)

-- one pass over an archive's vectors: the K least clades above b, with their counts
pub archive_batch : (K b : ℕ) (vs : List (List ℕ)) → Each Valid vs → collected K b [] (archive_sets vs) ≡ batch K b (clade_table (trees_of vs))
archive_batch K b vs ok = collected_batch K b (trees_of vs) (archive_sets vs) (archive_sets_lem vs ok)

-- the trees of valid vectors of n entries
pub trees_below : (n : ℕ) (vs : List (List ℕ)) → Each (λ v. Valid v × (length v ≡ n)) vs → Each (LeavesBelow n) (trees_of vs)
unfolding Each trees_of
trees_below n [] ok = tt
trees_below n (v ∷ vs) ok = (subst (λ (k : ℕ). LeavesBelow k (tree_of v)) ok.0.1 (tree_leaves v ok.0.0), trees_below n vs ok.1)
