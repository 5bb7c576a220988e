-- The new labels of a vector's leaves: Queue Shuffle can go through its rows, and gives a permutation.
-- Main definition: NewLabels. Main results: rows_tabled, new_labels, labels_copied, vector_copied.
use Rattle.std.specs.Prelude.{List, [], ◌++◌, ◌≡◌, ℕ, length, take}
use Rattle.std.proofs.Math.Option.{none}
use Rattle.std.proofs.Common.{sym, ap, ◌∙◌, subst, take_at}
use Rattle.rules.specs.Vector.{Valid}
use Rattle.rules.specs.Order.{vector_of}
use Rattle.rules.specs.Tree.{Tree, tree_of, LeavesBelow}
use Rattle.rules.specs.Shuffle.{renamed, permutation_fault, new_of}
use Rattle.clades.specs.Form.{Turned}
use Rattle.laws.proofs.TreeOf.{tree_leaves, tree_turned}
use Rattle.shuffle_laws.proofs.Taken.{new_no_fault}
use Rattle.shuffle_laws.specs.Zipped.{zipped_tree, Tabled}
use Rattle.renaming.specs.VectorRows.{RowsOf, rows_tree, rows_fine, renamed_front}

-- so that Queue Shuffle can go through them
pub rows_tabled : {v left right : List ℕ} → RowsOf v left right → Tabled (length v) left right
rows_tabled {v} R = record {
  accepted = rows_fine R;
  leaves = subst (LeavesBelow (length v)) (sym (rows_tree R)) (tree_leaves v R.valid);
  turned = subst Turned (sym (rows_tree R)) (tree_turned v R.valid);
}

-- What Queue Shuffle leaves at the front of the new labels.
pub record NewLabels (v new : List ℕ) : Type 0 where
  pub labels : take (length v) new ≡ new_of (tree_of v)
  pub count : length (take (length v) new) ≡ length v
  pub no_fault : permutation_fault (length v) 0 [] (take (length v) new) ≡ none

pub new_labels : {v left right : List ℕ} (new rest : List ℕ) → RowsOf v left right → new ≡ new_of (zipped_tree (length v) left right) ++ rest → NewLabels v new
new_labels {v} {left} {right} new rest R e =
    let w = new_no_fault (tree_leaves v R.valid) in
    let t : take (length v) new ≡ new_of (tree_of v) =
    ap (take (length v)) (e ∙ ap (λ (u : Tree). new_of u ++ rest) (rows_tree R)) ∙ take_at (new_of (tree_of v)) rest (length v) w.0 in
    record { labels = t; count = ap length t ∙ w.0; no_fault = ap (permutation_fault (length v) 0 []) t ∙ w.1 }

-- what is copied out of an array that begins with them
pub labels_copied : {v new out : List ℕ} (rest : List ℕ) → NewLabels v new → out ≡ take (length v) new ++ rest → out ≡ new_of (tree_of v) ++ rest
labels_copied rest N e = e ∙ ap (λ (l : List ℕ). l ++ rest) N.labels

pub vector_copied : {v new entries out : List ℕ} (rest rest' : List ℕ) → Valid v → NewLabels v new
    → entries ≡ vector_of (renamed (take (length v) new) (tree_of v)) ++ rest' → out ≡ take (length v) entries ++ rest
    → out ≡ vector_of (renamed (new_of (tree_of v)) (tree_of v)) ++ rest
vector_copied {v} rest rest' ok N made e =
    e ∙ ap (λ (l : List ℕ). l ++ rest)
    (renamed_front _ _ _ _ ok N.count N.no_fault made ∙ ap (λ (p : List ℕ). vector_of (renamed p (tree_of v))) N.labels)
