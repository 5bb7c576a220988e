-- What shuffle and relabel make of an accepted vector.
-- Main results: shuffle_made, new_count, shuffled_count; length_refused, value_refused, relabel_made.
use mathlib.Core.List.{List, []}
use mathlib.Core.Logic.{◌≢◌}
use mathlib.Core.Option.{none, some}
use mathlib.Core.Path.{◌≡◌, ◌∙◌}
use Prim.Native.Nat.{ℕ}
use lib.ListN.{length}
use Rattle.rules.specs.Tree.{tree_of}
use Rattle.rules.specs.Order.{vector_of}
use Rattle.rules.specs.Shuffle.{renamed, new_of, permutation_fault}
use Rattle.rules.specs.Answer.{made, refuses}
use Rattle.rules.specs.CallShuffle.{shuffle}
use Rattle.rules.specs.CallRelabel.{relabel}
use Rattle.accepting.proofs.Guards.{wrong_length, right_length, refuse_at_lem, pass_at}
use Rattle.laws.proofs.TreeOf.{tree_leaves}
use Rattle.shuffle_laws.proofs.Taken.{new_no_fault}
use Rattle.renaming.specs.VectorRows.{renamed_count}
use Rattle.accepting.proofs.FromVector.{vector_accepted}
use Rattle.rules.specs.Vector.{Vector}

pub shuffle_made : (v : List ℕ) → Vector v → shuffle v ≡ made (new_of (tree_of v), vector_of (renamed (new_of (tree_of v)) (tree_of v)))
unfolding shuffle
shuffle_made v S = vector_accepted v _ S

pub new_count : (v : List ℕ) → Vector v → length (new_of (tree_of v)) ≡ length v
new_count v S = (new_no_fault (tree_leaves v S.valid)).0

pub shuffled_count : (v : List ℕ) → Vector v → length (vector_of (renamed (new_of (tree_of v)) (tree_of v))) ≡ length v
shuffled_count v S =
    let w = new_no_fault (tree_leaves v S.valid) in
    renamed_count v (new_of (tree_of v)) S.valid w.0 w.1

-- "2 (permutation length not n)"
pub length_refused : (v p : List ℕ) → Vector v → length p ≢ length v → relabel v p ≡ refuses 2 (length v)
unfolding relabel
length_refused v p S d = vector_accepted v _ S ∙ wrong_length (length v) (length p) _ d

-- 11: "permutation value not below n, or used before"
pub value_refused : (v p : List ℕ) (i : ℕ) → Vector v → length p ≡ length v → permutation_fault (length v) 0 [] p ≡ some i → relabel v p ≡ refuses 11 i
unfolding relabel
value_refused v p i S l f =
    vector_accepted v _ S ∙ right_length (length v) (length p) _ l ∙ refuse_at_lem 11 i (permutation_fault (length v) 0 [] p) _ f

pub relabel_made : (v p : List ℕ) → Vector v → length p ≡ length v → permutation_fault (length v) 0 [] p ≡ none
    → relabel v p ≡ made (vector_of (renamed p (tree_of v)))
unfolding relabel
relabel_made v p S l f =
    vector_accepted v _ S ∙ right_length (length v) (length p) _ l ∙ pass_at 11 (permutation_fault (length v) 0 [] p) _ f
