-- Archives whose records have no bytes, those of one leaf and of two leaves: every record makes the same vector. Main results: record_of_one,
-- vectors_of_one, one_leaf_table; record_of_two, vectors_of_two, no_trees_table, two_leaves_table.
use Rattle.std.specs.Prelude.{◌≡◌, List, [], ◌∷◌, ℕ, zero, suc, ◌+◌, replicate}
use Rattle.std.proofs.Math.Path.{refl}
use Rattle.std.proofs.Common.{sym, ap, ◌∙◌, arith}
use Rattle.std.proofs.lemmas.List.{replicate-append-replicate}
use Rattle.std.specs.Int.Count.{ones}
use Rattle.rules.specs.Vector.{Valid, fault}
use Rattle.rules.specs.Answer.{made}
use Rattle.rules.specs.CladeTable.{clade_table, trees_of}
use Rattle.rules.specs.CallCladeTable.{record_in, vectors_in}
use Rattle.clade_laws.specs.Entries.{Each}
use Rattle.clade_passes.specs.Collected.{add_entry, tallied}
use Rattle.clade_passes.proofs.Collected.{tallied_table}
use Rattle.clade_passes.specs.Merged.{vector_sets, archive_sets}
use Rattle.clade_passes.proofs.Merged.{archive_sets_lem}
use Rattle.clade_passes.proofs.Archive.{record_made, vectors_next}
use Rattle.clade_passes.specs.NoBytes.{both}

vectors_same : (n : ℕ) (s v : List ℕ) → ((r : ℕ) → record_in n s r ≡ made v) → (k : ℕ) → vectors_in n s k ≡ made (replicate k v)
vectors_same n s v h zero = unfold vectors_in in refl
vectors_same n s v h (suc k) =
    let z : k + 1 ≡ suc k = omega arith in
    vectors_next n s k (replicate k v) v (vectors_same n s v h k) (h k)
    ∙ ap made (replicate-append-replicate k 1 v ∙ ap (λ (j : ℕ). replicate j v) z)

each_same : {A : Type 0} (P : A → Type 0) (x : A) (k : ℕ) → P x → Each P (replicate k x)
unfolding Each
each_same P x zero p = tt
each_same P x (suc k) p = (p, each_same P x k p)

-- the table of a vector's copies is what their leaf sets add up to
same_table : (v : List ℕ) (k : ℕ) → Valid v → clade_table (trees_of (replicate k v)) ≡ tallied [] (archive_sets (replicate k v))
same_table v k ok =
    sym (tallied_table (trees_of (replicate k v)) (archive_sets (replicate k v)) (archive_sets_lem (replicate k v) (each_same Valid v k ok)))

-- ---- one leaf
pub record_of_one : (s : List ℕ) (r : ℕ) → record_in 1 s r ≡ made (0 ∷ [])
unfolding record_in fault
record_of_one s r = refl

pub vectors_of_one : (s : List ℕ) (k : ℕ) → vectors_in 1 s k ≡ made (replicate k (0 ∷ []))
vectors_of_one s k = vectors_same 1 s (0 ∷ []) (record_of_one s) k

no_sets : (k : ℕ) → archive_sets (replicate k (0 ∷ [])) ≡ []
unfolding archive_sets vector_sets
no_sets zero = refl
no_sets (suc k) = no_sets k

-- no clade has two leaves
pub one_leaf_table : (k : ℕ) → clade_table (trees_of (replicate k (0 ∷ []))) ≡ []
unfolding tallied
one_leaf_table k = same_table (0 ∷ []) k (record_made 1 [] 0 (0 ∷ []) (omega arith) (record_of_one [] 0)).0 ∙ ap (tallied []) (no_sets k)

-- ---- two leaves
pub record_of_two : (s : List ℕ) (r : ℕ) → record_in 2 s r ≡ made (0 ∷ 0 ∷ [])
unfolding record_in fault
record_of_two s r = refl

pub vectors_of_two : (s : List ℕ) (k : ℕ) → vectors_in 2 s k ≡ made (replicate k (0 ∷ 0 ∷ []))
vectors_of_two s k = vectors_same 2 s (0 ∷ 0 ∷ []) (record_of_two s) k

same_sets : (k : ℕ) → archive_sets (replicate k (0 ∷ 0 ∷ [])) ≡ replicate k 3
unfolding archive_sets vector_sets
same_sets zero = refl
same_sets (suc k) = ap (λ (l : List ℕ). 3 ∷ l) (same_sets k)

counted_on : (k c : ℕ) → tallied (both c ∷ []) (replicate k 3) ≡ both (c + k) ∷ []
unfolding tallied add_entry
counted_on zero c = let z : c ≡ c + 0 = omega arith in ap (λ (j : ℕ). both j ∷ []) z
counted_on (suc k) c =
    let z : c + 1 + k ≡ c + suc k = omega arith in
    counted_on k (c + 1) ∙ ap (λ (j : ℕ). both j ∷ []) z

-- without trees there is no clade
pub no_trees_table : clade_table (trees_of []) ≡ []
unfolding trees_of clade_table
no_trees_table = refl

-- all trees have the one clade, of both leaves
pub two_leaves_table : (k : ℕ) → clade_table (trees_of (replicate (suc k) (0 ∷ 0 ∷ []))) ≡ both (suc k) ∷ []
unfolding tallied add_entry ones
two_leaves_table k =
    let z : 1 + k ≡ suc k = omega arith in
    same_table (0 ∷ 0 ∷ []) (suc k) (record_made 2 [] 0 (0 ∷ 0 ∷ []) (omega arith) (record_of_two [] 0)).0
    ∙ ap (tallied []) (same_sets (suc k))
    ∙ counted_on k 1
    ∙ ap (λ (j : ℕ). both j ∷ []) z
