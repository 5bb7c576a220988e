-- What the writer takes: exactly the entries of valid vectors of n entries, and no more than 2,097,151 of these. Main results: cut_whole, cut_trees,
-- written_exactly; the refusals: write_no_leaf, write_too_many, write_in_parts, write_above; write_accepted.
use Rattle.std.specs.Prelude.{◌≡◌, refl, List, [], ◌∷◌, ◌++◌, ◌↔◌, ◌≢◌, ℕ, zero, suc, ◌+◌, ◌*◌, ◌/◌, ◌≤◌, ◌<◌, eqb, ltb, length, take, drop}
use Rattle.std.proofs.Common.{sym, ◌∙◌, zero-mul, suc-mul, mul_comm, div-mul-le_self, div-lt_iff_lt-mul, arith, length-take, length-drop, take-append-drop, ltb-false, eqb-true, lt-ltb, le-ltb, eq-eqb, ne_eqb}
use Rattle.std.proofs.Math.Path.{ap}
use Rattle.std.proofs.Math.Bool.{not}
use Rattle.std.proofs.Math.Option.{Option, none, some}
use Rattle.std.proofs.Math.Nat.{div-le_of_le-mul}
use Rattle.std.proofs.lemmas.Bool.{not-false}
use Rattle.rules.specs.Vector.{fault}
use Rattle.rules.specs.Answer.{made, refuses}
use Rattle.basics.proofs.Fault.{no_fault_valid}
use Rattle.accepting.proofs.Answers.{made_same}
use Rattle.accepting.proofs.Guards.{no_leaf, many_leaves, some_leaves, refuse_if_lem, pass_if, refuse_at_lem, pass_at, passed_count, passed_if, passed_at}
use Rattle.rules.specs.Archive.{implied_length, archive_of}
use Rattle.rules.specs.CallWriteArchive.{cut, fault_at, fault_in, most_trees, write_archive}
use Rattle.archive_laws.specs.Written.{Trees, joined}
use Rattle.archive_laws.proofs.Written.{length_written, write_archive_lem}
use Rattle.archive_laws.specs.Writer.{Run}

nothing : (xs : List ℕ) → length xs ≡ 0 → [] ≡ xs
nothing [] h = refl
nothing (x ∷ xs) h = absurd (omega arith)

-- vectors cut from a list are the list
pub cut_whole : (n k : ℕ) (xs : List ℕ) → length xs ≡ k * n → joined (cut n k xs) ≡ xs
unfolding joined cut
cut_whole n zero xs h = nothing xs (omega (arith, zero-mul n))
cut_whole n (suc k) xs h =
    ap (◌++◌ (take n xs)) (cut_whole n k (drop n xs) (rw length-drop (omega (arith, suc-mul k n)))) ∙ take-append-drop n xs

pub length_cut : (n k : ℕ) (xs : List ℕ) → length (cut n k xs) ≡ k
unfolding cut
length_cut n zero xs = refl
length_cut n (suc k) xs = ap suc (length_cut n k (drop n xs))

fault_none : (at : ℕ) (o q : Option ℕ) → fault_at at o q ≡ none → (o ≡ none) × (q ≡ none)
unfolding fault_at
fault_none at none q e = (refl, e)
fault_none at (some i) q e = let z : ◌≡◌ {A = ℕ} 0 1 = cc in absurd (omega arith)

pub cut_trees : (n at k : ℕ) (xs : List ℕ) → 1 ≤ n → length xs ≡ k * n → fault_in at (cut n k xs) ≡ none → Trees n (cut n k xs)
unfolding Trees cut fault_in
cut_trees n at zero xs l h e = tt
cut_trees n at (suc k) xs l h e =
    let f = fault_none at (fault 0 (take n xs)) (fault_in (at + length (take n xs)) (cut n k (drop n xs))) e in
    let s : length (take n xs) ≡ n = rw length-take (omega (arith, suc-mul k n)) in (
      no_fault_valid (take n xs) (omega arith) f.0,
      s,
      cut_trees n (at + length (take n xs)) k (drop n xs) l (rw length-drop (omega (arith, suc-mul k n))) f.1,
    )

-- what the writer takes, and what it makes
pub written : (n : ℕ) (xs s : List ℕ) → write_archive n xs ≡ made s → (vs : List (List ℕ)) × Run n vs × (xs ≡ joined vs) × (s ≡ archive_of n vs)
unfolding write_archive
written n xs s e =
    let a = passed_count n _ e in
    let b = passed_if (ltb (most_trees * n) (length xs)) 21 most_trees _ a.2 in
    let c = passed_if (not (eqb (length xs / n * n) (length xs))) 2 ((length xs / n + 1) * n) _ b.1 in
    let d = passed_at 4 (fault_in 0 (cut n (length xs / n) xs)) _ c.1 in
    let l = a.0 in
    let w : length xs ≡ length xs / n * n = sym (eqb-true (length xs / n * n) (length xs) (not-false (eqb (length xs / n * n) (length xs)) c.0)) in
    let u : length xs ≤ n * most_trees = rw (mul_comm n most_trees) (ltb-false (most_trees * n) (length xs) b.0) in (
      cut n (length xs / n) xs,
      record {
        some_leaf = l;
        few_leaves = a.1;
        trees = cut_trees n 0 (length xs / n) xs l w d.0;
        few = rw (length_cut n (length xs / n) xs) (div-le_of_le-mul n u);
      },
      sym (cut_whole n (length xs / n) xs w),
      sym (made_same d.1),
    )

-- exactly these
pub written_exactly : (n : ℕ) (xs s : List ℕ)
    → (write_archive n xs ≡ made s) ↔ ((vs : List (List ℕ)) × Run n vs × (xs ≡ joined vs) × (s ≡ archive_of n vs))
written_exactly n xs s = (
  written n xs s,
  λ w. ap (write_archive n) w.2 ∙ write_archive_lem n w.0 w.1.trees w.1.some_leaf w.1.few_leaves w.1.few ∙ ap made (sym w.3),
)

-- the writer's refusals in 02's order, each over what the earlier ones leave: 1
pub write_no_leaf : (n : ℕ) (xs : List ℕ) → n ≡ 0 → write_archive n xs ≡ refuses 1 0
unfolding write_archive
write_no_leaf n xs e = no_leaf n _ e

pub write_many_leaves : (n : ℕ) (xs : List ℕ) → 1024 < n → write_archive n xs ≡ refuses 1 0
unfolding write_archive
write_many_leaves n xs h = many_leaves n _ h

module _ (n : ℕ) (xs : List ℕ) (a : 1 ≤ n) (b : n ≤ 1024) where
  -- "21 for more than 2,097,151 times n entries (place 2097151)"
  pub write_too_many : most_trees * n < length xs → write_archive n xs ≡ refuses 21 most_trees
  unfolding write_archive
  write_too_many h = some_leaves n _ a b ∙ refuse_if_lem (ltb (most_trees * n) (length xs)) 21 most_trees _ (lt-ltb (most_trees * n) (length xs) h)

  -- "2 when the list is not whole vectors (place: next multiple of n)"
  pub write_in_parts : length xs ≤ most_trees * n → length xs / n * n ≢ length xs → write_archive n xs ≡ refuses 2 ((length xs / n + 1) * n)
  unfolding write_archive
  write_in_parts h d =
      some_leaves n _ a b ∙ pass_if (ltb (most_trees * n) (length xs)) 21 most_trees _ (le-ltb (most_trees * n) (length xs) h)
      ∙ refuse_if_lem (not (eqb (length xs / n * n) (length xs))) 2 ((length xs / n + 1) * n) _ (ap not (ne_eqb (length xs / n * n) (length xs) d))

  -- that place is the least multiple of n above the length
  pub next_multiple : (length xs / n * n ≤ length xs) × (length xs < (length xs / n + 1) * n)
  next_multiple = (div-mul-le_self (length xs) n, (div-lt_iff_lt-mul {x = length xs} {y = length xs / n + 1} a).0 (omega arith))

  -- "4 (place: index in the list)"
  pub write_above : (p : ℕ) → length xs ≤ most_trees * n → length xs / n * n ≡ length xs → fault_in 0 (cut n (length xs / n) xs) ≡ some p
      → write_archive n xs ≡ refuses 4 p
  unfolding write_archive
  write_above p h d f =
      some_leaves n _ a b ∙ pass_if (ltb (most_trees * n) (length xs)) 21 most_trees _ (le-ltb (most_trees * n) (length xs) h)
      ∙ pass_if (not (eqb (length xs / n * n) (length xs))) 2 ((length xs / n + 1) * n) _ (ap not (eq-eqb (length xs / n * n) (length xs) d))
      ∙ refuse_at_lem 4 p (fault_in 0 (cut n (length xs / n) xs)) _ f

  -- else the archive of the vectors is made, which has its implied length
  pub write_accepted : length xs ≤ most_trees * n → length xs / n * n ≡ length xs → fault_in 0 (cut n (length xs / n) xs) ≡ none
      → (write_archive n xs ≡ made (archive_of n (cut n (length xs / n) xs)))
      × (length (archive_of n (cut n (length xs / n) xs)) ≡ implied_length n (length xs / n))
  unfolding write_archive
  write_accepted h d f = (
    some_leaves n _ a b ∙ pass_if (ltb (most_trees * n) (length xs)) 21 most_trees _ (le-ltb (most_trees * n) (length xs) h)
        ∙ pass_if (not (eqb (length xs / n * n) (length xs))) 2 ((length xs / n + 1) * n) _ (ap not (eq-eqb (length xs / n * n) (length xs) d))
        ∙ pass_at 4 (fault_in 0 (cut n (length xs / n) xs)) _ f,
    length_written n (cut n (length xs / n) xs) (cut_trees n 0 (length xs / n) xs a (sym d) f) ∙ ap (implied_length n) (length_cut n (length xs / n) xs),
  )

  -- of no more trees than an archive counts
  pub few_trees : length xs ≤ most_trees * n → length xs / n ≤ most_trees
  few_trees h = div-le_of_le-mul n (rw (mul_comm n most_trees) h)
