-- The writer's 4: the first index in its list at which an entry is above its bound, where entry i of the list is entry i % n of its tree. Main
-- result: first_entry_found.
use Rattle.std.specs.Prelude.{List, ◌≡◌, refl, ℕ, zero, suc, ◌+◌, ◌-◌, ◌*◌, ◌%◌, ◌≤◌, ◌<◌, length, take, drop}
use Rattle.std.proofs.Math.Option.{Option, some}
use Rattle.std.proofs.Math.Path.{ap}
use Rattle.std.proofs.Common.{◌∙◌, zero-mul, suc-mul, mod-eq_of_lt, length-take, length-drop}
use Rattle.std.proofs.Math.Nat.{add-mod_left}
use native.Mathlib.Omega.{arith}
use Rattle.std.proofs.Math.Seq.{get_or-take, get_or-drop}
use Rattle.rules.specs.Vector.{entry, bound}
use Rattle.rules.specs.CallWriteArchive.{cut, fault_at, fault_in}
use Rattle.basics.proofs.Cases.{by_lt}
use Rattle.searching.specs.First.{FirstFound, first_at, nowhere}
use Rattle.searching.proofs.First.{found_same}
use Rattle.demands.specs.Conditions.{Above}
use Rattle.demands.proofs.FirstPlace.{above_found}
use Rattle.demands.specs.FirstEntry.{AboveInTree}

-- of a list that begins with a vector of n entries
module _ (n : ℕ) (xs : List ℕ) (long : n ≤ length xs) where
  size : length (take n xs) ≡ n
  size = rw length-take (omega arith)

  -- the vector's entries come first in it
  first_vector : (i : ℕ) → i < n → (bound (i % n) ≡ bound i) × (entry (take n xs) i ≡ entry xs i)
  unfolding entry
  first_vector i l = (ap bound (mod-eq_of_lt l), get_or-take n xs i 0 l)

  -- and then those of the next ones
  next_vectors : (i : ℕ) → (bound ((n + i) % n) ≡ bound (i % n)) × (entry (drop n xs) i ≡ entry xs (n + i))
  unfolding entry
  next_vectors i = (ap bound (add-mod_left n i), get_or-drop n xs i 0)

  in_the_list : (i : ℕ) → Above (take n xs) i → AboveInTree n xs i
  in_the_list i a =
      let l : i < n = omega (arith, a.0, size) in
      let e = first_vector i l in
      (omega arith, omega (arith, e.0, e.1, a.1))

  in_the_vector : (i : ℕ) → i < n → AboveInTree n xs i → Above (take n xs) i
  in_the_vector i l a = let e = first_vector i l in (omega (arith, size), omega (arith, e.0, e.1, a.1))

  in_the_list_behind : (i : ℕ) → AboveInTree n (drop n xs) i → AboveInTree n xs (n + i)
  in_the_list_behind i a =
      let e = next_vectors i in
      let h : i < length xs - n = rw length-drop at a.0 in
      (omega arith, omega (arith, e.0, e.1, a.1))

  in_the_next : (i : ℕ) → AboveInTree n xs (n + i) → AboveInTree n (drop n xs) i
  in_the_next i a =
      let e = next_vectors i in
      (rw length-drop (omega (arith, a.0)), omega (arith, e.0, e.1, a.1))

  -- a place in the list is one in the vector or in the next ones
  in_neither : (j : ℕ) → (Above (take n xs) j → ⊥) → ((i : ℕ) → n + i ≡ j → AboveInTree n (drop n xs) i → ⊥) → AboveInTree n xs j → ⊥
  in_neither j here behind a =
      by_lt {P = ⊥} j n (λ h. here (in_the_vector j h a)) (λ h. let z : n + (j - n) ≡ j = omega arith in behind (j - n) z (in_the_next (j - n) (rw z a)))

  -- a search of the vector, and then of the next ones, is one of the list
  one_then_next : (at : ℕ) (o q : Option ℕ) → FirstFound (Above (take n xs)) (λ i w. i) o → FirstFound (AboveInTree n (drop n xs)) (λ i w. at + n + i) q
      → FirstFound (AboveInTree n xs) (λ i w. at + i) (fault_at at o q)
  unfolding fault_at
  one_then_next at o q (first_at i f e) next =
      first_at i (in_the_list i f.0, λ j l a. f.1 j l (in_the_vector j (omega (arith, l, f.0.0, size)) a)) (rw e refl)
  one_then_next at o q (nowhere e right) (first_at i f d) =
      let z : at + n + i ≡ at + (n + i) = omega arith in
      first_at (n + i) (in_the_list_behind i f.0, λ j l. in_neither j (right j) (λ m y. f.1 m (omega arith))) (rw e (d ∙ ap some z))
  one_then_next at o q (nowhere e right) (nowhere d none_behind) = nowhere (rw e d) (λ j. in_neither j (right j) (λ m y. none_behind m))

found_from : (n k at : ℕ) (xs : List ℕ) → length xs ≡ k * n → FirstFound (AboveInTree n xs) (λ i w. at + i) (fault_in at (cut n k xs))
unfolding cut fault_in
found_from n zero at xs h = nowhere refl (λ j a. omega (arith, a.0, zero-mul n))
found_from n (suc k) at xs h =
    let long : n ≤ length xs = omega (arith, suc-mul k n) in
    rw (size n xs long)
    (one_then_next n xs long at _ _ (above_found (take n xs)) (found_from n k (at + n) (drop n xs) (rw length-drop (omega (arith, suc-mul k n)))))

-- the search of the rules finds the first such place
pub first_entry_found : (n k : ℕ) (xs : List ℕ) → length xs ≡ k * n → FirstFound (AboveInTree n xs) (λ i w. i) (fault_in 0 (cut n k xs))
first_entry_found n k xs h = found_same (λ i w. i) (found_from n k 0 xs h) (λ j a. a) (λ j a. a) (λ j a. omega arith)
