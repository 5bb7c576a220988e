-- The first fault of a permutation, found with a flag for each number below n.
-- Main definitions: used_at, Mark, Search. Main results: search_start, search_next, search_stop, search_end.
use Rattle.std.specs.Prelude.{◌≡◌, refl, ◌≢◌, Bool, true, false, List, [], ◌∷◌, ℕ, zero, suc, ◌+◌, ◌≤◌, ◌<◌, length, get_or, set, drop, replicate}
use Rattle.std.proofs.Common.{◌∙◌, add-one, arith, drop-cons}
use Rattle.std.proofs.Math.Option.{none, some}
use Rattle.std.proofs.lemmas.List.{length-replicate, get_or-replicate}
use Rattle.std.proofs.Math.Seq.{drop-length}
use Rattle.rules.specs.Names.{NameFault, name_fault}
use Rattle.rules.specs.Shuffle.{permutation_fault}
use Rattle.basics.proofs.Cases.{by_lt}
use Rattle.basics.proofs.Names.{name_large, value_fine, value_wrong}
use Rattle.basics.specs.Flagged.{Flagged}
use Rattle.basics.proofs.Flagged.{flagged_none, flagged_next, name_free, name_taken}

-- the values before index i, the last first
unfoldable pub used_at : ℕ → List ℕ → List ℕ
used_at zero p = []
used_at (suc i) p = get_or p i 0 ∷ used_at i p

-- x is below n and had no flag, and has one now; or it is not so, and nothing changes
pub record Mark (n x : ℕ) (flags : List ℕ) (fresh : Bool) (flags' : List ℕ) : Type 0 where
  pub yes : fresh ≡ true → (x < n) × (get_or flags x 0 ≡ 0) × (flags' ≡ set flags x 1)
  pub no : fresh ≡ false → (x < n → get_or flags x 0 ≢ 0)

-- The first i values have no fault: the first fault is the first from index i on.
pub record Search (n : ℕ) (p flags : List ℕ) (i : ℕ) : Type 0 where
  pub small : n ≤ 1024
  pub within : i ≤ length p
  pub marked : Flagged (used_at i p) flags
  pub rest : permutation_fault n 0 [] p ≡ permutation_fault n i (used_at i p) (drop i p)

pub search_start : (n : ℕ) (p : List ℕ) → n ≤ 1024 → Search n p (replicate 1024 0) 0
unfolding used_at
search_start n p h = record {
  small = h;
  within = omega arith;
  marked = flagged_none (length-replicate 1024 zero) (λ y l. get_or-replicate 1024 y zero zero l);
  rest = refl;
}

-- the value at index i, and those behind it
module _ (n i : ℕ) (used p : List ℕ) (h : i < length p) where
  this_value : permutation_fault n i used (drop i p) ≡ permutation_fault n i used (get_or p i 0 ∷ drop (i + 1) p)
  this_value = rw (drop-cons p i 0 h, add-one i)

  step_fine : name_fault n used (get_or p i 0) ≡ none → permutation_fault n i used (drop i p) ≡ permutation_fault n (i + 1) (get_or p i 0 ∷ used) (drop (i + 1) p)
  step_fine e = this_value ∙ value_fine n i used (get_or p i 0) (drop (i + 1) p) e

  step_wrong : (wrong : NameFault) → name_fault n used (get_or p i 0) ≡ some wrong → permutation_fault n i used (drop i p) ≡ some i
  step_wrong wrong e = this_value ∙ value_wrong n i used (get_or p i 0) (drop (i + 1) p) wrong e

-- the value at index i is fresh
pub search_next : {n : ℕ} {p flags flags' : List ℕ} {i : ℕ} {fresh : Bool} → Search n p flags i → i < length p
    → Mark n (get_or p i 0) flags fresh flags' → fresh ≡ true → Search n p flags' (i + 1)
unfolding used_at
search_next {n} {p} {flags} {flags'} {i} T h M e =
    let m = M.yes e in
    record {
      small = T.small;
      within = omega arith;
      marked = rw (add-one i, m.2) (flagged_next (omega (arith, m.0, T.small)) T.marked);
      rest = T.rest ∙ step_fine n i (used_at i p) p h (name_free T.small m.0 T.marked m.1) ∙ rw (add-one i);
    }

-- the value at index i is not
pub search_stop : {n : ℕ} {p flags flags' : List ℕ} {i : ℕ} {fresh : Bool} → Search n p flags i → i < length p
    → Mark n (get_or p i 0) flags fresh flags' → fresh ≡ false → permutation_fault n 0 [] p ≡ some i
search_stop {n} {p} {flags} {flags'} {i} T h M e =
    T.rest
    ∙ by_lt (get_or p i 0) n
    (λ l. step_wrong n i (used_at i p) p h _ (name_taken T.small l T.marked (M.no e l)))
    (λ l. step_wrong n i (used_at i p) p h _ (name_large n (used_at i p) (get_or p i 0) l))

-- no value is left
pub search_end : {n : ℕ} {p flags : List ℕ} {i : ℕ} → Search n p flags i → length p ≤ i → permutation_fault n 0 [] p ≡ none
unfolding permutation_fault
search_end {n} {p} {flags} {i} T h =
    let e : i ≡ length p = omega (arith, T.within) in
    T.rest ∙ rw (e, drop-length p)
