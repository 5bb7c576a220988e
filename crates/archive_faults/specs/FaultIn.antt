-- The first entry above its bound, of vectors one after another in a list, as its index in the list.
-- Main definitions: first_fault_in, Searched.
-- Main results: fault_in_none, fault_in_some (what the index says); none_numbered, some_numbered; searched_next, searched_here, searched_end (the search).
use Rattle.std.specs.Prelude.{◌≡◌, refl, List, ℕ, zero, suc, ◌+◌, ◌*◌, ◌/◌, ◌≤◌, ◌<◌, length, take, drop}
use Rattle.std.proofs.Common.{ap, ◌∙◌, arith}
use Rattle.std.proofs.Math.Option.{Option, none, some, get_or, some-injective, none-ne-some}
use Rattle.rules.specs.Vector.{fault}
use Rattle.rules.specs.CallWriteArchive.{cut, fault_at, fault_in}
use Rattle.basics.proofs.Fault.{fault_inside}
use Rattle.archive_laws.specs.Cut.{Left}
use Rattle.archive_laws.proofs.Cut.{left_start, left_none, left_some, next_inside, next_size, next_cut, next_left}

-- the index of the first entry above its bound, and the list's length where there is none; each vector has n entries
unfoldable pub first_fault_in : ℕ → List ℕ → ℕ
first_fault_in n xs = get_or (fault_in 0 (cut n (length xs / n) xs)) (length xs)

-- the fault of the next vector, or of those behind it
fault_step : {n : ℕ} {xs : List ℕ} {at m : ℕ} → Left n xs at (suc m)
    → fault_in at (cut n (suc m) (drop at xs)) ≡ fault_at at (fault 0 (take n (drop at xs))) (fault_in (at + n) (cut n m (drop (at + n) xs)))
unfolding fault_in
fault_step {n} {xs} {at} {m} w =
    let size = next_size w in
    ap (fault_in at) (next_cut w) ∙ ap (λ (k : ℕ). fault_at at (fault 0 (take n (drop at xs))) (fault_in (at + k) (cut n m (drop (at + n) xs)))) size

-- a fault is the index of an entry
fault_in_inside : {n : ℕ} {xs : List ℕ} {at : ℕ} (left p : ℕ) → Left n xs at left → fault_in at (cut n left (drop at xs)) ≡ some p → p < length xs
unfolding cut fault_in fault_at
fault_in_inside zero p w e = absurd (none-ne-some p e)
fault_in_inside {n = n} {xs = xs} {at = at} (suc m) p w e = go (fault 0 (take n (drop at xs))) refl (rw (fault_step w) at e) (fault_in_inside {n = n} {xs = xs} {at = at + n} m p (next_left w))
  where
    go : (o : Option ℕ) → fault 0 (take n (drop at xs)) ≡ o → fault_at at o (fault_in (at + n) (cut n m (drop (at + n) xs))) ≡ some p
        → (fault_in (at + n) (cut n m (drop (at + n) xs)) ≡ some p → p < length xs) → p < length xs
    go none q f behind = behind f
    go (some i) q f behind =
        let e : at + i ≡ p = some-injective (at + i) p f in
        omega (arith, fault_inside 0 (take n (drop at xs)) i q, next_size w, next_inside w)

-- what the index says
pub fault_in_none : (n : ℕ) (xs : List ℕ) → 1 ≤ n → length xs ≡ length xs / n * n → length xs ≤ first_fault_in n xs
    → fault_in 0 (cut n (length xs / n) xs) ≡ none
unfolding first_fault_in
fault_in_none n xs a w h = go (fault_in 0 (cut n (length xs / n) xs)) refl h
  where
    go : (o : Option ℕ) → fault_in 0 (cut n (length xs / n) xs) ≡ o → length xs ≤ get_or o (length xs) → o ≡ none
    go none q l = refl
    go (some p) q l = absurd (omega (arith, fault_in_inside {n = n} {xs = xs} {at = 0} (length xs / n) p (left_start a w) q))

pub fault_in_some : (n : ℕ) (xs : List ℕ) → first_fault_in n xs < length xs → fault_in 0 (cut n (length xs / n) xs) ≡ some (first_fault_in n xs)
unfolding first_fault_in
fault_in_some n xs h = go (fault_in 0 (cut n (length xs / n) xs)) h
  where
    go : (o : Option ℕ) → get_or o (length xs) < length xs → o ≡ some (get_or o (length xs))
    go none l = absurd (omega arith)
    go (some p) l = refl

-- and which index says it
pub none_numbered : (n : ℕ) (xs : List ℕ) → fault_in 0 (cut n (length xs / n) xs) ≡ none → length xs ≡ first_fault_in n xs
unfolding first_fault_in
none_numbered n xs e = rw e

pub some_numbered : (n : ℕ) (xs : List ℕ) (i : ℕ) → fault_in 0 (cut n (length xs / n) xs) ≡ some i → i ≡ first_fault_in n xs
unfolding first_fault_in
some_numbered n xs i e = rw e

-- the search: no fault before the vector at an index
pub record Searched (n : ℕ) (xs : List ℕ) (at : ℕ) : Type 0 where
  pub few : n ≤ 1024
  pub left : ℕ
  pub walk : Left n xs at left
  pub rest : fault_in 0 (cut n (length xs / n) xs) ≡ fault_in at (cut n left (drop at xs))

pub searched_end : {n : ℕ} {xs : List ℕ} {at : ℕ} → Searched n xs at → length xs ≤ at → fault_in 0 (cut n (length xs / n) xs) ≡ none
unfolding cut fault_in
searched_end {n} {xs} S h = S.rest ∙ rw (left_none S.walk h)

module _ {n : ℕ} {xs : List ℕ} {at : ℕ} (S : Searched n xs at) (h : at < length xs) where
  -- the vector at the index is whole
  pub searched_inside : (at + n ≤ length xs) × (length (take n (drop at xs)) ≡ n)
  searched_inside =
      let (m, e) = left_some S.walk h in
      let w : Left n xs at (suc m) = rw e at S.walk in
      (next_inside w, next_size w)

  here : (o : Option ℕ) → fault 0 (take n (drop at xs)) ≡ o
      → (m : ℕ) × Left n xs (at + n) m × (fault_in 0 (cut n (length xs / n) xs) ≡ fault_at at o (fault_in (at + n) (cut n m (drop (at + n) xs))))
  here o f =
      let (m, e) = left_some S.walk h in
      let w : Left n xs at (suc m) = rw e at S.walk in
      (m, next_left w, S.rest ∙ (rw (f, ← e) at (fault_step w)))

  pub searched_next : fault 0 (take n (drop at xs)) ≡ none → Searched n xs (at + n)
  unfolding fault_at
  searched_next f =
      let (m, w, e) = here none f in
      record { few = S.few; left = m; walk = w; rest = e }

  pub searched_here : {i : ℕ} → fault 0 (take n (drop at xs)) ≡ some i
      → (at + i < length xs) × (fault_in 0 (cut n (length xs / n) xs) ≡ some (at + i))
  unfolding fault_at
  searched_here {i} f =
      let (m, w, e) = here (some i) f in
      (omega (arith, fault_inside 0 (take n (drop at xs)) i f, searched_inside), e)
