-- A walk along the vectors that a list is cut into, at the index of the next one: so many are left. Main results: left_start, left_none (at the end
-- of the list), left_some (before it); next_inside, next_size, next_cut, next_left (the vector at the index, and what is left behind it).
use Rattle.std.specs.Prelude.{◌≡◌, refl, List, ◌∷◌, ℕ, zero, suc, ◌+◌, ◌*◌, ◌/◌, ◌≤◌, ◌<◌, length, take, drop}
use Rattle.std.proofs.Common.{suc-mul, zero-mul, arith, length-take, length-drop, drop-drop}
use Rattle.rules.specs.CallWriteArchive.{cut}
use Rattle.archive_laws.specs.Cut.{Left}

pub left_start : {n : ℕ} {xs : List ℕ} → 1 ≤ n → length xs ≡ length xs / n * n → Left n xs 0 (length xs / n)
left_start h e = record { some_leaf = h; whole = omega arith }

pub left_none : {n : ℕ} {xs : List ℕ} {at left : ℕ} → Left n xs at left → length xs ≤ at → left ≡ 0
left_none {left = zero} w h = refl
left_none {n} {left = suc m} w h = absurd (omega (arith, w.whole, w.some_leaf, suc-mul m n))

pub left_some : {n : ℕ} {xs : List ℕ} {at left : ℕ} → Left n xs at left → at < length xs → (m : ℕ) × (left ≡ suc m)
left_some {n} {left = zero} w h = absurd (omega (arith, w.whole, zero-mul n))
left_some {left = suc m} w h = (m, refl)

module _ {n : ℕ} {xs : List ℕ} {at m : ℕ} (w : Left n xs at (suc m)) where
  pub next_inside : at + n ≤ length xs
  next_inside = omega (arith, w.whole, suc-mul m n)

  pub next_size : length (take n (drop at xs)) ≡ n
  next_size = rw (length-take, length-drop) (omega (arith, next_inside))

  pub next_cut : cut n (suc m) (drop at xs) ≡ take n (drop at xs) ∷ cut n m (drop (at + n) xs)
  unfolding cut
  next_cut = rw (drop-drop n at xs)

  pub next_left : Left n xs (at + n) m
  next_left = record { some_leaf = w.some_leaf; whole = omega (arith, w.whole, suc-mul m n) }
