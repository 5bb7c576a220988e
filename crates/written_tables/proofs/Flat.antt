-- Rows as numbers in a row, three for each.
-- Main results: flat_length, rows_of_flat, rows_of_length, flat_first, flat_second, flat_parent.
use Rattle.std.specs.Prelude.{◌≡◌, refl, List, [], ◌∷◌, ℕ, zero, suc, ◌+◌, ◌*◌, ◌<◌, length, get_or}
use Rattle.std.proofs.Common.{ap, arith}
use Rattle.rules.specs.Table.{Row, flat, rows_of}

pub flat_length : (rs : List Row) → length (flat rs) ≡ 3 * length rs
unfolding flat
flat_length [] = refl
flat_length (r ∷ rs) = omega (arith, flat_length rs)

-- numbers read as rows
pub rows_of_flat : (rs : List Row) → rows_of (flat rs) ≡ rs
unfolding flat rows_of
rows_of_flat [] = refl
rows_of_flat (r ∷ rs) = ap (λ (q : List Row). r ∷ q) (rows_of_flat rs)

pub rows_of_length : (k : ℕ) (xs : List ℕ) → length xs ≡ 3 * k → length (rows_of xs) ≡ k
unfolding rows_of
rows_of_length zero [] e = refl
rows_of_length zero (a ∷ xs) e = absurd (omega arith)
rows_of_length (suc k) [] e = absurd (omega arith)
rows_of_length (suc k) (a ∷ []) e = absurd (omega arith)
rows_of_length (suc k) (a ∷ b ∷ []) e = absurd (omega arith)
rows_of_length (suc k) (a ∷ b ∷ c ∷ xs) e = ap suc (rows_of_length k xs (omega arith))

-- the numbers of row t
pub flat_first : (rs : List Row) (t : ℕ) → t < length rs → get_or (flat rs) (3 * t) 0 ≡ (get_or rs t (0, 0, 0)).0
unfolding flat
flat_first [] t h = absurd (omega arith)
flat_first (r ∷ rs) zero h = refl
flat_first (r ∷ rs) (suc t) h = let z : 3 * suc t ≡ suc (suc (suc (3 * t))) = omega arith in rw z (flat_first rs t (omega arith))

pub flat_second : (rs : List Row) (t : ℕ) → t < length rs → get_or (flat rs) (3 * t + 1) 0 ≡ (get_or rs t (0, 0, 0)).1
unfolding flat
flat_second [] t h = absurd (omega arith)
flat_second (r ∷ rs) zero h = refl
flat_second (r ∷ rs) (suc t) h = let z : 3 * suc t + 1 ≡ suc (suc (suc (3 * t + 1))) = omega arith in rw z (flat_second rs t (omega arith))

pub flat_parent : (rs : List Row) (t : ℕ) → t < length rs → get_or (flat rs) (3 * t + 2) 0 ≡ (get_or rs t (0, 0, 0)).2
unfolding flat
flat_parent [] t h = absurd (omega arith)
flat_parent (r ∷ rs) zero h = refl
flat_parent (r ∷ rs) (suc t) h = let z : 3 * suc t + 2 ≡ suc (suc (suc (3 * t + 2))) = omega arith in rw z (flat_parent rs t (omega arith))
