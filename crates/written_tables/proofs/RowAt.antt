-- The rows of a table in its numbers. Main results: row_is, rows_drop, rows_take.
use Rattle.std.specs.Prelude.{◌≡◌, List, [], ◌∷◌, ◌++◌, ℕ, zero, suc, ◌+◌, ◌*◌, ◌<◌, length, get_or, take, drop}
use Rattle.std.proofs.Math.Path.{refl}
use Rattle.std.proofs.Common.{sym, ap, ◌∙◌, arith, drop-cons, take-suc}
use Rattle.rules.specs.Table.{Row, rows_of}
use Rattle.written_tables.proofs.Flat.{rows_of_length}
use Rattle.written_tables.specs.RowAt.{row_at}

three_more : (x y z : ℕ) (xs : List ℕ) (i : ℕ) → get_or (x ∷ y ∷ z ∷ xs) (3 + i) 0 ≡ get_or xs i 0
three_more x y z xs i = let e : 3 + i ≡ suc (suc (suc i)) = omega arith in rw e

row_next : (x y z : ℕ) (xs : List ℕ) (t : ℕ) → row_at (x ∷ y ∷ z ∷ xs) (suc t) ≡ row_at xs t
unfolding row_at
row_next x y z xs t =
    let a : 3 * suc t ≡ 3 + 3 * t = omega arith in
    let b : 3 * suc t + 1 ≡ 3 + (3 * t + 1) = omega arith in
    let c : 3 * suc t + 2 ≡ 3 + (3 * t + 2) = omega arith in
    λ i. (
      (ap (λ k. get_or (x ∷ y ∷ z ∷ xs) k 0) a ∙ three_more x y z xs (3 * t)) i,
      (ap (λ k. get_or (x ∷ y ∷ z ∷ xs) k 0) b ∙ three_more x y z xs (3 * t + 1)) i,
      (ap (λ k. get_or (x ∷ y ∷ z ∷ xs) k 0) c ∙ three_more x y z xs (3 * t + 2)) i,
    )

-- row t is the one that the numbers have at 3t
pub row_is : (k : ℕ) (xs : List ℕ) (t : ℕ) → length xs ≡ 3 * k → t < k → get_or (rows_of xs) t (0, 0, 0) ≡ row_at xs t
unfolding rows_of
row_is zero xs t e h = absurd (omega arith)
row_is (suc k) [] t e h = absurd (omega arith)
row_is (suc k) (x ∷ []) t e h = absurd (omega arith)
row_is (suc k) (x ∷ y ∷ []) t e h = absurd (omega arith)
row_is (suc k) (x ∷ y ∷ z ∷ xs) zero e h = unfold row_at in refl
row_is (suc k) (x ∷ y ∷ z ∷ xs) (suc t) e h = row_is k xs t (omega arith) (omega arith) ∙ sym (row_next x y z xs t)

pub rows_drop : (k : ℕ) (xs : List ℕ) (t : ℕ) → length xs ≡ 3 * k → t < k → drop t (rows_of xs) ≡ row_at xs t ∷ drop (suc t) (rows_of xs)
rows_drop k xs t e h =
    let l = rows_of_length k xs e in
    drop-cons (rows_of xs) t (0, 0, 0) (omega arith) ∙ ap (λ (r : Row). r ∷ drop (suc t) (rows_of xs)) (row_is k xs t e h)

pub rows_take : (k : ℕ) (xs : List ℕ) (t : ℕ) → length xs ≡ 3 * k → t < k → take (suc t) (rows_of xs) ≡ take t (rows_of xs) ++ (row_at xs t ∷ [])
rows_take k xs t e h =
    let l = rows_of_length k xs e in
    take-suc (rows_of xs) t (0, 0, 0) (omega arith) ∙ ap (λ (r : Row). take t (rows_of xs) ++ (r ∷ [])) (row_is k xs t e h)
