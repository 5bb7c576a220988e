-- A number below 10,000 in decimal is a label that reads as the number. Main definitions: digit_count, two_digits.
use Rattle.std.specs.Prelude.{◌≡◌, true, false, cond, List, [], ◌∷◌, ℕ, zero, suc, ◌+◌, ◌*◌, ◌/◌, ◌%◌, ◌<◌, eqb, ltb, length}
use Rattle.rules.specs.Newick.{all_digits, value_from}

-- the largest number of k digits, and one more
abbrev pub tens : ℕ → ℕ
tens zero = 1
tens (suc k) = 10 * tens k

-- x, which is not 0, written without a leading 0
pub record Written (k x : ℕ) (s : List ℕ) : Type 0 where
  pub first : ℕ
  pub rest : List ℕ
  pub split : s ≡ first ∷ rest
  pub all : all_digits (first ∷ rest) ≡ true
  pub no_zero : eqb first 48 ≡ false
  pub few : length rest < k
  pub value : value_from 0 (first ∷ rest) ≡ x

-- how many digits a number below 10,000 has
unfoldable pub digit_count : ℕ → ℕ
digit_count x = cond (ltb x 10) 1 (cond (ltb x 100) 2 (cond (ltb x 1000) 3 4))

-- a number below 100 by two digits
abbrev pub two_digits : ℕ → List ℕ
two_digits x = (48 + x / 10) ∷ (48 + x % 10) ∷ []
