-- A label read digit by digit, the signs added up as they stand and 48 for each digit taken off at the end. Main definition: Digits.
use Rattle.std.specs.Prelude.{◌≡◌, List, ℕ, ◌+◌, ◌≤◌, length, drop}
use Rattle.grammar.specs.Reading.{more_digits, label_read}

-- the first i digits of a label make x, and k more may follow
pub record Digits (s : List ℕ) (at i k x : ℕ) : Type 0 where
  pub within : at + i ≤ length s
  pub reads : label_read (drop at s) ≡ more_digits k x (drop (at + i) s)
