-- The reader reads every node and every text, so that the grammar is unambiguous and the reader finds the place of refusal 8. Main definition:
-- NoDigit.
use Rattle.std.specs.Prelude.{◌≡◌, false, List, [], ◌∷◌, ℕ}
use Rattle.rules.specs.Newick.{is_digit}

-- the bytes do not begin with a digit
abbrev pub NoDigit : List ℕ → Type 0
NoDigit [] = Unit {0}
NoDigit (c ∷ r) = is_digit c ≡ false
