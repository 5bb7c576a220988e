-- The labels that blanks part, found byte by byte by what stands before each. Main definitions: Last, next, parts, parted_from, last_of,
-- ends_in_digit.
use Rattle.std.specs.Prelude.{Bool, true, false, ◌&&◌, ◌||◌, cond, List, [], ◌∷◌, ℕ}
use Rattle.rules.specs.Newick.{is_digit}
use Rattle.rules.specs.Sent.{blank, blank_first, digit_first, parted}

-- What stands before a byte: no digit; a digit; a digit and then blanks.
pub data Last : Type 0 where
  other : Last
  digit : Last
  gap : Last

unfoldable pub past : Last → Last
past other = other
past digit = gap
past gap = gap

unfoldable pub at_gap : Last → Bool
at_gap other = false
at_gap digit = false
at_gap gap = true

-- the last sign before is a digit
unfoldable pub behind_digit : Last → Bool
behind_digit other = false
behind_digit digit = true
behind_digit gap = true

unfoldable pub next : Last → ℕ → Last
unfolding past blank is_digit
next l c = cond (blank c) (past l) (cond (is_digit c) digit other)

-- a digit here parts a label
unfoldable pub parts : Last → ℕ → Bool
unfolding at_gap is_digit
parts l c = is_digit c && at_gap l

-- a label of the bytes is parted, by what stands before them
unfoldable pub parted_from : Last → List ℕ → Bool
unfolding parted blank_first digit_first
parted_from other s = parted s
parted_from digit s = (blank_first s && digit_first s) || parted s
parted_from gap s = digit_first s || parted s

-- what stands before the end of the bytes
unfoldable pub last_of : Last → List ℕ → Last
unfolding next
last_of l [] = l
last_of l (c ∷ s) = last_of (next l c) s

-- bytes end in a digit; where there are none, what is said of those before them
unfoldable pub ends_in_digit : Bool → List ℕ → Bool
unfolding is_digit
ends_in_digit b [] = b
ends_in_digit b (c ∷ s) = ends_in_digit (is_digit c) s
