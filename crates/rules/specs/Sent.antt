-- A text as sent: "Accept spaces, tabs, carriage returns and line feeds anywhere except inside a label, also before the first sign and after the
-- semicolon."
-- Main definitions: blank, signs, parted, SentText.
use Rattle.std.specs.Prelude.{Bool, false, ◌&&◌, ◌||◌, cond, List, [], ◌∷◌, ◌≡◌, ℕ, eqb}
use Rattle.rules.specs.Newick.{is_digit, Text}
use Rattle.rules.specs.Tree.{Tree}

-- "spaces, tabs, carriage returns and line feeds"
unfoldable pub blank : ℕ → Bool
blank c = eqb c 32 || (eqb c 9 || (eqb c 13 || eqb c 10))

-- "its signs without blanks"
unfoldable pub signs : List ℕ → List ℕ
unfolding blank
signs [] = []
signs (c ∷ s) = cond (blank c) (signs s) (c ∷ signs s)

-- the first byte is a blank; the first sign is a digit
unfoldable pub blank_first : List ℕ → Bool
unfolding blank
blank_first [] = false
blank_first (c ∷ s) = blank c

unfoldable pub digit_first : List ℕ → Bool
unfolding blank is_digit
digit_first [] = false
digit_first (c ∷ s) = cond (blank c) (digit_first s) (is_digit c)

-- a blank stands "inside a label": it follows a digit, and the next sign is a digit
unfoldable pub parted : List ℕ → Bool
unfolding is_digit blank_first digit_first
parted [] = false
parted (c ∷ s) = (is_digit c && (blank_first s && digit_first s)) || parted s

-- The bytes are a text as sent, which reads as the tree: a text "as its signs without blanks", with blanks "anywhere except inside a label".
pub record SentText (s : List ℕ) (t : Tree) : Type 0 where
  pub reads : Text (signs s) t
  pub whole : parted s ≡ false
