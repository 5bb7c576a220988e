-- Bytes without blanks: they are their own signs, all of them are kept, each in its place. A text by the grammar has none. Main definitions:
-- blankless.
use Rattle.std.specs.Prelude.{Bool, true, ◌&&◌, not, List, [], ◌∷◌, ℕ}
use Rattle.rules.specs.Sent.{blank}

unfoldable pub blankless : List ℕ → Bool
unfolding blank
blankless [] = true
blankless (c ∷ s) = not (blank c) && blankless s
