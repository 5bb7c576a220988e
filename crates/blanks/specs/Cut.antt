-- Where a text begins with bytes that end in a digit, some text begins so and goes on with no digit. Main definitions: Going.
use Rattle.std.specs.Prelude.{◌≡◌, ◌⊎◌, ℕ}
use mathlib.Core.List.{List, ◌∷◌, ◌++◌}
use Rattle.rules.specs.Tree.{Tree}
use Rattle.grammar.specs.Complete.{NoDigit}

-- a byte of two lists in a row is a byte of the first or of the second
abbrev pub Either : List ℕ → List ℕ → List ℕ → ℕ → List ℕ → Type 0
Either a b p c r =
    ((q : List ℕ) × (a ≡ p ++ (c ∷ q)) × (r ≡ q ++ b)) ⊎ ((q : List ℕ) × (p ≡ a ++ q) × (b ≡ q ++ (c ∷ r)))

-- what a grammar's bytes that begin with p and the digit c can go on with
abbrev pub Going : (List ℕ → Tree → Type 0) → List ℕ → ℕ → Type 0
Going G p c = (r : List ℕ) × (t : Tree) × NoDigit r × G (p ++ (c ∷ r)) t
