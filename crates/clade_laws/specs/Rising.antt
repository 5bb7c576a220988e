-- Strictly rising lists of numbers: what a list rises to, and that its members fix it. Main definitions: From, Rises.
use Rattle.std.specs.Prelude.{List, [], ◌∷◌, ℕ, ◌+◌, ◌≤◌, ◌<◌, length, get_or}

-- the numbers rise strictly, and the first is at least b
unfoldable pub From : ℕ → List ℕ → Type 0
From b [] = Unit {0}
From b (m ∷ l) = (b ≤ m) × From (m + 1) l

-- the same by places
unfoldable pub Rises : List ℕ → Type 0
Rises l = (i j : ℕ) → i < j → j < length l → get_or l i 0 < get_or l j 0
