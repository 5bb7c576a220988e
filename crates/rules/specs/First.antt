-- "Of one number, the first place counts."
-- Main definition: First.
use Rattle.std.specs.Prelude.{ℕ, ◌<◌}

-- something is wrong at place i, and at no place before
abbrev pub First : (ℕ → Type 0) → ℕ → Type 0
First Wrong i = Wrong i × ((j : ℕ) → j < i → Wrong j → ⊥)
