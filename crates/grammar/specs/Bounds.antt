-- The codes of the children of a tree's pairs are small. Main definition: SecondsBelow.
use Rattle.std.specs.Prelude.{List, [], ◌∷◌, ℕ, ◌<◌}

abbrev pub SecondsBelow : ℕ → List (ℕ × ℕ) → Type 0
SecondsBelow m [] = Unit {0}
SecondsBelow m (c ∷ cs) = (c.1 < m) × SecondsBelow m cs
