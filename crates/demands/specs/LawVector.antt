-- The calls that begin from a vector: when they refuse it, and what they make where they go on. Main definition: VectorRefused.
use Rattle.std.specs.Prelude.{List, ℕ, length}
use Rattle.demands.specs.Conditions.{CountWrong, CountRight, Above}
use Rattle.rules.specs.First.{First}

-- "From a vector: 1, 4"
pub data VectorRefused (v : List ℕ) : ℕ → ℕ → Type 0 where
  vector_1 : CountWrong (length v) → VectorRefused v 1 0
  vector_4 : {i : ℕ} → CountRight (length v) → First (Above v) i → VectorRefused v 4 i
