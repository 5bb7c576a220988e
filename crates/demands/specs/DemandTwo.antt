-- Demand 2: "The tree of a vector is the one the paper's building rule gives; vector, table, packed record and text of a tree are the ones the rules
-- fix; turned back, each gives the vector it came from." CR 1: "Demands 2 and 3 read archive records as packed records with that n." So of an archive
-- the demand says that its records are those of its vectors. Main definitions: Vector, InRun.
use Rattle.std.specs.Prelude.{List, [], ◌≡◌, ℕ, ◌<◌, length, get_or}
use Rattle.archive_laws.specs.Writer.{Run}
pub use Rattle.rules.specs.Vector.{Vector}

-- the vectors of a run, of which number r is v: they go into one archive
abbrev pub InRun : List ℕ → List (List ℕ) → ℕ → Type 0
InRun v vs r = Run (length v) vs × (r < length vs) × (get_or vs r [] ≡ v)
