-- The vector that a call with an input leads to, or the input itself.
-- Main definition: got.
use Rattle.std.specs.Prelude.{List, ℕ, take}
use Rattle.demands.proofs.Keeping.{Lent}
use Rattle.demands.specs.Leads.{Input, vector, table, text, packed, archived, call_of}

-- the vector that a library gives: as many elements of the buffer as its answer counts; a vector that is checked is that vector
abbrev pub got : (a : Input) → Lent (call_of a) → ℕ → List ℕ
got (vector v) after count = v
got (table n xs) after count = take count after
got (text s) after count = take count after
got (packed s) after count = take count after
got (archived s r) after count = take count after
