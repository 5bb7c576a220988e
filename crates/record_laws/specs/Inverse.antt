-- Packing and unpacking are inverse: unpacking gives back each valid vector of up to 1,024 entries from its record, and it accepts these records and
-- no others.
use Rattle.std.specs.Prelude.{List, ◌++◌, ℕ, ◌-◌, ◌*◌, length, replicate}
use Rattle.rules.specs.Record.{Bits, total, record_length, field, fields}

-- a vector's bits before padding
abbrev pub row : List ℕ → Bits
row v = field 11 (length v) ++ fields 0 v

-- the zero bits behind the fields of n entries
abbrev pub pad : ℕ → Bits
pad n = replicate (8 * record_length n - total n) 0
