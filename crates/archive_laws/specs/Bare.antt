-- Records without their n: length, bits, entries and padding, read back as those of a record that has its n.
use Rattle.std.specs.Prelude.{ℕ, ◌-◌, ◌*◌, replicate}
use Rattle.rules.specs.Record.{Bits}
use Rattle.rules.specs.Archive.{field_bits, bare_length}

-- the zero bits behind the fields of n entries
abbrev pub bare_pad : ℕ → Bits
bare_pad n = replicate (8 * bare_length n - field_bits n) 0
