-- A reading position that moves over the bytes that it was lent.
-- Main definitions: at_bit, moved_on.
use Rattle.std.specs.Prelude.{List, ℕ, ◌+◌}
use Rattle.std.specs.Borrow.{Bor}
use Rattle.bit_reader.specs.declared.Reader.{Reader}

-- before bit n
abbrev pub at_bit : ℕ → Bor (List ℕ) → Reader
at_bit n bytes = record { bytes = bytes; at = n }

-- w bits further on, over the same bytes
abbrev pub moved_on : ℕ → Reader → Reader
moved_on w r = record { bytes = r.bytes; at = r.at + w }
