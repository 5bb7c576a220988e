-- The list of larger names, which grows at both ends from its middle. Each of 1,023 names moves the front by one place at most, and a move
-- takes up to sixteen places beyond the names with it.
-- Main definitions: list_room, list_middle.
use Rattle.std.specs.Prelude.{ℕ}

abbrev pub list_room : ℕ
list_room = 2080

abbrev pub list_middle : ℕ
list_middle = 1040
