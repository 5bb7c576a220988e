-- What stands for the name of a node that a row has named as a child: no name is as high.
-- Main definition: mark.
use Rattle.std.specs.Prelude.{ℕ}

abbrev pub mark : ℕ
mark = 65535
