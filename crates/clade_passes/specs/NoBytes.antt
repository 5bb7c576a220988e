-- Archives whose records have no bytes, those of one leaf and of two leaves: every record makes the same vector.
use Rattle.std.specs.Prelude.{ℕ}
use Rattle.rules.specs.declared.Clade.{Clade as Entry}

-- the clade of leaves 0 and 1, in so many trees
abbrev pub both : ℕ → Entry
both count = record { leaves = 3; size = 2; count = count }
