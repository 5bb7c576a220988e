-- Clade tables worked by hand from 02, proved of the definitions.
-- Main results: tables_hold (tables of archives), table_refusals_hold (02's order and places).
use Rattle.std.specs.Prelude.{List, [], ◌∷◌, refl, ℕ}
use Rattle.rules.specs.declared.Clade.{Clade as Entry}
use Rattle.rules.specs.Vector.{fault}
use Rattle.rules.specs.Order.{listed}
use Rattle.rules.specs.Answer.{Making, made, refuses}
use Rattle.rules.specs.CallCladeTable.{table_of_archive}
use Rattle.rules.proofs.Samples.{Hold}

abbrev clade : ℕ → ℕ → ℕ → Entry
clade leaves size count = record { leaves = leaves; size = size; count = count }

-- ((0,(1,2)),3) and ((0,(1,3)),2), the trees of 0,0,1,4 and 0,0,2,1: {1,2} is 6, {0,1,2} is 7, {1,3} is 10, {0,1,3} is 11; both have all, 15.
abbrev two_trees : List ℕ
two_trees = 0x00 ∷ 0x80 ∷ 0x00 ∷ 0x02 ∷ 0x60 ∷ 0x88 ∷ []

-- That table; ((0,1),2), the tree of 0,0,2; no trees; trees of one leaf; of two leaves.
abbrev tables : List (Making (List Entry) × Making (List Entry))
tables =
    (table_of_archive two_trees, made (clade 6 2 1 ∷ clade 7 3 1 ∷ clade 10 2 1 ∷ clade 11 3 1 ∷ clade 15 4 2 ∷ []))
    ∷ (table_of_archive (0x00 ∷ 0x60 ∷ 0x00 ∷ 0x01 ∷ 0x80 ∷ []), made (clade 3 2 1 ∷ clade 7 3 1 ∷ []))
    ∷ (table_of_archive (0x00 ∷ 0x80 ∷ 0x00 ∷ 0x00 ∷ []), made [])
    ∷ (table_of_archive (0x00 ∷ 0x20 ∷ 0x00 ∷ 0x03 ∷ []), made [])
    ∷ (table_of_archive (0x00 ∷ 0x40 ∷ 0x00 ∷ 0x05 ∷ []), made (clade 3 2 5 ∷ []))
    ∷ []

tables_hold : Hold tables
unfolding table_of_archive listed fault
tables_hold = refl

-- Too short for a header; no leaf, and n of 2,047; n of 65 and of 1,024, before the length; a byte too many, before an entry above its bound;
-- such an entry in the second tree, behind padding in the first and before padding of its own; padding in the second tree.
abbrev refusals : List (Making (List Entry) × Making (List Entry))
refusals =
    (table_of_archive (0x00 ∷ 0x80 ∷ 0x00 ∷ []), refuses 2 4)
    ∷ (table_of_archive (0x00 ∷ 0x00 ∷ 0x00 ∷ 0x01 ∷ []), refuses 1 0)
    ∷ (table_of_archive (0xFF ∷ 0xE0 ∷ 0x00 ∷ 0x01 ∷ []), refuses 1 0)
    ∷ (table_of_archive (0x08 ∷ 0x20 ∷ 0x00 ∷ 0x01 ∷ []), refuses 14 65)
    ∷ (table_of_archive (0x80 ∷ 0x00 ∷ 0x00 ∷ 0x01 ∷ []), refuses 14 1024)
    ∷ (table_of_archive (0x00 ∷ 0x80 ∷ 0x00 ∷ 0x01 ∷ 0xEF ∷ 0x00 ∷ []), refuses 2 5)
    ∷ (table_of_archive (0x00 ∷ 0x80 ∷ 0x00 ∷ 0x02 ∷ 0x67 ∷ 0xEF ∷ []), refuses 10 0)
    ∷ (table_of_archive (0x00 ∷ 0x80 ∷ 0x00 ∷ 0x02 ∷ 0x60 ∷ 0xEF ∷ []), refuses 4 2)
    ∷ (table_of_archive (0x00 ∷ 0x80 ∷ 0x00 ∷ 0x02 ∷ 0x60 ∷ 0x8F ∷ []), refuses 10 0)
    ∷ []

table_refusals_hold : Hold refusals
unfolding table_of_archive listed fault
table_refusals_hold = refl
