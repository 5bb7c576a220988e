-- Archives worked by hand from 02, proved of the definitions.
-- Main results: archives_hold (archives written and read back), views_hold (the parts that records are), refusals_hold (02's order and places).
use Rattle.std.specs.Prelude.{List, [], ◌∷◌, ◌++◌, ◌≡◌, refl, ℕ}
use Rattle.rules.specs.Vector.{fault}
use Rattle.rules.specs.Order.{listed}
use Rattle.rules.specs.Answer.{Made, made, refuses}
use Rattle.rules.specs.CallWriteArchive.{write_archive}
use Rattle.rules.specs.CallReadTree.{read_tree}
use Rattle.rules.specs.CallView.{part_of, view}
use Rattle.rules.proofs.Samples.{Hold}

-- The trees 0,0,1,4 and 0,0,2,1: n is 00000000100, the count 000000000000000000010; 01 100 and then 000 fill a byte, 10 001 and 000 the next.
abbrev two_trees : List ℕ
two_trees = 0x00 ∷ 0x80 ∷ 0x00 ∷ 0x02 ∷ 0x60 ∷ 0x88 ∷ []

-- no trees of four leaves; three trees of one leaf, and as many as there can be; trees of two leaves
abbrev no_trees : List ℕ
no_trees = 0x00 ∷ 0x80 ∷ 0x00 ∷ 0x00 ∷ []

abbrev three_leaves : List ℕ
three_leaves = 0x00 ∷ 0x20 ∷ 0x00 ∷ 0x03 ∷ []

abbrev most_leaves : List ℕ
most_leaves = 0x00 ∷ 0x3F ∷ 0xFF ∷ 0xFF ∷ []

abbrev archives : List (Made × Made)
archives =
    (write_archive 4 (0 ∷ 0 ∷ 1 ∷ 4 ∷ 0 ∷ 0 ∷ 2 ∷ 1 ∷ []), made two_trees)
    ∷ (read_tree two_trees 0, made (0 ∷ 0 ∷ 1 ∷ 4 ∷ []))
    ∷ (read_tree two_trees 1, made (0 ∷ 0 ∷ 2 ∷ 1 ∷ []))
    ∷ (write_archive 4 [], made no_trees)
    ∷ (write_archive 1 (0 ∷ 0 ∷ 0 ∷ []), made three_leaves)
    ∷ (read_tree three_leaves 2, made (0 ∷ []))
    ∷ (read_tree most_leaves 2097150, made (0 ∷ []))
    ∷ (write_archive 2 (0 ∷ 0 ∷ []), made (0x00 ∷ 0x40 ∷ 0x00 ∷ 0x01 ∷ []))
    ∷ (read_tree (0x00 ∷ 0x40 ∷ 0x00 ∷ 0x05 ∷ []) 3, made (0 ∷ 0 ∷ []))
    ∷ []

archives_hold : Hold archives
unfolding write_archive read_tree listed fault
archives_hold = refl

views_hold : (part_of two_trees 1 ≡ (5, 1)) × (view two_trees 1 ≡ 0x88 ∷ []) × (view two_trees 2 ≡ []) × (part_of no_trees 0 ≡ (0, 0))
    × (part_of three_leaves 2 ≡ (4, 0)) × (view (0x00 ∷ 0x80 ∷ 0x00 ∷ 0x01 ∷ 0x07 ∷ []) 0 ≡ 0x07 ∷ [])
unfolding part_of view
views_hold = (refl, refl, refl, refl, refl, refl)

-- The reader: too short for a header; n of 2,047, before the length; a byte too few, and too many, before the tree's number; no such tree,
-- before what is wrong in another record; an entry above its bound, before padding; padding.
abbrev readings : List (Made × Made)
readings =
    (read_tree (0x00 ∷ 0x80 ∷ 0x00 ∷ []) 0, refuses 2 4)
    ∷ (read_tree (0x00 ∷ 0x00 ∷ 0x00 ∷ 0x01 ∷ []) 0, refuses 1 0)
    ∷ (read_tree (0xFF ∷ 0xE0 ∷ 0x00 ∷ 0x01 ∷ []) 0, refuses 1 0)
    ∷ (read_tree (0x00 ∷ 0x80 ∷ 0x00 ∷ 0x02 ∷ 0x60 ∷ []) 2, refuses 2 6)
    ∷ (read_tree (two_trees ++ (0x00 ∷ [])) 0, refuses 2 6)
    ∷ (read_tree two_trees 2, refuses 12 2)
    ∷ (read_tree no_trees 0, refuses 12 0)
    ∷ (read_tree (0x00 ∷ 0x80 ∷ 0x00 ∷ 0x02 ∷ 0x60 ∷ 0xEF ∷ []) 0, made (0 ∷ 0 ∷ 1 ∷ 4 ∷ []))
    ∷ (read_tree (0x00 ∷ 0x80 ∷ 0x00 ∷ 0x02 ∷ 0x60 ∷ 0xEF ∷ []) 1, refuses 4 2)
    ∷ (read_tree (0x00 ∷ 0x80 ∷ 0x00 ∷ 0x02 ∷ 0x60 ∷ 0x8F ∷ []) 1, refuses 10 0)
    ∷ []

-- The writer: no leaf; too many leaves; not whole vectors, before an entry above its bound; the first such entry of the list.
abbrev writings : List (Made × Made)
writings =
    (write_archive 0 (0 ∷ []), refuses 1 0)
    ∷ (write_archive 1025 [], refuses 1 0)
    ∷ (write_archive 4 (9 ∷ 0 ∷ 1 ∷ 4 ∷ 0 ∷ []), refuses 2 8)
    ∷ (write_archive 3 (0 ∷ 0 ∷ 2 ∷ 0 ∷ 1 ∷ 3 ∷ []), refuses 4 4)
    ∷ []

refusals_hold : Hold readings × Hold writings
unfolding write_archive read_tree listed fault
refusals_hold = (refl, refl)
