-- CR 4: the trees of a clade table are those that the reader of tree r reads, one for each number below the tree count; and the table of an archive
-- that is written. Main definition: AllRead.
use Rattle.std.specs.Prelude.{List, [], ◌≡◌, ℕ, ◌<◌, length, get_or}
use Rattle.rules.specs.Archive.{trees_in}
use Rattle.rules.specs.Answer.{made}
use Rattle.rules.specs.CallReadTree.{read_tree}

-- the reader reads vs's vector r as tree r, for each r below the tree count
abbrev pub AllRead : List ℕ → List (List ℕ) → Type 0
AllRead s vs = (length vs ≡ trees_in s) × ((r : ℕ) → r < trees_in s → read_tree s r ≡ made (get_or vs r []))
