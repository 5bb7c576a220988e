-- "The answer about tree r depends on the header, the archive's length, r, the output's length and record r's bytes only." Main results: read_local,
-- part_local.
use Rattle.std.specs.Prelude.{◌≡◌, List, ℕ, take}
use Rattle.std.proofs.Common.{sym, ap, ◌∙◌}
use Rattle.rules.specs.Record.{leaf_count}
use Rattle.rules.specs.Archive.{trees_in, packed_at}
use Rattle.rules.specs.CallReadTree.{read_tree}
use Rattle.rules.specs.CallView.{part_of}
use Rattle.archive_laws.proofs.Header.{leaves_first, trees_first}
use Rattle.archive_laws.specs.Local.{Alike}

same_leaves : (s t : List ℕ) → take 4 s ≡ take 4 t → leaf_count s ≡ leaf_count t
same_leaves s t e = leaves_first s ∙ ap leaf_count e ∙ sym (leaves_first t)

same_trees : (s t : List ℕ) → take 4 s ≡ take 4 t → trees_in s ≡ trees_in t
same_trees s t e = trees_first s ∙ ap trees_in e ∙ sym (trees_first t)

-- the reader makes the same of both
pub read_local : (s t : List ℕ) (r : ℕ) → Alike s t r → read_tree s r ≡ read_tree t r
unfolding read_tree packed_at
read_local s t r A =
    let a = same_leaves s t A.same_header in
    let b = same_trees s t A.same_header in
    let c = A.same_length in
    let d = A.same_record in
    cc

-- and the view is the same part
pub part_local : (s t : List ℕ) (r : ℕ) → Alike s t r → part_of s r ≡ part_of t r
unfolding part_of
part_local s t r A =
    let a = same_leaves s t A.same_header in
    let b = same_trees s t A.same_header in
    let c = A.same_length in
    cc
