-- `tree_reading::read_tree` meets its contract: what frames the record, and then what its bytes make (specs/Gives).
use borrow.Author.Rules.{rules}
use Rattle.archive_laws.proofs.Reader.{reader_refused}
use mathlib.Core.List.{List}
use Prim.Native.Nat.{ℕ}
use Rattle.std.proofs.Common.{Err}
use Rattle.std.proofs.lemmas.Result.{err_from_is_err_and}
use Rattle.rules.specs.CallReadTree.{read_tree}
use Rattle.archive.specs.Finds.{Finds, part_ends}
use Rattle.archive.specs.declared.ArchiveFault.{ArchiveFault}
use Rattle.archive.specs.declared.ArchiveFault.TheVariants.{Length, LeafCount, NoTree}
use Rattle.tree_reading.specs.Gives.{Gives, tree_fault, record_made}
use Rattle.tree_reading.proofs.read_tree.Goals as goal

-- what is wrong with the archive is what is wrong with the tree
refused : (s : List ℕ) (r : ℕ) (vector : List ℕ) (fault : ArchiveFault) → Finds s r (Err fault) → Gives (read_tree s r) vector (Err (tree_fault fault))
refused s r vector (Length wanted) h = reader_refused s r h
refused s r vector LeafCount h = reader_refused s r h
refused s r vector (NoTree number) h = reader_refused s r h

pub overflow_add-end : goal.overflow_add-end
overflow_add-end c = let k = part_ends _ _ _ _ c.in_ok-n.ensures in search rules

pub slice_bounds-read_bare-end : goal.slice_bounds-read_bare-end
slice_bounds-read_bare-end c = let k = part_ends _ _ _ _ c.in_ok-n.ensures in search rules

pub returns-in_err-n : goal.returns-in_err-n
returns-in_err-n c =
    let (_, given, is) = err_from_is_err_and c.from_residual.result c.from_residual.ensures.1 in
    rw (given, is) (refused _ _ c.args.vector.now _ c.in_err-n.ensures)

pub returns : goal.returns
returns c = rw (record_made _ _ _ _ c.in_ok-n.ensures) c.read_bare.ensures
