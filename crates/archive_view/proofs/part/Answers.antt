-- `archive_view::part` meets its contract: the part that was found, and in the other three cases none.
use mathlib.Core.List.{List}
use Prim.Native.Nat.{ℕ}
use Rattle.std.proofs.Common.{Err}
use Rattle.archive.specs.Finds.{Finds}
use Rattle.archive.specs.declared.ArchiveFault.{ArchiveFault}
use Rattle.archive.specs.declared.ArchiveFault.TheVariants.{Length, LeafCount, NoTree}
use Rattle.archive_view.specs.Shows.{Nothing, record_shown, nothing_shown}
use Rattle.archive_view.proofs.part.Goals as goal

-- where no record is found
no_record : (s : List ℕ) (r : ℕ) (fault : ArchiveFault) → Finds s r (Err fault) → Nothing s r
no_record s r (Length wanted) h = nothing_shown s r h
no_record s r LeafCount h = nothing_shown s r h
no_record s r (NoTree number) h = nothing_shown s r h

pub returns-in-Ok : goal.returns-in-Ok
returns-in-Ok c = record_shown _ _ _ _ c.in-Ok.ensures

pub returns-in-Err : goal.returns-in-Err
returns-in-Err c = no_record _ _ _ c.in-Err.ensures
