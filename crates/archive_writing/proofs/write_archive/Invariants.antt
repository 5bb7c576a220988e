-- `archive_writing::write_archive` meets its contract: the header, and then the records one by one.
use Prim.Native.Nat.{◌+◌, ◌*◌}
use Rattle.archive_writing.specs.Writing.{Wrote}
use Rattle.archive_writing.proofs.write_archive.Given as goal

abbrev pub invariant-loop-t : goal.invariant-loop-t
invariant-loop-t l = Wrote l.n l.entries l.bytes l.initial.out l.out (l.t * l.n) (4 + l.t * l.bytes)
