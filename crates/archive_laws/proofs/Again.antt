-- What is written is read back: the header, the length, each tree, and each record as a part of the archive. Main result: written_then_read.
use Rattle.std.specs.Prelude.{◌≡◌, List, ℕ}
use Rattle.rules.specs.Archive.{archive_of}
use Rattle.rules.specs.Answer.{made}
use Rattle.rules.specs.CallWriteArchive.{write_archive}
use Rattle.archive_laws.specs.Written.{joined}
use Rattle.archive_laws.proofs.Written.{length_written, header_written, read_written, view_written, write_archive_lem}
use Rattle.archive_laws.specs.Writer.{Run}
use Rattle.archive_laws.specs.Again.{ReadsBack}

-- of vectors that go into one archive
pub written_then_read : (n : ℕ) (vs : List (List ℕ)) → Run n vs → (write_archive n (joined vs) ≡ made (archive_of n vs)) × ReadsBack n vs (archive_of n vs)
written_then_read n vs R =
    let T = R.trees in
    let a = R.some_leaf in
    let b = R.few_leaves in
    let c = R.few in (
      write_archive_lem n vs T a b c,
      record {
        leaves = (header_written n vs b c).0;
        trees = (header_written n vs b c).1;
        whole = length_written n vs T;
        each = read_written n vs T a b c;
        part = view_written n vs T a b c;
      },
    )
