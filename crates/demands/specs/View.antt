-- CR 1, the view: "the part of the lent archive that is record r, empty where the reader gives 1, 2 or 12". It is a part and no answer, so it is
-- stated by itself and beside the reader's promise. Main definitions: NoTreeGiven, PartIsRecord, PartIsEmpty.
use Rattle.std.specs.Prelude.{List, [], ◌⊎◌, ◌≡◌, length}
use Prim.Native.Nat.{ℕ, ◌+◌, ◌≤◌}
use Rattle.rules.specs.declared.Answer.{Answer}
use Rattle.rules.specs.Answer.{refused, reads}
use Rattle.rules.specs.Record.{leaf_count}
use Rattle.rules.specs.Archive.{bare_length, implied_length, record_at}
use Rattle.rules.specs.CallView.{part_of, view}

-- "the reader gives 1, 2 or 12"
abbrev pub OneTwoTwelve : ℕ → Type 0
OneTwoTwelve k = (k ≡ 1) ⊎ ((k ≡ 2) ⊎ (k ≡ 12))

abbrev pub NoTreeGiven : Answer → Type 0
NoTreeGiven a = (k : ℕ) × (p : ℕ) × (reads a ≡ refused k p) × OneTwoTwelve k

-- "the part of the lent archive that is record r": it starts where an archive of r trees ends, has the bytes of a record of n leaves, lies within the
-- archive and is record r; for 1 or 2 leaves it has no bytes
pub record PartIsRecord (s : List ℕ) (r : ℕ) : Type 0 where
  pub place : part_of s r ≡ (implied_length (leaf_count s) r, bare_length (leaf_count s))
  pub within : implied_length (leaf_count s) r + bare_length (leaf_count s) ≤ length s
  pub bytes : view s r ≡ record_at (leaf_count s) s r
  pub all_its_bytes : length (view s r) ≡ bare_length (leaf_count s)

-- "empty": it starts nowhere in the records, and has no bytes
pub record PartIsEmpty (s : List ℕ) (r : ℕ) : Type 0 where
  pub place : part_of s r ≡ (0, 0)
  pub bytes : view s r ≡ []
