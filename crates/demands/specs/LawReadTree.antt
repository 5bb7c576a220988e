-- The reader of tree r of an archive: when it refuses, and that it writes an element a leaf. Main definitions: TreeThere, tree_entries, TreeRefused.
use Rattle.std.specs.Prelude.{List, ◌≢◌, ◌≡◌, ℕ, ◌-◌, ◌≤◌, ◌<◌, length}
use Rattle.rules.specs.First.{First}
use Rattle.rules.specs.Record.{leaf_count, entries_in}
use Rattle.rules.specs.Archive.{trees_in, bare_length, implied_length, packed_at}
use Rattle.demands.specs.Conditions.{CountWrong, CountRight, Above, WithinBounds, PaddingSet}

-- the archive has the length that its n and its tree count imply
abbrev pub Whole : List ℕ → Type 0
Whole s = length s ≡ implied_length (leaf_count s) (trees_in s)

-- nothing is wrong before a look into record r
abbrev pub TreeThere : List ℕ → ℕ → Type 0
TreeThere s r = CountRight (leaf_count s) × Whole s × (r < trees_in s)

-- the entries in the bits of record r, with the archive's n before them
abbrev pub tree_entries : List ℕ → ℕ → List ℕ
tree_entries s r = entries_in (leaf_count s) (packed_at (leaf_count s) s r)

-- "the reader gives 2 under 4 bytes (place 4), 1, 2 when the length is not the implied one (place: that length), 12 when r is not below the count
-- (place r), then 4 and 10 with 01's places within the record": the entry's number, the number of the record's last byte
pub data TreeRefused (s : List ℕ) (r : ℕ) : ℕ → ℕ → Type 0 where
  tree_short : length s < 4 → TreeRefused s r 2 4
  tree_1 : 4 ≤ length s → CountWrong (leaf_count s) → TreeRefused s r 1 0
  tree_2 : 4 ≤ length s → CountRight (leaf_count s) → length s ≢ implied_length (leaf_count s) (trees_in s)
      → TreeRefused s r 2 (implied_length (leaf_count s) (trees_in s))
  tree_12 : CountRight (leaf_count s) → Whole s → trees_in s ≤ r → TreeRefused s r 12 r
  tree_4 : {i : ℕ} → TreeThere s r → First (Above (tree_entries s r)) i → TreeRefused s r 4 i
  tree_10 : TreeThere s r → WithinBounds (tree_entries s r) → PaddingSet (leaf_count s) (packed_at (leaf_count s) s r)
      → TreeRefused s r 10 (bare_length (leaf_count s) - 1)
