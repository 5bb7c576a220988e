-- The clade table of an archive: when it is refused, and that it has an entry for each different clade of the archive's trees. Main definitions:
-- TreeRight, TreeReached, CladesRefused, tree_vectors, table_length.
use Rattle.std.specs.Prelude.{List, [], ◌∷◌, ◌++◌, ◌≢◌, ℕ, zero, suc, ◌-◌, ◌≤◌, ◌<◌}
use Rattle.std.proofs.Math.ListN.{length}
use Rattle.rules.specs.First.{First}
use Rattle.rules.specs.Record.{leaf_count}
use Rattle.rules.specs.Archive.{trees_in, bare_length, implied_length, packed_at}
use Rattle.rules.specs.CladeTable.{trees_of, clade_table}
use Rattle.demands.specs.Conditions.{CountWrong, CountRight, Above, WithinBounds, PaddingSet}
use Rattle.demands.specs.LawReadTree.{Whole, tree_entries}

-- "archives of up to 64 leaves"
abbrev pub FewLeaves : List ℕ → Type 0
FewLeaves s = (1 ≤ leaf_count s) × (leaf_count s ≤ 64)

-- a padding bit of record r is set
abbrev pub TreePadded : List ℕ → ℕ → Type 0
TreePadded s r = PaddingSet (leaf_count s) (packed_at (leaf_count s) s r)

-- nothing is wrong in record r
abbrev pub TreeRight : List ℕ → ℕ → Type 0
TreeRight s r = WithinBounds (tree_entries s r) × (TreePadded s r → ⊥)

-- "tree by tree": nothing is wrong before record r
abbrev pub TreeReached : List ℕ → ℕ → Type 0
TreeReached s r = FewLeaves s × Whole s × (r < trees_in s) × ((q : ℕ) → q < r → TreeRight s q)

-- "the archive's header refusals, with 14 for n above 64 (place n) directly after 1; then 4 and 10 tree by tree": 4 at the entry's number in its
-- record, 10 at the number of the record's last byte
pub data CladesRefused (s : List ℕ) : ℕ → ℕ → Type 0 where
  clades_short : length s < 4 → CladesRefused s 2 4
  clades_1 : 4 ≤ length s → CountWrong (leaf_count s) → CladesRefused s 1 0
  clades_14 : 4 ≤ length s → CountRight (leaf_count s) → 64 < leaf_count s → CladesRefused s 14 (leaf_count s)
  clades_2 : 4 ≤ length s → FewLeaves s → length s ≢ implied_length (leaf_count s) (trees_in s) → CladesRefused s 2 (implied_length (leaf_count s) (trees_in s))
  clades_4 : {r i : ℕ} → TreeReached s r → First (Above (tree_entries s r)) i → CladesRefused s 4 i
  clades_10 : {r : ℕ} → TreeReached s r → WithinBounds (tree_entries s r) → TreePadded s r → CladesRefused s 10 (bare_length (leaf_count s) - 1)

-- the lists f 0 to f (k-1)
unfoldable pub lists_below : (ℕ → List ℕ) → ℕ → List (List ℕ)
lists_below f zero = []
lists_below f (suc k) = lists_below f k ++ (f k ∷ [])

-- the entries in the bits of all records: the archive's vectors, where nothing is wrong
abbrev pub tree_vectors : List ℕ → List (List ℕ)
tree_vectors s = lists_below (tree_entries s) (trees_in s)

-- how many entries the table of their trees has: one for each different clade
unfoldable pub table_length : List ℕ → ℕ
unfolding clade_table trees_of lists_below
table_length s = length (clade_table (trees_of (tree_vectors s)))
