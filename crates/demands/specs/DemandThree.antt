-- Demand 3: two accepted inputs, in whatever notation, lead to the same vector exactly when they have the same clades, each worked out in its own
-- notation; and every rooted binary tree with leaves 0 to n-1 is the tree of an accepted vector. Main definitions: CladeOf (Input and Leads are in
-- Leads), TextLeads.
use Rattle.std.specs.Prelude.{Bool, List, ◌↔◌, ◌≡◌, ℕ, ◌≤◌}
use Rattle.rules.specs.Tree.{Tree, tree_of, LeavesBelow, Clade}
use Rattle.rules.specs.Order.{vector_of}
use Rattle.rules.specs.Table.{rows_of, TableClade}
use Rattle.rules.specs.Sent.{SentText}
use Rattle.rules.specs.Record.{leaf_count, entries_of}
use Rattle.rules.specs.Archive.{packed_at}
use Rattle.rules.specs.CallFromNewick.{NotLong}
use Rattle.archive_laws.specs.AsPacked.{as_packed}
use Rattle.demands.specs.LawReadTree.{tree_entries}
use Rattle.demands.specs.Leads.{Input, vector, table, text, packed, archived}
use Rattle.demands.specs.DemandTwo.{Vector}

-- the clades of an input, worked out in its own notation: by the building rule; by the rows alone; by the brackets of its signs; by the bits' entries;
-- and in an archive by the entries in the bits of record r, with the archive's n before them
abbrev pub CladeOf : Input → (ℕ → Bool) → Type 0
CladeOf (vector v) c = Clade (tree_of v) c
CladeOf (table n xs) c = TableClade n (rows_of xs) c
CladeOf (text s) c = (t : Tree) × SentText s t × Clade t c
CladeOf (packed s) c = Clade (tree_of (entries_of (leaf_count s) s)) c
CladeOf (archived s r) c = Clade (tree_of (tree_entries s r)) c

-- an accepted input leads to a vector of the demand, and its clades are those of the vector's tree
pub record Led (a : Input) (v : List ℕ) : Type 0 where
  pub vector_of_lem : Vector v
  pub clades : (c : ℕ → Bool) → CladeOf a c ↔ Clade (tree_of v) c

-- a text that is accepted, and the tree that it reads as
pub record TextLeads (s w : List ℕ) : Type 0 where
  pub tree : Tree
  pub leaf_count_lem : ℕ
  pub short : NotLong s
  pub reads_as_it : SentText s tree
  pub leaves : LeavesBelow leaf_count_lem tree
  pub few : leaf_count_lem ≤ 1024
  pub vector_is : w ≡ vector_of tree

-- "Demands 2 and 3 read archive records as packed records with that n": the packed record of the fields of record r
abbrev pub packed_record : List ℕ → ℕ → List ℕ
packed_record s r = as_packed (leaf_count s) (packed_at (leaf_count s) s r)
