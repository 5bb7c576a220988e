-- Each public call by itself: its buffers, and for every valid vector an input of the call to which it answers done; for the clade table, for every
-- one of up to 64 entries. Main definitions: Buffer, Try.
use Rattle.std.specs.Prelude.{List, ℕ, ◌≤◌, length}
use Rattle.demands.specs.Calls.{Name, ToTable, FromTable, ToNewick, FromNewick, Pack, Unpack, Shuffle, Relabel, WriteArchive, ReadTree, CladeTable}
use Rattle.demands.specs.DemandTwo.{Vector}

-- the buffers by their numbers: check has none, and shuffle two, for new and for the vector
pub data Buffer : Name → ℕ → Type 0 where
  to_table_out : Buffer ToTable 0
  from_table_out : Buffer FromTable 0
  to_newick_out : Buffer ToNewick 0
  from_newick_out : Buffer FromNewick 0
  pack_out : Buffer Pack 0
  unpack_out : Buffer Unpack 0
  shuffle_new : Buffer Shuffle 0
  shuffle_out : Buffer Shuffle 1
  relabel_out : Buffer Relabel 0
  write_archive_out : Buffer WriteArchive 0
  read_tree_out : Buffer ReadTree 0
  clade_table_out : Buffer CladeTable 0

-- a vector to try, with any call
abbrev pub Try : Type 0
Try = (v : List ℕ) × Vector v × (length v ≤ 64)
