-- The public calls. A new call adds a line to each of the lists here; what it makes stands in its file of rules (Call*), when it refuses
-- in its file here (Law*).
-- Main definitions: Name, Public. proofs/Calls.antt has what each call is (the), with its laws.
use Rattle.std.specs.Prelude.{List, ℕ}

-- the public calls
pub data Name : Type 0 where
  Check : Name
  ToTable : Name
  FromTable : Name
  ToNewick : Name
  FromNewick : Name
  Pack : Name
  Unpack : Name
  Shuffle : Name
  Relabel : Name
  WriteArchive : Name
  ReadTree : Name
  CladeTable : Name

-- a public call on an input
pub data Public : Type 0 where
  checks : List ℕ → Public
  call_to_table : List ℕ → Public
  call_from_table : ℕ → List ℕ → Public
  to_newick : List ℕ → Public
  from_newick : List ℕ → Public
  packs : List ℕ → Public
  unpacks : List ℕ → Public
  shuffles : List ℕ → Public
  relabels : List ℕ → List ℕ → Public
  writes_archive : ℕ → List ℕ → Public
  reads_tree : List ℕ → ℕ → Public
  call_clade_table : List ℕ → Public
