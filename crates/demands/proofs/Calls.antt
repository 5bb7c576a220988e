-- The public calls. A new call adds a line to each of the lists here; what it makes stands in its file of rules (Call*), when it refuses
-- in its file here (Law*).
-- Main definition: the.
use Rattle.std.specs.Prelude.{ℕ, ◌-◌, ◌*◌, ◌/◌, length}
use Rattle.rules.specs.Tree.{tree_of}
use Rattle.rules.specs.Newick.{text_of, labels_of}
use Rattle.rules.specs.Record.{record_length, leaf_count}
use Rattle.rules.specs.Archive.{implied_length}
use Rattle.rules.specs.Promise.{Call}
use Rattle.rules.specs.CallCheck.{check_call}
use Rattle.rules.specs.CallToTable.{to_table_call}
use Rattle.rules.specs.CallFromTable.{from_table_call}
use Rattle.rules.specs.CallToNewick.{to_newick_call}
use Rattle.rules.specs.CallFromNewick.{from_newick_call}
use Rattle.rules.specs.CallPack.{pack_call}
use Rattle.rules.specs.CallUnpack.{unpack_call}
use Rattle.rules.specs.CallWriteArchive.{write_archive_call}
use Rattle.rules.specs.CallReadTree.{read_tree_call}
use Rattle.rules.specs.CallCladeTable.{clade_table_call}
use Rattle.rules.specs.CallShuffle.{shuffle_call}
use Rattle.rules.specs.CallRelabel.{relabel_call}
use Rattle.demands.specs.Law.{Lawful}
use Rattle.demands.specs.Shapes.{Shape, no_buffer, one_buffer, two_buffers}
use Rattle.demands.proofs.Shapes.{entry_buffer}
use Rattle.demands.specs.LawVector.{VectorRefused}
use Rattle.demands.proofs.LawCheck.{lawful_check}
use Rattle.demands.proofs.LawToTable.{lawful_to_table}
use Rattle.demands.specs.LawFromTable.{TableRefused}
use Rattle.demands.proofs.LawFromTable.{lawful_from_table}
use Rattle.demands.proofs.LawToNewick.{lawful_to_newick}
use Rattle.demands.specs.LawFromNewick.{TextRefused}
use Rattle.demands.proofs.LawFromNewick.{lawful_from_newick}
use Rattle.demands.proofs.LawPack.{lawful_pack}
use Rattle.demands.specs.LawUnpack.{RecordRefused}
use Rattle.demands.proofs.LawUnpack.{lawful_unpack}
use Rattle.demands.specs.LawWriteArchive.{ArchiveRefused}
use Rattle.demands.proofs.LawWriteArchive.{lawful_write_archive}
use Rattle.demands.specs.LawReadTree.{TreeRefused}
use Rattle.demands.proofs.LawReadTree.{lawful_read_tree}
use Rattle.demands.specs.LawCladeTable.{CladesRefused, table_length}
use Rattle.demands.proofs.LawCladeTable.{lawful_clade_table}
use Rattle.demands.proofs.LawShuffle.{lawful_shuffle}
use Rattle.demands.specs.LawRelabel.{RelabelRefused}
use Rattle.demands.proofs.LawRelabel.{lawful_relabel}
use Rattle.demands.specs.Calls.{Name, Check, ToTable, FromTable, ToNewick, FromNewick, Pack, Unpack, Shuffle, Relabel, WriteArchive, ReadTree, CladeTable}
use Rattle.demands.specs.Calls.{Public, checks, call_to_table, call_from_table, to_newick, from_newick, packs, unpacks, shuffles, relabels, writes_archive, reads_tree, call_clade_table}

-- a call, its name and its buffers; when it refuses its input, with which number and place; how many elements it writes; and that this is so
pub record Known : Type 1 where
  pub name : Name
  pub Lent : Type 0
  pub Written : Type 0
  pub call : Call Lent Written
  pub shape : Shape call.buffers
  pub Wrong : ℕ → ℕ → Type 0
  pub wanted : ℕ
  pub law : Lawful call Wrong wanted

abbrev known : {L W : Type 0} → Name → (c : Call L W) → Shape c.buffers → (Wrong : ℕ → ℕ → Type 0) (wanted : ℕ) → Lawful c Wrong wanted → Known
known {L} {W} k c B Wrong wanted T =
    record { name = k; Lent = L; Written = W; call = c; shape = B; Wrong = Wrong; wanted = wanted; law = T }

abbrev pub the : Public → Known
the (checks v) = known Check (check_call v) no_buffer (VectorRefused v) 0 (lawful_check v)
the (call_to_table v) = known ToTable (to_table_call v) one_buffer (VectorRefused v) (3 * (length v - 1)) (lawful_to_table v)
the (call_from_table n xs) = known FromTable (from_table_call n xs) one_buffer (TableRefused n xs) n (lawful_from_table n xs)
the (to_newick v) = known ToNewick (to_newick_call v) one_buffer (VectorRefused v) (length (text_of (tree_of v))) (lawful_to_newick v)
the (from_newick s) = known FromNewick (from_newick_call s) one_buffer (TextRefused s) (length (labels_of s)) (lawful_from_newick s)
the (packs v) = known Pack (pack_call v) one_buffer (VectorRefused v) (record_length (length v)) (lawful_pack v)
the (unpacks s) = known Unpack (unpack_call s) one_buffer (RecordRefused s) (leaf_count s) (lawful_unpack s)
the (shuffles v) = known Shuffle (shuffle_call v) two_buffers (VectorRefused v) (length v) (lawful_shuffle v)
the (relabels v p) = known Relabel (relabel_call v p) one_buffer (RelabelRefused v p) (length v) (lawful_relabel v p)
the (writes_archive n xs) =
    known WriteArchive (write_archive_call n xs) one_buffer (ArchiveRefused n xs) (implied_length n (length xs / n)) (lawful_write_archive n xs)
the (reads_tree s r) = known ReadTree (read_tree_call s r) one_buffer (TreeRefused s r) (leaf_count s) (lawful_read_tree s r)
the (call_clade_table s) = known CladeTable (clade_table_call s) entry_buffer (CladesRefused s) (table_length s) (lawful_clade_table s)
