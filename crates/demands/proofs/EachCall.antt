-- Each public call by itself: its buffers, and for every valid vector an input of the call to which it answers done; for the clade table, for every
-- one of up to 64 entries. Main results: no_buffer_missed, asked.
use Rattle.std.specs.Prelude.{List, [], ◌∷◌, ◌≡◌, refl, ℕ, ◌≤◌, length, get_or}
use Rattle.std.proofs.Common.{ap₂}
use Rattle.rules.specs.declared.Answer.{Answer}
use Rattle.rules.specs.Answer.{made}
use Rattle.rules.specs.Tree.{tree_of}
use Rattle.rules.specs.Order.{vector_of}
use Rattle.rules.specs.Table.{table_of}
use Rattle.rules.specs.Newick.{text_of}
use Rattle.rules.specs.Record.{record_of}
use Rattle.rules.specs.Archive.{archive_of}
use Rattle.rules.specs.Shuffle.{renamed, new_of}
use Rattle.rules.specs.CladeTable.{trees_of, clade_table}
use Rattle.demands.specs.Calls.{Name, Check, ToTable, FromTable, ToNewick, FromNewick, Pack, Unpack, Shuffle, Relabel, WriteArchive, ReadTree, CladeTable}
use Rattle.demands.specs.Calls.{Public, checks, call_to_table, call_from_table, to_newick, from_newick, packs, unpacks, shuffles, relabels, writes_archive, reads_tree, call_clade_table}
use Rattle.demands.proofs.Calls.{the}
use Rattle.demands.proofs.Keeping.{Lent, Kept}
use Rattle.demands.proofs.Shapes.{same_entries}
use Rattle.demands.proofs.TreesRead.{table_of_one}
use Rattle.demands.specs.Relabelled.{unmoved}
use Rattle.demands.proofs.Relabelled.{unmoved_permutes, relabel_makes, shuffle_makes}
use Rattle.demands.specs.DemandTwo.{Vector}
use Rattle.demands.proofs.DemandTwo.{accepted_exactly, makes_table, makes_text, makes_record, makes_archive_of_one, table_back, text_back, record_back, run_of_one, archive_back}
use Rattle.demands.specs.EachCall.{Buffer, to_table_out, from_table_out, to_newick_out, from_newick_out, pack_out, unpack_out, shuffle_new, shuffle_out, relabel_out, write_archive_out, read_tree_out, clade_table_out}

-- what buffer j holds
abbrev pub buffer_of : ℕ → (c : Public) → Lent c → List ℕ
buffer_of j c old = get_or ((the c).shape.each old) j []

-- no buffer of a call is missed: where each of these holds the same, all that is lent does
pub no_buffer_missed : (c : Public) (a b : Lent c) → ((j : ℕ) → Buffer (the c).name j → buffer_of j c a ≡ buffer_of j c b) → a ≡ b
no_buffer_missed (checks v) a b same = refl
no_buffer_missed (call_to_table v) a b same = same 0 to_table_out
no_buffer_missed (call_from_table n xs) a b same = same 0 from_table_out
no_buffer_missed (to_newick v) a b same = same 0 to_newick_out
no_buffer_missed (from_newick s) a b same = same 0 from_newick_out
no_buffer_missed (packs v) a b same = same 0 pack_out
no_buffer_missed (unpacks s) a b same = same 0 unpack_out
no_buffer_missed (shuffles v) a b same = ap₂ (λ (x y : List ℕ). (x, y)) (same 0 shuffle_new) (same 1 shuffle_out)
no_buffer_missed (relabels v p) a b same = same 0 relabel_out
no_buffer_missed (writes_archive n xs) a b same = same 0 write_archive_out
no_buffer_missed (reads_tree s r) a b same = same 0 read_tree_out
no_buffer_missed (call_clade_table s) a b same = same_entries a b (same 0 clade_table_out)

-- how many elements an answer counts, of what a call makes
abbrev pub counts : (c : Public) → (the c).Written → ℕ
counts c = (the c).call.buffers.count

-- a library: what it answers to each call, and what it leaves in the lent buffers
abbrev pub Library : Type 0
Library = (c : Public) → Lent c → Answer × Lent c

-- it keeps its promises
abbrev pub KeepsAll : Library → Type 0
KeepsAll library = (c : Public) (old : Lent c) → Kept c old (library c old).0 (library c old).1

-- an input of a call, and what the call makes of it
pub record Asked (k : Name) : Type 0 where
  pub input : Public
  pub called : (the input).name ≡ k
  pub gives : (the input).Written
  pub makes : (the input).call.Makes (made gives)

abbrev ask : (c : Public) (x : (the c).Written) → (the c).call.Makes (made x) → Asked (the c).name
ask c x M = record { input = c; called = refl; gives = x; makes = M }

-- the notation of a vector's tree that the call takes; for relabelling every leaf keeps its name, and an archive has one tree, for the clade table of
-- up to 64 leaves
abbrev pub asked : (k : Name) (v : List ℕ) → Vector v → (k ≡ CladeTable → length v ≤ 64) → Asked k
asked Check v ok few = ask (checks v) tt ((accepted_exactly v).1 ok)
asked ToTable v ok few = ask (call_to_table v) (table_of v) (makes_table v ok)
asked FromTable v ok few = ask (call_from_table (length v) (table_of v)) v (table_back v ok)
asked ToNewick v ok few = ask (to_newick v) (text_of (tree_of v)) (makes_text v ok)
asked FromNewick v ok few = ask (from_newick (text_of (tree_of v))) v (text_back v ok)
asked Pack v ok few = ask (packs v) (record_of v) (makes_record v ok)
asked Unpack v ok few = ask (unpacks (record_of v)) v (record_back v ok)
asked Shuffle v ok few =
    ask (shuffles v) (new_of (tree_of v), vector_of (renamed (new_of (tree_of v)) (tree_of v))) (shuffle_makes v ok)
asked Relabel v ok few =
    ask (relabels v (unmoved (length v))) (vector_of (renamed (unmoved (length v)) (tree_of v)))
    (relabel_makes v (unmoved (length v)) ok (unmoved_permutes (length v)))
asked WriteArchive v ok few = ask (writes_archive (length v) v) (archive_of (length v) (v ∷ [])) (makes_archive_of_one v ok)
asked ReadTree v ok few = ask (reads_tree (archive_of (length v) (v ∷ [])) 0) v (archive_back v (v ∷ []) 0 (run_of_one v ok))
asked CladeTable v ok few =
    ask (call_clade_table (archive_of (length v) (v ∷ []))) (clade_table (trees_of (v ∷ []))) (table_of_one v ok (few refl))
