-- Demand 2: "The tree of a vector is the one the paper's building rule gives; vector, table, packed record and text of a tree are the ones the rules
-- fix; turned back, each gives the vector it came from." CR 1: "Demands 2 and 3 read archive records as packed records with that n." So of an archive
-- the demand says that its records are those of its vectors. Main results: accepted_exactly, table_back, text_back, record_back, archive_back,
-- demand_two.
use Rattle.std.specs.Prelude.{List, [], ◌∷◌, ◌++◌, ◌⊎◌, ◌↔◌, ◌≡◌, refl, ℕ, ◌≤◌, length}
use Rattle.std.proofs.Common.{append-nil, inl, inr, sym, ap, ◌∙◌, subst, arith}
use Rattle.rules.specs.declared.Answer.{Answer}
use Rattle.rules.specs.Tree.{Tree, tree_of, LeavesBelow}
use Rattle.rules.specs.Order.{vector_of}
use Rattle.rules.specs.Table.{table_of, rows_of}
use Rattle.rules.specs.Newick.{text_of, labels_of}
use Rattle.rules.specs.Sent.{SentText}
use Rattle.rules.specs.Record.{field, bits_of, record_of}
use Rattle.rules.specs.Archive.{bare_record, archive_of, packed_at}
use Rattle.rules.specs.Shuffle.{renamed, new_of}
use Rattle.rules.specs.Answer.{done, reads, made}
use Rattle.rules.specs.CallCheck.{check}
use Rattle.rules.specs.CallToTable.{to_table}
use Rattle.rules.specs.CallFromTable.{from_table}
use Rattle.rules.specs.CallToNewick.{to_text}
use Rattle.rules.specs.CallFromNewick.{NotLong, FromText, reads_as}
use Rattle.rules.specs.CallPack.{pack}
use Rattle.rules.specs.CallUnpack.{unpack}
use Rattle.rules.specs.CallWriteArchive.{write_archive}
use Rattle.rules.specs.CallReadTree.{read_tree}
use Rattle.rules.specs.CallView.{view}
use Rattle.record_laws.proofs.Inverse.{unpack_record}
use Rattle.archive_laws.proofs.Written as written
use Rattle.archive_laws.specs.Written.{Trees, joined}
use Rattle.archive_laws.specs.Writer.{Run}
use Rattle.archive_laws.proofs.Again.{written_then_read}
use Rattle.archive_laws.specs.AsPacked.{as_packed}
use Rattle.archive_laws.proofs.AsPacked.{packed_of_bare}
use Rattle.clades.proofs.Size.{size_some, size_below}
use Rattle.blanks.proofs.PlainSent.{plain_sent}
use Rattle.blanks.proofs.Labels.{sent_labels}
use Rattle.grammar.proofs.Faults.{leaves_no_fault, leaves_count}
use Rattle.grammar.proofs.Length.{text_length_lem, text_length_most}
use Rattle.laws.proofs.TreeOf.{tree_leaves, vector_again}
use Rattle.accepting.proofs.FromTable.{rows_accepted}
use Rattle.accepting.proofs.FromVector.{vector_accepted}
use Rattle.rules.specs.Vector.{Vector}
use Rattle.demands.specs.Conditions.{CountRight, WithinBounds}
use Rattle.demands.proofs.Law.{made_accepted, done_written}
use Rattle.demands.specs.LawVector.{VectorRefused}
use Rattle.demands.proofs.LawVector.{vector_cases, vector_valid}
use Rattle.demands.proofs.LawCheck.{lawful_check}
use Rattle.demands.proofs.LawFromNewick.{labels_fit}
use Rattle.demands.proofs.Long.{table_long}
use Rattle.demands.specs.Calls.{Public, call_to_table, call_from_table, to_newick, from_newick, packs, unpacks, shuffles, relabels, writes_archive, reads_tree}
use Rattle.demands.proofs.Calls.{the}
use Rattle.demands.proofs.Keeping.{Lent, Kept}
use Rattle.demands.proofs.DemandOne.{room}
use Rattle.demands.specs.Relabelled.{Permutation, Relabelled, Shuffled}
use Rattle.demands.proofs.Relabelled.{relabelled, relabel_makes, shuffled, shuffle_makes}
use Rattle.demands.specs.WrittenTable.{WrittenTable}
use Rattle.demands.proofs.WrittenTable.{written_table}
use Rattle.demands.specs.WrittenText.{WrittenText}
use Rattle.demands.proofs.WrittenText.{written_text}
use Rattle.demands.specs.DemandTwo.{InRun}

-- Vector: the vectors that the demand is about

-- they are those that check accepts
pub accepted_exactly : (v : List ℕ) → (check v ≡ made tt) ↔ Vector v
unfolding check
accepted_exactly v = (λ e. go e (vector_cases v), vector_accepted {W = Unit {0}} v (made tt))
  where
    go : check v ≡ made tt → ((k : ℕ) × (p : ℕ) × VectorRefused v k p) ⊎ (CountRight (length v) × WithinBounds v) → Vector v
    go e (inl r) = absurd (made_accepted _ _ _ (lawful_check v) (check v) refl tt e r.0 r.1 r.2)
    go e (inr h) = record { valid = vector_valid v h.0 h.1; few = h.0.1 }

-- what each notation of a vector is
pub makes_table : (v : List ℕ) → Vector v → to_table v ≡ made (table_of v)
unfolding to_table
makes_table v = vector_accepted v (made (table_of v))

pub makes_text : (v : List ℕ) → Vector v → to_text v ≡ made (text_of (tree_of v))
unfolding to_text
makes_text v = vector_accepted v (made (text_of (tree_of v)))

pub makes_record : (v : List ℕ) → Vector v → pack v ≡ made (record_of v)
unfolding pack
makes_record v = vector_accepted v (made (record_of v))

-- a written table is accepted, and its tree is that of the vector
pub table_back : (v : List ℕ) → Vector v → from_table (length v) (table_of v) ≡ made v
table_back v W =
    let T = written_table v W.valid in
    rows_accepted (length v) (table_of v) W.valid.some_leaf W.few (table_long v W.valid) T.accepted
    ∙ ap made (ap vector_of T.of_the_tree ∙ vector_again v W.valid)

-- a text as sent that reads as a tree with leaves 0 to n-1 is accepted
pub leaves_accepted : {s : List ℕ} {t : Tree} (n : ℕ) → NotLong s → SentText s t → LeavesBelow n t → n ≤ 1024 → FromText s (made (vector_of t))
leaves_accepted {s} {t} n short T L few =
    let labels = sent_labels T in
    let count : CountRight (length (labels_of s)) = rw (leaves_count n labels L) (omega (arith, size_some t, size_below n t L), few) in
    subst (FromText s) (labels_fit s t count (leaves_no_fault n labels L)) (reads_as t short T)

-- a written text reads as the tree: each pair stands as it is written
pub text_back : (v : List ℕ) → Vector v → FromText (text_of (tree_of v)) (made v)
text_back v W =
    let L = tree_leaves v W.valid in
    let few = W.few in
    let T = written_text v W.valid W.few in
    let short : length (text_of (tree_of v)) ≤ 6056 = omega (arith, text_length_lem (length v) (tree_of v) L, text_length_most (length v) few) in
    subst (FromText (text_of (tree_of v))) (ap made (vector_again v W.valid))
    (leaves_accepted (length v) (omega arith, omega (arith, ap length T.no_blank)) (plain_sent T.reads_as_the_tree) L few)

pub record_back : (v : List ℕ) → Vector v → unpack (record_of v) ≡ made v
record_back v W = unpack_record v W

-- a vector alone
pub run_of_one : (v : List ℕ) → Vector v → InRun v (v ∷ []) 0
unfolding Trees
run_of_one v W = (record { some_leaf = W.valid.some_leaf; few_leaves = W.few; trees = (W.valid, refl, tt); few = omega arith }, omega arith, refl)

-- their archive is written of their entries in one list
pub makes_archive : (n : ℕ) (vs : List (List ℕ)) → Run n vs → write_archive n (joined vs) ≡ made (archive_of n vs)
makes_archive n vs R = (written_then_read n vs R).0

pub makes_archive_of_one : (v : List ℕ) → Vector v → write_archive (length v) v ≡ made (archive_of (length v) (v ∷ []))
unfolding joined
makes_archive_of_one v W = ap (write_archive (length v)) (sym (append-nil v)) ∙ makes_archive (length v) (v ∷ []) (run_of_one v W).0

-- its trees are the vectors, its parts the vectors' records, and with that n before it a part is the packed record
pub archive_back : (v : List ℕ) (vs : List (List ℕ)) (r : ℕ) → InRun v vs r → read_tree (archive_of (length v) vs) r ≡ made v
archive_back v vs r I = (written_then_read (length v) vs I.0).1.each r I.1 ∙ ap made I.2

part_of_archive : (v : List ℕ) (vs : List (List ℕ)) (r : ℕ) → InRun v vs r → view (archive_of (length v) vs) r ≡ bare_record v
part_of_archive v vs r I = (written_then_read (length v) vs I.0).1.part r I.1 ∙ ap bare_record I.2

part_as_packed : (v : List ℕ) (vs : List (List ℕ)) (r : ℕ) → InRun v vs r → as_packed (length v) (packed_at (length v) (archive_of (length v) vs) r) ≡ record_of v
unfolding packed_at
part_as_packed v vs r I =
    ap (λ (b : List ℕ). as_packed (length v) (field 11 (length v) ++ bits_of b))
    (written.record_written (length v) vs I.0.trees r I.1 ∙ ap bare_record I.2)
    ∙ packed_of_bare v

-- where there is room a call is done and says how many elements it wrote; its buffers hold them, and behind them what they held
abbrev pub Writes : (c : Public) → (the c).Written → Type 0
Writes c x = (old new : Lent c) (a : Answer) → Kept c old a new → (the c).call.buffers.count x ≤ room c old
    → (reads a ≡ done ((the c).call.buffers.count x)) × (new ≡ (the c).call.buffers.write x old)

pub writes : (c : Public) (x : (the c).Written) → (the c).call.Makes (made x) → Writes c x
writes c x h old new a K l = done_written (the c).call (the c).Wrong (the c).wanted (the c).law x h old a new K l

-- the notations of a vector's tree, what table and text are, each notation turned back, and the tree with its leaves renamed
pub record Notations (v : List ℕ) : Type 0 where
  pub table_written : Writes (call_to_table v) (table_of v)
  pub table_of_the_tree : WrittenTable v (rows_of (table_of v))
  pub text_written : Writes (to_newick v) (text_of (tree_of v))
  pub text_of_the_tree : WrittenText v (text_of (tree_of v))
  pub record_written : Writes (packs v) (record_of v)
  pub table_turned_back : Writes (call_from_table (length v) (table_of v)) v
  pub text_turned_back : Writes (from_newick (text_of (tree_of v))) v
  pub record_turned_back : Writes (unpacks (record_of v)) v
  pub archive_written : (vs : List (List ℕ)) → Run (length v) vs → Writes (writes_archive (length v) (joined vs)) (archive_of (length v) vs)
  pub archive_part : (vs : List (List ℕ)) (r : ℕ) → InRun v vs r → view (archive_of (length v) vs) r ≡ bare_record v
  pub archive_as_packed : (vs : List (List ℕ)) (r : ℕ) → InRun v vs r → as_packed (length v) (packed_at (length v) (archive_of (length v) vs) r) ≡ record_of v
  pub archive_turned_back : (vs : List (List ℕ)) (r : ℕ) → InRun v vs r → Writes (reads_tree (archive_of (length v) vs) r) v
  pub tree_turned_back : vector_of (tree_of v) ≡ v
  pub relabelled_written : (p : List ℕ) → Permutation (length v) p → Writes (relabels v p) (vector_of (renamed p (tree_of v)))
  pub relabelled_tree : (p : List ℕ) → Permutation (length v) p → Relabelled v p (vector_of (renamed p (tree_of v)))
  pub shuffled_written : Writes (shuffles v) (new_of (tree_of v), vector_of (renamed (new_of (tree_of v)) (tree_of v)))
  pub shuffled_tree : Shuffled v (new_of (tree_of v)) (vector_of (renamed (new_of (tree_of v)) (tree_of v)))

-- for every valid vector of 1 to 1,024 entries
pub demand_two : (v : List ℕ) → Vector v → Notations v
demand_two v W = record {
  table_written = writes (call_to_table v) (table_of v) (makes_table v W);
  table_of_the_tree = written_table v W.valid;
  text_written = writes (to_newick v) (text_of (tree_of v)) (makes_text v W);
  text_of_the_tree = written_text v W.valid W.few;
  record_written = writes (packs v) (record_of v) (makes_record v W);
  table_turned_back = writes (call_from_table (length v) (table_of v)) v (table_back v W);
  text_turned_back = writes (from_newick (text_of (tree_of v))) v (text_back v W);
  record_turned_back = writes (unpacks (record_of v)) v (record_back v W);
  archive_written = λ vs R. writes (writes_archive (length v) (joined vs)) (archive_of (length v) vs) (makes_archive (length v) vs R);
  archive_part = part_of_archive v;
  archive_as_packed = part_as_packed v;
  archive_turned_back = λ vs r I. writes (reads_tree (archive_of (length v) vs) r) v (archive_back v vs r I);
  tree_turned_back = vector_again v W.valid;
  relabelled_written = λ p P. writes (relabels v p) _ (relabel_makes v p W P);
  relabelled_tree = λ p P. relabelled v p W.valid P;
  shuffled_written = writes (shuffles v) _ (shuffle_makes v W);
  shuffled_tree = shuffled v W.valid;
}
