-- CR 4: the trees of a clade table are those that the reader of tree r reads, one for each number below the tree count; and the table of an archive
-- that is written. Main results: each_tree_read, entries_read, table_of_run, table_of_one, table_written.
use Rattle.std.specs.Prelude.{List, [], ◌∷◌, ◌↔◌, ◌≡◌, refl, ℕ, zero, suc, ◌≤◌, ◌<◌, length, get_or}
use Rattle.std.proofs.Common.{sym, ap, ◌∙◌, arith, length-append, ext_get_or}
use Rattle.std.proofs.Math.ListN.{get_or-append}
use Rattle.std.proofs.lemmas.List.{get_or_at}
use Rattle.rules.specs.Vector.{Vector}
use Rattle.rules.specs.Record.{leaf_count}
use Rattle.rules.specs.Archive.{trees_in, archive_of}
use Rattle.rules.specs.Answer.{made}
use Rattle.rules.specs.CladeTable.{trees_of, clade_table}
use Rattle.rules.specs.CallReadTree.{read_tree}
use Rattle.rules.specs.CallCladeTable.{record_in, vectors_in, table_of_archive}
use Rattle.basics.proofs.Cases.{by_lt}
use Rattle.accepting.proofs.Answers.{made_same}
use Rattle.archive_laws.proofs.Reader.{reader_inside, only_accepted}
use Rattle.archive_laws.specs.Writer.{Run}
use Rattle.archive_laws.proofs.Again.{written_then_read}
use Rattle.demands.specs.Conditions.{CountRight}
use Rattle.demands.specs.LawReadTree.{Whole, tree_entries}
use Rattle.demands.proofs.LawReadTree.{has_tree}
use Rattle.demands.specs.LawCladeTable.{lists_below, tree_vectors}
use Rattle.demands.proofs.LawCladeTable.{vectors_below, right_record, right_vectors, vectors_right, table_of_vectors}
use Rattle.demands.specs.Calls.{call_clade_table}
use Rattle.demands.proofs.DemandTwo.{run_of_one, Writes, writes}
use Rattle.demands.specs.TreesRead.{AllRead}

length_below : (f : ℕ → List ℕ) (k : ℕ) → length (lists_below f k) ≡ k
unfolding lists_below
length_below f zero = refl
length_below f (suc k) = omega (arith, length-append (lists_below f k) (f k ∷ []), length_below f k)

at_below : (f : ℕ → List ℕ) (k r : ℕ) → r < k → get_or (lists_below f k) r [] ≡ f r
unfolding lists_below
at_below f zero r h = absurd (omega arith)
at_below f (suc k) r h =
    by_lt r k
    (λ l. get_or-append (lists_below f k) (f k ∷ []) [] r (omega (arith, length_below f k)) ∙ at_below f k r l)
    (λ l. let e : r ≡ k = omega arith in get_or_at (lists_below f k) (f k) [] [] r (length_below f k ∙ sym e) ∙ ap f (sym e))

-- the lists of a list, by their places
pub lists_again : (vs : List (List ℕ)) (k : ℕ) → length vs ≡ k → lists_below (λ r. get_or vs r []) k ≡ vs
lists_again vs k e =
    ext_get_or [] (lists_below (λ r. get_or vs r []) k) vs (length_below (λ r. get_or vs r []) k ∙ sym e)
    (λ r h. at_below (λ i. get_or vs i []) k r (omega (arith, h, length_below (λ i. get_or vs i []) k)))

module _ (s : List ℕ) (c : CountRight (leaf_count s)) (w : Whole s) where
  as_read : (r : ℕ) → r < trees_in s → read_tree s r ≡ record_in (leaf_count s) s r
  unfolding record_in
  as_read r h = reader_inside s r (has_tree s r (c, w, h))

  -- the vectors of an archive are those that the reader reads, in their order
  pub each_tree_read : (vs : List (List ℕ)) → (vectors_in (leaf_count s) s (trees_in s) ≡ made vs) ↔ AllRead s vs
  each_tree_read vs = (there, back)
    where
      there : vectors_in (leaf_count s) s (trees_in s) ≡ made vs → AllRead s vs
      there e =
          let R = vectors_right s (trees_in s) vs e in
          let same : lists_below (tree_entries s) (trees_in s) ≡ vs = made_same (sym (right_vectors s (trees_in s) R) ∙ e) in (
            ap length (sym same) ∙ length_below (tree_entries s) (trees_in s),
            λ r h. as_read r h ∙ right_record s r (R r h)
                ∙ ap made (sym (at_below (tree_entries s) (trees_in s) r h) ∙ ap (λ (l : List (List ℕ)). get_or l r []) same),
          )

      back : AllRead s vs → vectors_in (leaf_count s) s (trees_in s) ≡ made vs
      back A =
          vectors_below (leaf_count s) s (λ r. get_or vs r []) (trees_in s) (λ r h. sym (as_read r h) ∙ A.1 r h)
          ∙ ap made (lists_again vs (trees_in s) A.0)

  -- where the reader reads every tree, the entries in the bits of the records are these vectors
  pub entries_read : ((r : ℕ) → r < trees_in s → (v : List ℕ) × (read_tree s r ≡ made v)) → AllRead s (tree_vectors s)
  entries_read R = (
    length_below (tree_entries s) (trees_in s),
    λ r h. let k = R r h in k.1 ∙ ap made (sym (only_accepted s r k.0 k.1).1 ∙ sym (at_below (tree_entries s) (trees_in s) r h)),
  )

-- the table of the archive that is written of a run is that of the run's trees
pub table_of_run : (n : ℕ) (vs : List (List ℕ)) → Run n vs → n ≤ 64 → table_of_archive (archive_of n vs) ≡ made (clade_table (trees_of vs))
table_of_run n vs R few =
    let B = (written_then_read n vs R).1 in
    let some_leaf = R.some_leaf in
    let leaves = B.leaves in
    let c : CountRight (leaf_count (archive_of n vs)) = (omega arith, omega arith) in
    let w : Whole (archive_of n vs) = rw (B.leaves, B.trees) B.whole in
    table_of_vectors (archive_of n vs) (omega arith, omega arith) w vs
    ((each_tree_read (archive_of n vs) c w vs).1 (sym B.trees, λ r h. B.each r (rw (← B.trees) h)))

pub table_of_one : (v : List ℕ) → Vector v → length v ≤ 64 → table_of_archive (archive_of (length v) (v ∷ [])) ≡ made (clade_table (trees_of (v ∷ [])))
table_of_one v ok few = table_of_run (length v) (v ∷ []) (run_of_one v ok).0 few

-- where there is room the call is done with it, and the lent list holds it
pub table_written : (n : ℕ) (vs : List (List ℕ)) → Run n vs → n ≤ 64 → Writes (call_clade_table (archive_of n vs)) (clade_table (trees_of vs))
table_written n vs R few = writes (call_clade_table (archive_of n vs)) (clade_table (trees_of vs)) (table_of_run n vs R few)
