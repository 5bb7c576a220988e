-- CR 4: "build a table in a lent list of entries: one entry for each different clade of two leaves or more, its leaf set as a 64-bit number (leaf x
-- is bit x), its size, and in how many trees it occurs. Entries rise by leaf set. The counts, each defined from the trees and not from the table, add
-- up to trees times (n-1)." The trees are those that the reader of tree r reads. Main results: made_table, made_sums, table_made_exactly,
-- order_does_not_count.
use Rattle.std.specs.Prelude.{true, List, [], ◌∷◌, ◌↔◌, ◌≡◌, refl, ℕ, suc, ◌+◌, ◌-◌, ◌*◌, ◌^◌, ◌≤◌, ◌<◌, ltb, length, get_or}
use Rattle.std.proofs.Common.{sym, ap, ◌∙◌, arith, pow_mono, ltb-false}
use Rattle.std.specs.Int.Count.{ones}
use Rattle.rules.specs.declared.Clade.{Clade as Entry}
use Rattle.rules.specs.Vector.{Valid}
use Rattle.rules.specs.Building.{member}
use Rattle.rules.specs.Tree.{tree_of, Distinct, LeavesBelow}
use Rattle.rules.specs.Record.{leaf_count}
use Rattle.rules.specs.Archive.{trees_in, implied_length}
use Rattle.rules.specs.Answer.{Making, made, refuses}
use Rattle.rules.specs.CladeTable.{occurs, trees_of, clade_table}
use Rattle.rules.specs.CallCladeTable.{following, vectors_in, table_in, table_of_archive}
use Rattle.accepting.proofs.Answers.{made_same, made_not_refuses}
use Rattle.accepting.proofs.Guards.{passed_if, passed_count, passed_length}
use Rattle.laws.proofs.TreeOf.{tree_leaves}
use Rattle.archive_laws.proofs.Reader.{read_vector}
use Rattle.clade_laws.specs.Numbers.{bit, Stands}
use Rattle.clade_laws.specs.Rising.{From, Rises}
use Rattle.clade_laws.specs.Entries.{Each, leaves_of, InSome, IsTable}
use Rattle.clade_laws.proofs.Entries.{each_member, table_is, table_rises, table_unique}
use Rattle.clade_laws.specs.Totals.{Reordered}
use Rattle.clade_laws.proofs.Totals.{counts_add_up, reordered_table}
use Rattle.clade_passes.proofs.Merged.{trees_below}
use Rattle.clade_passes.proofs.Archive.{each_mapped, vectors_made}
use Rattle.clade_passes.proofs.Bounds.{trees_sets_bounds, trees_counts}
use Rattle.demands.specs.Conditions.{CountRight}
use Rattle.demands.specs.LawCladeTable.{FewLeaves, tree_vectors}
use Rattle.demands.proofs.LawCladeTable.{table_of_vectors}
use Rattle.demands.specs.TreesRead.{AllRead}
use Rattle.demands.proofs.TreesRead.{each_tree_read, entries_read}
use Rattle.clade_demands.specs.Occurs.{HasClade, HowMany, leaves_in}
use Rattle.clade_demands.proofs.Occurs.{how_many_once, leaves_same, occurs_in_trees, occurs_somewhere, set_size}
use Rattle.clade_demands.specs.CladeTable.{ArchiveRight, CladeTableOf, Sums, Read}

length_trees : (vs : List (List ℕ)) → length (trees_of vs) ≡ length vs
unfolding trees_of
length_trees [] = refl
length_trees (v ∷ vs) = ap suc (length_trees vs)

through : {A B : Type 0} (m : Making A) (f : A → B) (y : B) → following m (λ x. made (f x)) ≡ made y → (x : A) × (m ≡ made x) × (y ≡ f x)
unfolding following
through (made x) f y e = (x, refl, sym (made_same e))
through (refuses k p) f y e = absurd (made_not_refuses (sym e))

-- strictly rising by places
pub rises_from : (b : ℕ) (l : List ℕ) → ((i : ℕ) → i < length l → b ≤ get_or l i 0) → Rises l → From b l
unfolding From Rises
rises_from b [] h R = tt
rises_from b (m ∷ l) h R = (
  h 0 (omega arith),
  rises_from (m + 1) l (λ i k. omega (arith, R 0 (suc i) (omega arith) (omega arith))) (λ i j g k. R (suc i) (suc j) (omega arith) (omega arith)),
)

few_right : (s : List ℕ) → FewLeaves s → CountRight (leaf_count s)
few_right s c = let few = c.1 in (c.0, omega arith)

read_made : (s : List ℕ) (vs : List (List ℕ)) → Read s vs → table_of_archive s ≡ made (clade_table (trees_of vs))
read_made s vs R = table_of_vectors s R.0 R.1 vs ((each_tree_read s (few_right s R.0) R.1 vs).1 R.2)

made_read : (s : List ℕ) (es : List Entry) → table_of_archive s ≡ made es → (vs : List (List ℕ)) × Read s vs × (es ≡ clade_table (trees_of vs))
unfolding table_of_archive table_in
made_read s es e =
    let long = passed_if (ltb (length s) 4) 2 4 _ e in
    let count = passed_count (leaf_count s) _ long.1 in
    let few = passed_if (ltb 64 (leaf_count s)) 14 (leaf_count s) _ count.2 in
    let whole = passed_length (implied_length (leaf_count s) (trees_in s)) (length s) _ few.1 in
    let all = through (vectors_in (leaf_count s) s (trees_in s)) (λ vs. clade_table (trees_of vs)) es whole.1 in
    let c : FewLeaves s = (count.0, ltb-false 64 (leaf_count s) few.0) in
    (all.0, (c, whole.0, (each_tree_read s (few_right s c) whole.0 all.0).0 all.1), all.2)

module _ (s : List ℕ) (vs : List (List ℕ)) (R : Read s vs) where
  valid : Each (λ v. Valid v × (length v ≡ leaf_count s)) vs
  valid = (vectors_made (leaf_count s) s (trees_in s) vs R.0.0 ((each_tree_read s (few_right s R.0) R.1 vs).1 R.2)).1

  below : Each (LeavesBelow (leaf_count s)) (trees_of vs)
  below = trees_below (leaf_count s) vs valid

  distinct : (r : ℕ) → r < trees_in s → Distinct (tree_of (get_or vs r []))
  distinct r h = let v = get_or vs r [] in (tree_leaves v (read_vector s r v (R.2.1 r h)).0.valid).once

  counted : (m : ℕ) → HowMany (HasClade s m) (trees_in s) (occurs m (trees_of vs))
  counted = occurs_in_trees s vs R.2 distinct

  somewhere : (m : ℕ) → InSome m (trees_of vs) ↔ ((r : ℕ) × (r < trees_in s) × HasClade s m r)
  somewhere = occurs_somewhere s vs R.2 distinct

  size_of : (m : ℕ) → InSome m (trees_of vs) → ones m ≡ leaves_in (leaf_count s) (bit m)
  size_of = set_size (leaf_count s) (trees_of vs) below

  read_table : CladeTableOf s (clade_table (trees_of vs))
  unfolding Stands
  read_table =
      let T = table_is (trees_of vs) in
      record {
        each_clade = λ m. (λ e. (somewhere m).0 ((T.holds m).0 e), λ w. (T.holds m).1 ((somewhere m).1 w));
        rises = table_rises (trees_of vs);
        sizes = each_member (λ m. InSome m (trees_of vs)) (λ e. e.size ≡ ones e.leaves) _ (clade_table (trees_of vs)) (λ m p. (T.holds m).0 p)
            (λ e p z c st. z ∙ size_of e.leaves p ∙ leaves_same (leaf_count s) (bit e.leaves) c st) T.sizes;
        counts = each_mapped (λ e. e.count ≡ occurs e.leaves (trees_of vs)) _ (clade_table (trees_of vs)) (λ e z. rw z (counted e.leaves)) T.counts;
      }

  read_sums : Sums s (clade_table (trees_of vs))
  read_sums =
      let many : length vs ≡ trees_in s = R.2.0 in
      let wide : 2 ^ leaf_count s ≤ 2 ^ 64 = pow_mono R.0.1 in
      record {
        add_up = counts_add_up (leaf_count s) (trees_of vs) (clade_table (trees_of vs)) below (table_is (trees_of vs))
            ∙ ap (λ (k : ℕ). k * (leaf_count s - 1)) (length_trees vs ∙ many);
        between = rw (← many) (trees_counts (leaf_count s) vs valid);
        fits = each_mapped _ (λ e. e.leaves < 2 ^ 64) (clade_table (trees_of vs)) (λ e b. omega (arith, b.1, wide)) (trees_sets_bounds (leaf_count s) vs valid);
      }

  -- what has the four properties is the table
  is_table : (es : List Entry) → CladeTableOf s es → es ≡ clade_table (trees_of vs)
  unfolding Stands
  is_table es C = table_unique (trees_of vs) es (clade_table (trees_of vs)) right (table_is (trees_of vs))
    where
      holds : (m : ℕ) → (member m (leaves_of es) ≡ true) ↔ InSome m (trees_of vs)
      holds m = (λ e. (somewhere m).1 ((C.each_clade m).0 e), λ p. (C.each_clade m).1 ((somewhere m).0 p))

      right : IsTable (trees_of vs) es
      right = record {
        rises = rises_from 0 (leaves_of es) (λ i h. omega arith) C.rises;
        holds = holds;
        sizes = each_member (λ m. InSome m (trees_of vs)) _ (λ e. e.size ≡ ones e.leaves) es (λ m p. (holds m).0 p)
            (λ e p z. z (bit e.leaves) (λ x. refl) ∙ sym (size_of e.leaves p)) C.sizes;
        counts = each_mapped _ (λ e. e.count ≡ occurs e.leaves (trees_of vs)) es
            (λ e h. how_many_once (HasClade s e.leaves) (trees_in s) e.count (occurs e.leaves (trees_of vs)) h (counted e.leaves)) C.counts;
      }

-- of an archive in which nothing is wrong a table is made
right_read : (s : List ℕ) → ArchiveRight s → Read s (tree_vectors s)
right_read s R = (R.0, R.1, entries_read s (few_right s R.0) R.1 R.2)

pub archive_table : (s : List ℕ) → ArchiveRight s → (es : List Entry) × (table_of_archive s ≡ made es)
archive_table s R = (clade_table (trees_of (tree_vectors s)), read_made s (tree_vectors s) (right_read s R))

module _ (s : List ℕ) (es : List Entry) where
  -- what is made of an archive is its clade table,
  pub made_table : table_of_archive s ≡ made es → CladeTableOf s es
  made_table e = let r = made_read s es e in rw r.2 (read_table s r.0 r.1)

  -- with these sums,
  pub made_sums : table_of_archive s ≡ made es → Sums s es
  made_sums e = let r = made_read s es e in rw r.2 (read_sums s r.0 r.1)

  -- and nothing else is: it is made exactly of an archive in which nothing is wrong, and the four properties fix it
  pub table_made_exactly : (table_of_archive s ≡ made es) ↔ (ArchiveRight s × CladeTableOf s es)
  table_made_exactly = (there, λ h. back h.0 h.1)
    where
      there : table_of_archive s ≡ made es → ArchiveRight s × CladeTableOf s es
      there e =
          let r = made_read s es e in
          let A = r.1.2 in
          ((r.1.0, r.1.1, λ i h. (get_or r.0 i [], A.1 i h)), made_table e)

      back : ArchiveRight s → CladeTableOf s es → table_of_archive s ≡ made es
      back R C =
          let read = right_read s R in
          read_made s (tree_vectors s) read ∙ ap made (sym (is_table s (tree_vectors s) read es C))

-- "from all trees", in whatever order they stand: archives with the same trees have the same table
pub order_does_not_count : (s t : List ℕ) (vs ws : List (List ℕ)) (es fs : List Entry) → AllRead s vs → AllRead t ws → Reordered (trees_of vs) (trees_of ws)
    → table_of_archive s ≡ made es → table_of_archive t ≡ made fs → es ≡ fs
order_does_not_count s t vs ws es fs A B again e f =
    let p = made_read s es e in
    let q = made_read t fs f in
    let x : es ≡ clade_table (trees_of vs) = made_same (sym e ∙ read_made s vs (p.1.0, p.1.1, A)) in
    let y : fs ≡ clade_table (trees_of ws) = made_same (sym f ∙ read_made t ws (q.1.0, q.1.1, B)) in
    x ∙ reordered_table again ∙ sym y
