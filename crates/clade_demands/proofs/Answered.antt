-- CR 4 over the public promise: what the answer about a clade table says, and what the lent list then holds. Main results: right_exactly,
-- different_clades, done_table, refused_15_exactly, done_exactly, no_trees_done, one_leaf_done.
use Rattle.std.specs.Prelude.{◌⊎◌, ◌↔◌, ◌≡◌, refl, ℕ, suc, ◌≤◌, ◌<◌, length, take, drop, replicate}
use mathlib.Core.List.{List, [], ◌∷◌}
use Rattle.std.proofs.Common.{inl, inr, sym, ◌∙◌, arith, take_at, drop_at}
use Rattle.std.proofs.Math.Path.{ap}
use Rattle.rules.specs.declared.Clade.{Clade as Entry}
use Rattle.rules.specs.declared.Answer.{Answer}
use Rattle.rules.specs.Building.{member}
use Rattle.rules.specs.Record.{leaf_count}
use Rattle.rules.specs.Archive.{trees_in}
use Rattle.rules.specs.Answer.{done, refused, reads, made}
use Rattle.rules.specs.CallCladeTable.{vectors_in, table_of_archive}
use Rattle.basics.proofs.Bools.{both}
use Rattle.clade_laws.proofs.Rising.{from_unique}
use Rattle.clade_laws.specs.Entries.{leaves_of}
use Rattle.clade_passes.proofs.NoBytes.{vectors_of_one, one_leaf_table, no_trees_table}
use Rattle.demands.proofs.Law.{made_accepted, done_made, done_written}
use Rattle.demands.specs.LawReadTree.{Whole}
use Rattle.demands.specs.LawCladeTable.{CladesRefused, FewLeaves, table_length}
use Rattle.demands.proofs.LawCladeTable.{table_of_vectors}
use Rattle.demands.specs.Calls.{call_clade_table}
use Rattle.demands.proofs.Calls.{the}
use Rattle.demands.proofs.Keeping.{Kept}
use Rattle.demands.proofs.DemandOne.{Right, room_exactly}
use Rattle.demands.proofs.DemandOne as one
use Rattle.clade_demands.specs.CladeTable.{ArchiveRight, CladeTableOf, Sums}
use Rattle.clade_demands.proofs.CladeTable.{rises_from, made_table, made_sums, table_made_exactly, archive_table}
use Rattle.clade_demands.specs.Answered.{DifferentClades}

same_clades : (s l k : List ℕ) → DifferentClades s l → DifferentClades s k → l ≡ k
same_clades s l k a b =
    from_unique l k 0 0 (rises_from 0 l (λ i h. omega arith) a.0) (rises_from 0 k (λ i h. omega arith) b.0)
    (λ m. both (member m l) (member m k) (λ e. (b.1 m).1 ((a.1 m).0 e)) (λ e. (a.1 m).1 ((b.1 m).0 e)))

length_leaves : (es : List Entry) → length (leaves_of es) ≡ length es
unfolding leaves_of
length_leaves [] = refl
length_leaves (e ∷ es) = ap suc (length_leaves es)

module _ (s : List ℕ) where
  -- where nothing is wrong with the input a table is made, of as many entries as are wanted
  right_made : Right (call_clade_table s) → (es : List Entry) × (table_of_archive s ≡ made es) × (length es ≡ table_length s)
  right_made R = go ((the (call_clade_table s)).law.settled (table_of_archive s) refl).total
    where
      go : ((k : ℕ) × (p : ℕ) × CladesRefused s k p) ⊎ ((es : List Entry) × (table_of_archive s ≡ made es) × (length es ≡ table_length s))
          → (es : List Entry) × (table_of_archive s ≡ made es) × (length es ≡ table_length s)
      go (inl r) = absurd (R r.0 r.1 r.2)
      go (inr m) = m

  made_right : (es : List Entry) → table_of_archive s ≡ made es → Right (call_clade_table s)
  made_right es e = made_accepted (the (call_clade_table s)).call (the (call_clade_table s)).Wrong (the (call_clade_table s)).wanted (the (call_clade_table s)).law (table_of_archive s) refl es e

  -- its clades
  made_clades : (es : List Entry) → table_of_archive s ≡ made es → DifferentClades s (leaves_of es)
  made_clades es e = let C = made_table s es e in (C.rises, C.each_clade)

  -- the input is right exactly when n is up to 64, the length is the implied one, and the reader reads every tree
  pub right_exactly : Right (call_clade_table s) ↔ ArchiveRight s
  right_exactly = (λ R. let m = right_made R in ((table_made_exactly s m.0).0 m.1).0, back)
    where
      back : ArchiveRight s → Right (call_clade_table s)
      back A = let t = archive_table s A in made_right t.0 t.1

  -- then its different clades can be counted
  pub different_clades : Right (call_clade_table s) → (l : List ℕ) × DifferentClades s l × (length l ≡ table_length s)
  different_clades R = let m = right_made R in (leaves_of m.0, made_clades m.0 m.1, length_leaves m.0 ∙ m.2)

  clades_wanted : (l : List ℕ) → DifferentClades s l → Right (call_clade_table s) → table_length s ≡ length l
  clades_wanted l D R = let d = different_clades R in sym d.2 ∙ ap length (same_clades s d.0 l d.1 D)

module _ (s : List ℕ) (old new : List Entry) (a : Answer) (K : Kept (call_clade_table s) old a new) where
  -- done: the first entries of the lent list are the clade table, as many as the answer says, and behind them it holds what it held
  pub done_table : (k : ℕ) → reads a ≡ done k
      → (table_of_archive s ≡ made (take k new)) × CladeTableOf s (take k new) × Sums s (take k new) × (length (take k new) ≡ k) × (drop k new ≡ drop k old)
  done_table k e =
      let d = done_made (the (call_clade_table s)).call (the (call_clade_table s)).Wrong (the (call_clade_table s)).wanted (the (call_clade_table s)).law old a new K k e in
      let es = d.0 in
      let front : take k new ≡ es = ap (take k) d.2 ∙ take_at es (drop (length es) old) k (sym d.3) in
      let behind : drop k new ≡ drop k old =
      ap (drop k) d.2 ∙ drop_at es (drop (length es) old) k (sym d.3) ∙ ap (λ (j : ℕ). drop j old) (sym d.3) in
      rw front (d.1, made_table s es d.1, made_sums s es d.1, sym d.3, behind)

  module _ (l : List ℕ) (D : DifferentClades s l) where
    -- "last 15, exactly when there are more different clades than entries lent (place: entries needed)"
    pub refused_15_exactly : (place : ℕ) → (reads a ≡ refused 15 place) ↔ ((place ≡ length l) × (length old < length l) × Right (call_clade_table s))
    refused_15_exactly place =
        let e = room_exactly (call_clade_table s) old a new K place in (
          λ r. let h = e.0 r in let w = clades_wanted s l D h.2 in (h.0 ∙ w, rw (← w) h.1, h.2),
          λ h. let w = clades_wanted s l D h.2 in e.1 (h.0 ∙ sym w, rw w h.1, h.2),
        )

    -- "done with the number of elements written": an entry for each different clade
    pub done_exactly : (k : ℕ) → (reads a ≡ done k) ↔ (Right (call_clade_table s) × (k ≡ length l) × (length l ≤ length old))
    done_exactly k =
        let e = one.done_exactly (call_clade_table s) old a new K k in (
          λ r. let h = e.0 r in let w = clades_wanted s l D h.0 in (h.0, h.1 ∙ w, rw (← w) h.2),
          λ h. let w = clades_wanted s l D h.0 in e.1 (h.0, h.1 ∙ sym w, rw w h.2),
        )

  nothing_written : table_of_archive s ≡ made [] → (reads a ≡ done 0) × (new ≡ old)
  nothing_written e =
      done_written (the (call_clade_table s)).call (the (call_clade_table s)).Wrong (the (call_clade_table s)).wanted (the (call_clade_table s)).law [] e old a new K (omega arith)

  -- no trees: done with 0
  pub no_trees_done : FewLeaves s → Whole s → trees_in s ≡ 0 → (reads a ≡ done 0) × (new ≡ old)
  unfolding vectors_in
  no_trees_done c w z = nothing_written (table_of_vectors s c w [] (rw z refl) ∙ ap made no_trees_table)

  -- one leaf: done with 0, however many trees there are
  pub one_leaf_done : Whole s → leaf_count s ≡ 1 → (reads a ≡ done 0) × (new ≡ old)
  one_leaf_done w z =
      nothing_written
      (table_of_vectors s (omega arith, omega arith) w (replicate (trees_in s) (0 ∷ [])) (rw z (vectors_of_one s (trees_in s))) ∙ ap made (one_leaf_table (trees_in s)))
