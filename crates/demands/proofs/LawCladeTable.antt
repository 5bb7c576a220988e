-- The clade table of an archive: when it is refused, and that it has an entry for each different clade of the archive's trees. Main results:
-- vectors_below, right_vectors, vectors_right, table_of_vectors, lawful_clade_table.
use Rattle.std.specs.Prelude.{Bool, true, false, List, ◌≢◌, ◌⊎◌, ◌≡◌, ℕ, zero, suc, ◌-◌, ◌≤◌, ◌<◌, ltb}
use Rattle.std.proofs.Common.{true≢false, inl, inr, sym, ◌∙◌, arith, lt-ltb, le-ltb}
use Rattle.std.proofs.Math.Path.{refl}
use Rattle.std.proofs.Math.ListN.{length}
use Rattle.rules.specs.declared.Clade.{Clade}
use Rattle.rules.specs.declared.Kind.TheVariants.{LeafCount, InputLength, Entry, Padding, CladeLeaves, CladeRoom}
use Rattle.rules.specs.First.{First}
use Rattle.rules.specs.Record.{leaf_count, padding_in, any_set}
use Rattle.rules.specs.Archive.{trees_in, bare_length, implied_length, packed_at}
use Rattle.rules.specs.Answer.{number_of, Making, made, refuses}
use Rattle.rules.specs.CladeTable.{trees_of, clade_table}
use Rattle.rules.specs.CallCladeTable.{following, record_in, vectors_in, table_in, table_of_archive, clade_table_call}
use Rattle.basics.proofs.Cases.{by_lt, by_test}
use Rattle.accepting.proofs.Answers.{made_not_refuses}
use Rattle.accepting.proofs.Guards.{refuse_if_lem, pass_if, wrong_length, right_length}
use Rattle.record_laws.proofs.FromBits.{entry_in_bits, padding_in_bits, bits_accepted}
use Rattle.clade_passes.proofs.Archive.{vectors_next, vectors_refused}
use Rattle.demands.specs.Conditions.{CountWrong, CountRight, Above, WithinBounds}
use Rattle.demands.proofs.FirstPlace.{padding_found}
use Rattle.demands.proofs.Cases.{count_cases, count_given, count_passes, equal_cases, above_cases, above_given, within_given}
use Rattle.demands.specs.LawReadTree.{Whole, tree_entries}
use Rattle.demands.specs.Law.{OfInput, Settled, Lawful}
use Rattle.demands.specs.LawCladeTable.{FewLeaves, TreePadded, TreeRight, TreeReached, CladesRefused, clades_short, clades_1, clades_14, clades_2, clades_4, clades_10, lists_below, tree_vectors, table_length}

-- records that make the lists f 0 to f (k-1)
pub vectors_below : (n : ℕ) (s : List ℕ) (f : ℕ → List ℕ) (k : ℕ) → ((r : ℕ) → r < k → record_in n s r ≡ made (f r)) → vectors_in n s k ≡ made (lists_below f k)
unfolding lists_below
vectors_below n s f zero h = unfold vectors_in in refl
vectors_below n s f (suc k) h = vectors_next n s k (lists_below f k) (f k) (vectors_below n s f k (λ r l. h r (omega arith))) (h k (omega arith))

module _ (s : List ℕ) where
  -- a record in which nothing is wrong makes its entries
  pub right_record : (r : ℕ) → TreeRight s r → record_in (leaf_count s) s r ≡ made (tree_entries s r)
  unfolding record_in
  right_record r R =
      bits_accepted (leaf_count s) (bare_length (leaf_count s) - 1) (packed_at (leaf_count s) s r) (within_given (tree_entries s r) R.0)
      (by_test (any_set (padding_in (leaf_count s) (packed_at (leaf_count s) s r))) (λ e. absurd (R.1 ((padding_found (leaf_count s) (packed_at (leaf_count s) s r)).0 e))) (λ e. e))

  -- records in which nothing is wrong make their entries
  pub right_vectors : (k : ℕ) → ((q : ℕ) → q < k → TreeRight s q) → vectors_in (leaf_count s) s k ≡ made (lists_below (tree_entries s) k)
  right_vectors k R = vectors_below (leaf_count s) s (tree_entries s) k (λ r h. right_record r (R r h))

  -- the first record in which something is wrong, if there is one
  abbrev WrongTree : ℕ → Type 0
  WrongTree r = ((i : ℕ) × First (Above (tree_entries s r)) i) ⊎ (WithinBounds (tree_entries s r) × TreePadded s r)

  tree_cases : (r : ℕ) → TreeRight s r ⊎ WrongTree r
  tree_cases r = go (above_cases (tree_entries s r)) (any_set (padding_in (leaf_count s) (packed_at (leaf_count s) s r))) refl
    where
      go : ((i : ℕ) × First (Above (tree_entries s r)) i) ⊎ WithinBounds (tree_entries s r) → (d : Bool)
          → any_set (padding_in (leaf_count s) (packed_at (leaf_count s) s r)) ≡ d → TreeRight s r ⊎ WrongTree r
      go (inl a) d e = inr (inl a)
      go (inr w) true e = inr (inr (w, (padding_found (leaf_count s) (packed_at (leaf_count s) s r)).0 e))
      go (inr w) false e = inl (w, λ b. true≢false (sym ((padding_found (leaf_count s) (packed_at (leaf_count s) s r)).1 b) ∙ e))

  abbrev pub AllRight : ℕ → Type 0
  AllRight k = (q : ℕ) → q < k → TreeRight s q

  first_wrong : (k : ℕ) → AllRight k ⊎ ((r : ℕ) × (r < k) × AllRight r × WrongTree r)
  first_wrong zero = inl (λ q h. absurd (omega arith))
  first_wrong (suc k) = go (first_wrong k) (tree_cases k)
    where
      go : AllRight k ⊎ ((r : ℕ) × (r < k) × AllRight r × WrongTree r) → TreeRight s k ⊎ WrongTree k
          → AllRight (suc k) ⊎ ((r : ℕ) × (r < suc k) × AllRight r × WrongTree r)
      go (inr w) t = inr (w.0, omega (arith, w.1), w.2, w.3)
      go (inl R) (inr w) = inr (k, omega arith, R, w)
      go (inl R) (inl t) = inl (λ q h. by_lt q k (λ l. R q l) (λ l. let e : q ≡ k = omega arith in rw e t))

  -- what comes behind the header
  abbrev Behind : Making (List Clade)
  Behind = following (vectors_in (leaf_count s) s (trees_in s)) (λ vs. made (clade_table (trees_of vs)))

  past_header : FewLeaves s → Whole s → table_of_archive s ≡ Behind
  unfolding table_of_archive table_in implied_length
  past_header c w =
      let few = c.1 in
      let long : 4 ≤ length s = omega (arith, w) in
      pass_if (ltb (length s) 4) 2 4 _ (le-ltb (length s) 4 long) ∙ count_passes (leaf_count s) _ (c.0, omega arith)
      ∙ pass_if (ltb 64 (leaf_count s)) 14 (leaf_count s) _ (le-ltb 64 (leaf_count s) few) ∙ right_length _ (length s) _ w

  -- the table of an archive whose records make vectors
  pub table_of_vectors : FewLeaves s → Whole s → (vs : List (List ℕ)) → vectors_in (leaf_count s) s (trees_in s) ≡ made vs
      → table_of_archive s ≡ made (clade_table (trees_of vs))
  unfolding following
  table_of_vectors c w vs e = past_header c w ∙ rw e refl

  -- the refusal of the first record in which something is wrong
  refused_tree : (r k p : ℕ) → TreeReached s r → record_in (leaf_count s) s r ≡ refuses k p → table_of_archive s ≡ refuses k p
  unfolding following
  refused_tree r k p T e =
      past_header T.0 T.1 ∙ rw (vectors_refused (leaf_count s) s r (trees_in s) k p (lists_below (tree_entries s) r) (right_vectors r T.3) e T.2) refl

  refused_entry : (r i : ℕ) → First (Above (tree_entries s r)) i → record_in (leaf_count s) s r ≡ refuses 4 i
  unfolding record_in
  refused_entry r i f =
      entry_in_bits (leaf_count s) (bare_length (leaf_count s) - 1) (packed_at (leaf_count s) s r) i (above_given (tree_entries s r) i f)

  refused_padding : (r : ℕ) → WithinBounds (tree_entries s r) → TreePadded s r → record_in (leaf_count s) s r ≡ refuses 10 (bare_length (leaf_count s) - 1)
  unfolding record_in
  refused_padding r w b =
      padding_in_bits (leaf_count s) (bare_length (leaf_count s) - 1) (packed_at (leaf_count s) s r) (within_given (tree_entries s r) w)
      ((padding_found (leaf_count s) (packed_at (leaf_count s) s r)).1 b)

  -- only records in which nothing is wrong make vectors
  pub vectors_right : (k : ℕ) (vs : List (List ℕ)) → vectors_in (leaf_count s) s k ≡ made vs → AllRight k
  vectors_right k vs e = go (first_wrong k)
    where
      no : (r a p : ℕ) → r < k → AllRight r → record_in (leaf_count s) s r ≡ refuses a p → ⊥
      no r a p h R f = made_not_refuses (sym e ∙ vectors_refused (leaf_count s) s r k a p (lists_below (tree_entries s) r) (right_vectors r R) f h)

      go : AllRight k ⊎ ((r : ℕ) × (r < k) × AllRight r × WrongTree r) → AllRight k
      go (inl R) = R
      go (inr (r, h, R, inl a)) = absurd (no r 4 a.0 h R (refused_entry r a.0 a.1))
      go (inr (r, h, R, inr b)) = absurd (no r 10 (bare_length (leaf_count s) - 1) h R (refused_padding r b.0 b.1))

  -- each refusal is given where its condition holds
  refused_so : (k p : ℕ) → CladesRefused s k p → table_of_archive s ≡ refuses k p
  unfolding table_of_archive table_in
  refused_so k p (clades_short h) = refuse_if_lem (ltb (length s) 4) 2 4 _ (lt-ltb (length s) 4 h)
  refused_so k p (clades_1 h c) = pass_if (ltb (length s) 4) 2 4 _ (le-ltb (length s) 4 h) ∙ count_given (leaf_count s) _ c
  refused_so k p (clades_14 h c l) =
      pass_if (ltb (length s) 4) 2 4 _ (le-ltb (length s) 4 h) ∙ count_passes (leaf_count s) _ c
      ∙ refuse_if_lem (ltb 64 (leaf_count s)) 14 (leaf_count s) _ (lt-ltb 64 (leaf_count s) l)
  refused_so k p (clades_2 h c l) =
      let few = c.1 in
      pass_if (ltb (length s) 4) 2 4 _ (le-ltb (length s) 4 h) ∙ count_passes (leaf_count s) _ (c.0, omega arith)
      ∙ pass_if (ltb 64 (leaf_count s)) 14 (leaf_count s) _ (le-ltb 64 (leaf_count s) few)
      ∙ wrong_length (implied_length (leaf_count s) (trees_in s)) (length s) _ l
  refused_so k p (clades_4 {r} {i} T f) = refused_tree r 4 i T (refused_entry r i f)
  refused_so k p (clades_10 {r} T w b) = refused_tree r 10 (bare_length (leaf_count s) - 1) T (refused_padding r w b)

-- what is made is settled by these
settled_clade_table : (s : List ℕ) → Settled length 15 (CladesRefused s) (table_length s) (table_of_archive s)
unfolding number_of
settled_clade_table s = record {
  of_input = kinds;
  given = refused_so s;
  total = by_lt (length s) 4 (λ h. inl (2, 4, clades_short h)) (λ h. counted h (count_cases (leaf_count s)));
}
  where
    Ends : Type 0
    Ends = ((k : ℕ) × (p : ℕ) × CladesRefused s k p) ⊎ ((es : List Clade) × (table_of_archive s ≡ made es) × (length es ≡ table_length s))

    kinds : (k p : ℕ) → CladesRefused s k p → OfInput 15 k
    kinds k p (clades_short h) = (InputLength, refl, omega arith)
    kinds k p (clades_1 h c) = (LeafCount, refl, omega arith)
    kinds k p (clades_14 h c l) = (CladeLeaves, refl, omega arith)
    kinds k p (clades_2 h c l) = (InputLength, refl, omega arith)
    kinds k p (clades_4 T f) = (Entry, refl, omega arith)
    kinds k p (clades_10 T w b) = (Padding, refl, omega arith)

    trees : FewLeaves s → Whole s → AllRight s (trees_in s) ⊎ ((r : ℕ) × (r < trees_in s) × AllRight s r × WrongTree s r) → Ends
    trees c w (inr (r, h, R, inl a)) = inl (4, a.0, clades_4 (c, w, h, R) a.1)
    trees c w (inr (r, h, R, inr b)) = inl (10, bare_length (leaf_count s) - 1, clades_10 (c, w, h, R) b.0 b.1)
    trees c w (inl R) = inr (clade_table (trees_of (tree_vectors s)), table_of_vectors s c w (tree_vectors s) (right_vectors s (trees_in s) R), unfold table_length in refl)

    whole : 4 ≤ length s → FewLeaves s → (length s ≢ implied_length (leaf_count s) (trees_in s)) ⊎ Whole s → Ends
    whole h c (inl l) = inl (2, implied_length (leaf_count s) (trees_in s), clades_2 h c l)
    whole h c (inr w) = trees c w (first_wrong s (trees_in s))

    counted : 4 ≤ length s → CountWrong (leaf_count s) ⊎ CountRight (leaf_count s) → Ends
    counted h (inl c) = inl (1, 0, clades_1 h c)
    counted h (inr c) =
        by_lt 64 (leaf_count s)
        (λ l. inl (14, leaf_count s, clades_14 h c l))
        (λ l. whole h (c.0, l) (equal_cases (length s) (implied_length (leaf_count s) (trees_in s))))

pub lawful_clade_table : (s : List ℕ) → Lawful (clade_table_call s) (CladesRefused s) (table_length s)
unfolding number_of
lawful_clade_table s = record {
  total = (table_of_archive s, refl);
  only = λ x y a b. sym a ∙ b;
  settled = λ x e. rw (← e) (settled_clade_table s);
  room_kind = (CladeRoom, refl);
}
