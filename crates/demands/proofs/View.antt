-- CR 1, the view: "the part of the lent archive that is record r, empty where the reader gives 1, 2 or 12". It is a part and no answer, so it is
-- stated by itself and beside the reader's promise. Main results: record_or_empty, view_empty_exactly, view_is_the_record.
use Rattle.std.specs.Prelude.{List, ◌≢◌, ◌⊎◌, ◌↔◌, ◌≡◌, length}
use Rattle.std.proofs.Common.{inl, inr, sym, ◌∙◌}
use Rattle.std.proofs.Math.Path.{ap}
use Prim.Native.Nat.{ℕ}
use native.Mathlib.Omega.{arith}
use Rattle.rules.specs.declared.Answer.{Answer}
use Rattle.rules.specs.Record.{leaf_count}
use Rattle.rules.specs.Archive.{trees_in, implied_length}
use Rattle.archive_laws.specs.Framed.{Frame}
use Rattle.archive_laws.proofs.Framed.{frame_number, framed_cases, record_ends}
use Rattle.archive_laws.specs.Reader.{HasTree, NoTree}
use Rattle.archive_laws.proofs.Reader.{record_size, part_inside, part_refused}
use Rattle.archive_laws.proofs.ReaderView.{view_inside, view_refused}
use Rattle.demands.specs.LawReadTree.{TreeThere, TreeRefused, tree_short, tree_1, tree_2, tree_12, tree_4, tree_10}
use Rattle.demands.proofs.LawReadTree.{frame_refused, tree_there}
use Rattle.demands.specs.Calls.{reads_tree}
use Rattle.demands.proofs.Keeping.{Lent, Kept}
use Rattle.demands.proofs.DemandOne.{RefusedWith, refused_exactly}
use Rattle.demands.specs.View.{OneTwoTwelve, NoTreeGiven, PartIsRecord, PartIsEmpty}

none_of : {k x y z : ℕ} → k ≢ x → k ≢ y → k ≢ z → (k ≡ x) ⊎ ((k ≡ y) ⊎ (k ≡ z)) → ⊥
none_of a b c (inl d) = a d
none_of a b c (inr (inl d)) = b d
none_of a b c (inr (inr d)) = c d

module _ (s : List ℕ) (r : ℕ) where
  inside : HasTree s r → PartIsRecord s r
  inside F =
      let w = F.whole in
      let b = view_inside s r F in
      record {
        place = part_inside s r F;
        within = omega (arith, record_ends (leaf_count s) (trees_in s) r F.below);
        bytes = b;
        all_its_bytes = ap length b ∙ record_size (leaf_count s) (trees_in s) s r (omega arith) F.below;
      }

  outside : {k p : ℕ} → NoTree s r k p → PartIsEmpty s r
  outside R = record { place = part_refused s r R; bytes = view_refused s r R }

  -- a record starts behind the header
  not_both : PartIsRecord s r → PartIsEmpty s r → ⊥
  unfolding implied_length
  not_both P E = omega (arith, ap (λ (p : ℕ × ℕ). p.0) (sym P.place ∙ E.place))

  -- one or the other
  pub record_or_empty : PartIsRecord s r ⊎ PartIsEmpty s r
  record_or_empty = go (framed_cases (length s) (leaf_count s) (trees_in s) r)
    where
      go : Frame (length s) (leaf_count s) (trees_in s) r → PartIsRecord s r ⊎ PartIsEmpty s r
      go (inl F) = inl (inside F)
      go (inr f) = inr (outside f.2)

  -- where there is a tree r the reader refuses its record alone: 4, 10
  in_the_record : TreeThere s r → (k p : ℕ) → TreeRefused s r k p → OneTwoTwelve k → ⊥
  unfolding implied_length
  in_the_record T k p (tree_short h) d = let w = T.1 in omega arith
  in_the_record T k p (tree_1 h (inl e)) d = let c = T.0.0 in omega arith
  in_the_record T k p (tree_1 h (inr g)) d = let c = T.0.1 in omega arith
  in_the_record T k p (tree_2 h c l) d = l T.1
  in_the_record T k p (tree_12 c l b) d = let z = T.2 in omega arith
  in_the_record T k p (tree_4 U f) d = none_of (omega arith) (omega arith) (omega arith) d
  in_the_record T k p (tree_10 U w b) d = none_of (omega arith) (omega arith) (omega arith) d

  module _ (old : Lent (reads_tree s r)) (a : Answer) (new : Lent (reads_tree s r)) (K : Kept (reads_tree s r) old a new) where
    -- the answer by the frame
    no_tree_refused : {k p : ℕ} → NoTree s r k p → NoTreeGiven a
    no_tree_refused {k} {p} R = (k, p, (refused_exactly (reads_tree s r) old a new K k p).1 (inl (frame_refused s r R)), frame_number R)

    tree_not_refused : HasTree s r → NoTreeGiven a → ⊥
    tree_not_refused F g = go ((refused_exactly (reads_tree s r) old a new K g.0 g.1).0 g.2) g.3
      where
        go : RefusedWith (reads_tree s r) old g.0 g.1 → OneTwoTwelve g.0 → ⊥
        go (inl R) d = in_the_record (tree_there s r F) g.0 g.1 R d
        go (inr S) d = let e = S.0 in none_of (omega arith) (omega arith) (omega arith) d

    -- "empty where the reader gives 1, 2 or 12", and only there
    pub view_empty_exactly : NoTreeGiven a ↔ PartIsEmpty s r
    view_empty_exactly = go (framed_cases (length s) (leaf_count s) (trees_in s) r)
      where
        go : Frame (length s) (leaf_count s) (trees_in s) r → NoTreeGiven a ↔ PartIsEmpty s r
        go (inl F) = (λ g. absurd (tree_not_refused F g), λ E. absurd (not_both (inside F) E))
        go (inr f) = (λ g. outside f.2, λ E. no_tree_refused f.2)

    -- the record where the reader gives 4, 10 or 3 or is done, and only there
    pub view_is_the_record : (NoTreeGiven a → ⊥) ↔ PartIsRecord s r
    view_is_the_record = go (framed_cases (length s) (leaf_count s) (trees_in s) r)
      where
        go : Frame (length s) (leaf_count s) (trees_in s) r → (NoTreeGiven a → ⊥) ↔ PartIsRecord s r
        go (inl F) = (λ n. inside F, λ P. tree_not_refused F)
        go (inr f) = (λ n. absurd (n (no_tree_refused f.2)), λ P. absurd (not_both P (outside f.2)))
