-- The reader of tree r of an archive: when it refuses, and that it writes an element a leaf. Main result: lawful_read_tree.
use Rattle.std.specs.Prelude.{Bool, true, false, List, ◌⊎◌, ◌≡◌, refl, ℕ, ◌-◌, ◌≤◌, length}
use Rattle.std.proofs.Common.{inl, inr, arith}
use Rattle.rules.specs.declared.Kind.TheVariants.{LeafCount, InputLength, Entry, Padding, TreeNumber}
use Rattle.rules.specs.First.{First}
use Rattle.rules.specs.Record.{leaf_count, padding_in, any_set}
use Rattle.rules.specs.Archive.{trees_in, bare_length, packed_at}
use Rattle.rules.specs.Answer.{number_of, made, refuses}
use Rattle.rules.specs.Promise.{list}
use Rattle.rules.specs.CallReadTree.{read_tree, read_tree_call}
use Rattle.record_laws.proofs.FromBits.{length_entries_in}
use Rattle.archive_laws.specs.Framed.{short, leafless, crowded, unfit, absent}
use Rattle.archive_laws.proofs.Framed.{framed_cases}
use Rattle.archive_laws.specs.Reader.{HasTree, NoTree}
use Rattle.archive_laws.proofs.Reader.{reader_refused, entry_refused, padding_refused, tree_accepted}
use Rattle.demands.specs.Conditions.{CountWrong, Above, WithinBounds}
use Rattle.demands.proofs.FirstPlace.{padding_found}
use Rattle.demands.proofs.Cases.{above_cases, above_given, within_given}
use Rattle.demands.specs.Law.{OfInput, Settled, Lawful}
use Rattle.demands.proofs.Law.{lawful_made}
use Rattle.demands.specs.LawReadTree.{TreeThere, tree_entries, TreeRefused, tree_short, tree_1, tree_2, tree_12, tree_4, tree_10}

module _ (s : List ℕ) (r : ℕ) where
  -- a refusal of the frame is one of these
  pub frame_refused : {k p : ℕ} → NoTree s r k p → TreeRefused s r k p
  frame_refused (short h) = tree_short h
  frame_refused (leafless h e) = tree_1 h (inl e)
  frame_refused (crowded h g) = tree_1 h (inr g)
  frame_refused (unfit h a b d) = tree_2 h (a, b) d
  frame_refused (absent a b e l) = tree_12 (a, b) e l

  pub has_tree : TreeThere s r → HasTree s r
  has_tree T = record { some_leaf = T.0.0; few = T.0.1; whole = T.1; below = T.2 }

  pub tree_there : HasTree s r → TreeThere s r
  tree_there F = ((F.some_leaf, F.few), F.whole, F.below)

  wrong_count : 4 ≤ length s → CountWrong (leaf_count s) → NoTree s r 1 0
  wrong_count h (inl e) = leafless h e
  wrong_count h (inr g) = crowded h g

-- what is made is settled by these
settled_read_tree : (s : List ℕ) (r : ℕ) → Settled length 3 (TreeRefused s r) (leaf_count s) (read_tree s r)
unfolding number_of
settled_read_tree s r = record {
  of_input = kinds;
  given = refused_so;
  total = go (framed_cases (length s) (leaf_count s) (trees_in s) r) (above_cases (tree_entries s r)) (any_set (padding_in n (packed_at (leaf_count s) s r))) refl;
}
  where
    n : ℕ
    n = leaf_count s

    kinds : (k p : ℕ) → TreeRefused s r k p → OfInput 3 k
    kinds k p (tree_short h) = (InputLength, refl, omega arith)
    kinds k p (tree_1 h c) = (LeafCount, refl, omega arith)
    kinds k p (tree_2 h c l) = (InputLength, refl, omega arith)
    kinds k p (tree_12 c l b) = (TreeNumber, refl, omega arith)
    kinds k p (tree_4 T f) = (Entry, refl, omega arith)
    kinds k p (tree_10 T w b) = (Padding, refl, omega arith)

    refused_so : (k p : ℕ) → TreeRefused s r k p → read_tree s r ≡ refuses k p
    refused_so k p (tree_short h) = reader_refused s r (short h)
    refused_so k p (tree_1 h c) = reader_refused s r (wrong_count s r h c)
    refused_so k p (tree_2 h c l) = reader_refused s r (unfit h c.0 c.1 l)
    refused_so k p (tree_12 c l b) = reader_refused s r (absent c.0 c.1 l b)
    refused_so k p (tree_4 {i} T f) = entry_refused s r i (has_tree s r T) (above_given (tree_entries s r) i f)
    refused_so k p (tree_10 T w b) =
        padding_refused s r (has_tree s r T) (within_given (tree_entries s r) w) ((padding_found (leaf_count s) (packed_at (leaf_count s) s r)).1 b)

    go : HasTree s r ⊎ ((k : ℕ) × (p : ℕ) × NoTree s r k p) → ((i : ℕ) × First (Above (tree_entries s r)) i) ⊎ WithinBounds (tree_entries s r)
        → (d : Bool) → any_set (padding_in n (packed_at (leaf_count s) s r)) ≡ d
        → ((k : ℕ) × (p : ℕ) × TreeRefused s r k p) ⊎ ((ys : List ℕ) × (read_tree s r ≡ made ys) × (length ys ≡ leaf_count s))
    go (inr f) a d e = inl (f.0, f.1, frame_refused s r f.2)
    go (inl F) (inl a) d e = inl (4, a.0, tree_4 (tree_there s r F) a.1)
    go (inl F) (inr w) true e =
        inl (10, bare_length n - 1, tree_10 (tree_there s r F) w ((padding_found (leaf_count s) (packed_at (leaf_count s) s r)).0 e))
    go (inl F) (inr w) false e = inr (
      tree_entries s r,
      tree_accepted s r (record { has_tree = F; within = within_given (tree_entries s r) w; unset = e }),
      length_entries_in (leaf_count s) (packed_at (leaf_count s) s r),
    )

pub lawful_read_tree : (s : List ℕ) (r : ℕ) → Lawful (read_tree_call s r) (TreeRefused s r) (leaf_count s)
lawful_read_tree s r = lawful_made list (read_tree s r) (TreeRefused s r) (leaf_count s) (settled_read_tree s r)
