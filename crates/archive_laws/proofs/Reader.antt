-- What the reader of tree r makes, and which part the view is: by the frame, and then by the bits of record r. Main results: reader_inside,
-- reader_refused; part_inside, part_refused; entry_refused, padding_refused, tree_accepted, only_accepted, read_vector.
use Rattle.std.specs.Prelude.{true, false, List, ◌≡◌, length}
use Rattle.std.proofs.Math.Option.{none, some}
use Rattle.std.proofs.Math.Path.{ap}
use Rattle.std.proofs.Common.{subst, ◌∙◌, arith, length-take, length-drop}
use Prim.Native.Nat.{ℕ, ◌-◌, ◌≤◌, ◌<◌}
use Rattle.rules.specs.Vector.{fault, Vector}
use Rattle.rules.specs.Record.{leaf_count, entries_in, padding_in, any_set}
use Rattle.rules.specs.Archive.{trees_in, bare_length, implied_length, record_at, packed_at}
use Rattle.rules.specs.Answer.{made, refuses}
use Rattle.rules.specs.CallUnpack.{from_bits}
use Rattle.rules.specs.CallReadTree.{read_tree}
use Rattle.rules.specs.CallView.{part_made, part_of}
use Rattle.basics.proofs.Fault.{no_fault_valid}
use Rattle.record_laws.proofs.FromBits.{entry_in_bits, padding_in_bits, bits_accepted, bits_made, length_entries_in}
use Rattle.archive_laws.proofs.Framed.{record_ends, framed_passes, frame_refuses, framed_made}
use Rattle.archive_laws.specs.Reader.{HasTree, NoTree}

-- a record has the bytes that n fixes
pub record_size : (n count : ℕ) (s : List ℕ) (r : ℕ) → implied_length n count ≤ length s → r < count → length (record_at n s r) ≡ bare_length n
unfolding record_at
record_size n count s r l h = rw (length-take, length-drop) (omega (arith, record_ends n count r h))

module _ (s : List ℕ) (r : ℕ) where
  -- a tree that is there is read from the bits of its record
  pub reader_inside : HasTree s r → read_tree s r ≡ from_bits (leaf_count s) (bare_length (leaf_count s) - 1) (packed_at (leaf_count s) s r)
  unfolding read_tree
  reader_inside F = framed_passes (length s) (leaf_count s) (trees_in s) r _ F

  -- else the frame's refusal is given
  pub reader_refused : {k p : ℕ} → NoTree s r k p → read_tree s r ≡ refuses k p
  unfolding read_tree
  reader_refused R = frame_refuses (length s) (leaf_count s) (trees_in s) r _ R

  -- the view where there is a tree r: the bytes of its record
  pub part_inside : HasTree s r → part_of s r ≡ (implied_length (leaf_count s) r, bare_length (leaf_count s))
  unfolding part_of part_made
  part_inside F = ap part_made (framed_passes (length s) (leaf_count s) (trees_in s) r _ F)

  -- "empty where the reader gives 1, 2 or 12"
  pub part_refused : {k p : ℕ} → NoTree s r k p → part_of s r ≡ (0, 0)
  unfolding part_of part_made
  part_refused R = ap part_made (frame_refuses (length s) (leaf_count s) (trees_in s) r _ R)

  -- "then 4 and 10 with 01's places within the record": 4 at the entry, 10 at the record's last byte
  pub entry_refused : (i : ℕ) → HasTree s r → fault 0 (entries_in (leaf_count s) (packed_at (leaf_count s) s r)) ≡ some i → read_tree s r ≡ refuses 4 i
  entry_refused i F e = reader_inside F ∙ entry_in_bits (leaf_count s) (bare_length (leaf_count s) - 1) (packed_at (leaf_count s) s r) i e

  pub padding_refused : HasTree s r → fault 0 (entries_in (leaf_count s) (packed_at (leaf_count s) s r)) ≡ none
      → any_set (padding_in (leaf_count s) (packed_at (leaf_count s) s r)) ≡ true → read_tree s r ≡ refuses 10 (bare_length (leaf_count s) - 1)
  padding_refused F e b = reader_inside F ∙ padding_in_bits (leaf_count s) (bare_length (leaf_count s) - 1) (packed_at (leaf_count s) s r) e b

  -- a tree in which nothing is wrong
  pub record TreeAccepted : Type 0 where
    pub has_tree : HasTree s r
    pub within : fault 0 (entries_in (leaf_count s) (packed_at (leaf_count s) s r)) ≡ none
    pub unset : any_set (padding_in (leaf_count s) (packed_at (leaf_count s) s r)) ≡ false

  -- it makes its entries,
  pub tree_accepted : TreeAccepted → read_tree s r ≡ made (entries_in (leaf_count s) (packed_at (leaf_count s) s r))
  tree_accepted A =
      reader_inside A.has_tree
      ∙ bits_accepted (leaf_count s) (bare_length (leaf_count s) - 1) (packed_at (leaf_count s) s r) A.within A.unset

  -- and no other makes any
  pub only_accepted : (v : List ℕ) → read_tree s r ≡ made v → TreeAccepted × (entries_in (leaf_count s) (packed_at (leaf_count s) s r) ≡ v)
  unfolding read_tree
  only_accepted v e =
      let f = framed_made (length s) (leaf_count s) (trees_in s) r _ v e in
      let b = bits_made (leaf_count s) (bare_length (leaf_count s) - 1) (packed_at (leaf_count s) s r) v f.1 in
      (record { has_tree = f.0; within = b.0; unset = b.1 }, b.2)

  -- what is made is a vector that every call accepts
  pub read_vector : (v : List ℕ) → read_tree s r ≡ made v → Vector v × (length v ≡ leaf_count s)
  read_vector v e =
      let (A, same) = only_accepted v e in
      let l = length_entries_in (leaf_count s) (packed_at (leaf_count s) s r) in
      let F = A.has_tree in (
        subst Vector same
            (record {
              valid = no_fault_valid (entries_in (leaf_count s) (packed_at (leaf_count s) s r)) (rw l F.some_leaf) A.within;
              few = rw l F.few;
            }),
        ap length same_back ∙ l,
      )
    where
      same_back : v ≡ entries_in (leaf_count s) (packed_at (leaf_count s) s r)
      same_back = let (A, same) = only_accepted v e in cc
