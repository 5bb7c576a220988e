-- One pass over an archive, tree by tree: after r trees the batch has the least of their clades.
-- Main definitions: Given, PassedAll, StoppedAt, Passed, Passing. Main results: passing_start, passing_roomy, record_bytes, passing_next, passing_refused, passing_end,
-- one_leaf_passed, two_leaves_passed, no_pairs, pairs_held, pairs_below.
use Rattle.record_entries.specs.declared.EntryFault.{EntryFault}
use Rattle.std.specs.Prelude.{Option, None, Some, Result, Ok, Err, true, false, ◌≡◌, ◌≢◌, ℕ, suc, ◌+◌, ◌-◌, ◌*◌, ◌≤◌, ◌<◌, drop, replicate}
use Rattle.std.proofs.Math.Path.{refl, sym, ap}
use Rattle.std.specs.Result.{is_err}
use Rattle.std.proofs.Common.{true≢false, ap₂, ◌∙◌, add-one, arith, lt-ltb, le-ltb, length-take, length-drop}
use mathlib.Core.List.{List, [], ◌∷◌, ◌++◌}
use Rattle.std.proofs.Math.Nat.{suc-mul, mul-le-mul}
use Rattle.std.specs.Int.Count.{ones}
use Rattle.std.proofs.Math.ListN.{length, take}
use Rattle.rules.specs.declared.Clade.{Clade as Entry}
use Rattle.rules.specs.Archive.{bare_length, implied_length, record_at, packed_at}
use Rattle.rules.specs.Answer.{made, refuses}
use Rattle.rules.specs.CladeTable.{clade_table, trees_of}
use Rattle.rules.specs.CallCladeTable.{record_in, vectors_in}
use Rattle.archive_laws.proofs.Framed.{record_ends}
use Rattle.tree_reading.specs.Gives.{bare_made}
use Rattle.clade_laws.specs.Rising.{From}
use Rattle.clade_laws.specs.Entries.{Each, leaves_of}
use Rattle.clade_passes.specs.Passes.{above, batch}
use Rattle.clade_passes.specs.Collected.{collected}
use Rattle.clade_passes.specs.Merged.{vector_sets, archive_sets}
use Rattle.clade_passes.proofs.Archive.{each_mapped, vectors_made, vectors_next, collected_append, archive_sets_append, one_pass}
use Rattle.clade_passes.proofs.Bounds.{collected_rises, collected_length, collected_counts, length_archive_sets}
use Rattle.clade_passes.specs.NoBytes.{both}
use Rattle.clade_passes.proofs.NoBytes.{vectors_of_one, one_leaf_table, vectors_of_two, two_leaves_table}
use Rattle.clade_batch.specs.Held.{most, held_one, held_in, held_length}
use Rattle.clade_batch.specs.AddAll.{Roomy}
use Rattle.clade_pass.specs.Tree.{TreeAdded}

-- the archive has a right header and its implied length
pub record Given (s : List ℕ) (n trees : ℕ) : Type 0 where
  pub some : 1 ≤ n
  pub few : n ≤ 64
  pub counted : trees < 2097152
  pub whole : length s ≡ implied_length n trees

-- all trees can be read, and the batch has the least clades above the bound
pub record PassedAll (s : List ℕ) (n trees bound : ℕ) (words : List ℕ) : Type 0 where
  pub vectors : List (List ℕ)
  pub read : vectors_in n s trees ≡ made vectors
  pub held : held_in words ≡ batch most bound (clade_table (trees_of vectors))

-- tree r is the first that is refused
pub record StoppedAt (s : List ℕ) (n trees r : ℕ) : Type 0 where
  pub vectors : List (List ℕ)
  pub inside : r < trees
  pub read : vectors_in n s r ≡ made vectors
  pub refused : (number : ℕ) × (place : ℕ) × (record_in n s r ≡ refuses number place)

-- whether a tree is refused, and which is the first
abbrev pub Passed : List ℕ → ℕ → ℕ → ℕ → List ℕ → Option ℕ → Type 0
Passed s n trees bound words None = PassedAll s n trees bound words
Passed s n trees bound words (Some r) = StoppedAt s n trees r

-- the first r trees are added, and the next record starts at `at`
pub record Passing (s : List ℕ) (n trees size bound : ℕ) (words : List ℕ) (at r : ℕ) : Type 0 where
  pub given : Given s n trees
  pub wide : size ≡ bare_length n
  pub high : r ≤ trees
  pub here : at ≡ implied_length n r
  pub vectors : List (List ℕ)
  pub read : vectors_in n s r ≡ made vectors
  pub held : held_in words ≡ collected most bound [] (archive_sets vectors)

pub passing_start : {s : List ℕ} {n trees size bound : ℕ} {words : List ℕ} → Given s n trees → size ≡ bare_length n → held_in words ≡ []
    → Passing s n trees size bound words 4 0
unfolding implied_length vectors_in archive_sets collected
passing_start {n = n} G w e = record {
  given = G;
  wide = w;
  high = omega arith;
  here = omega arith;
  vectors = [];
  read = refl;
  held = e;
}

module _ {s : List ℕ} {n trees size bound : ℕ} {words : List ℕ} {at r : ℕ} (P : Passing s n trees size bound words at r) where
  -- there is room for many more of each clade
  pub passing_roomy : Roomy words
  unfolding Each From leaves_of
  passing_roomy =
      let l = archive_sets P.vectors in
      let v = vectors_made n s r P.vectors P.given.some P.read in
      let n-few : n - 1 ≤ 63 = omega (arith, P.given.few) in
      let r-few : r ≤ 2097151 = omega (arith, P.high, P.given.counted) in
      let k : length l ≤ 4294967296 =
      omega (arith, length_archive_sets n P.vectors v.1 ∙ ap (λ (x : ℕ). x * (n - 1)) v.0, mul-le-mul r-few n-few) in
      record {
        few = omega (arith, held_length words, ap length P.held, collected_length most bound l [] (omega arith));
        rises = rw P.held (collected_rises most bound l [] tt);
        counts = rw P.held
            (each_mapped (λ e. e.count ≤ 0 + length l) (λ e. e.count ≤ 4294967296) (collected most bound [] l) (λ e c. omega (arith, c, k)) (collected_counts most bound 0 l [] tt));
      }

  -- the record of tree r lies within the archive
  pub record_inside : r < trees → at + size ≤ length s
  record_inside h = omega (arith, P.here, P.wide, P.given.whole, record_ends n trees r h)

  pub record_bytes : r < trees → length (take (at + size - at) (drop at s)) ≡ bare_length n
  record_bytes h = rw (length-take, length-drop) (omega (arith, record_inside h, P.wide))

  pub record_in_bytes : record_in n s r ≡ bare_made n (take (at + size - at) (drop at s))
  unfolding record_in packed_at record_at
  record_in_bytes =
      let e : at + size - at ≡ bare_length n = omega (arith, P.wide) in
      ap (bare_made n) (sym (ap₂ (λ (k i : ℕ). take k (drop i s)) e P.here))

  pub passing_next : {words' : List ℕ} (a : Result (Unit {0}) EntryFault) → is_err a ≡ false → r < trees → TreeAdded n (take (at + size - at) (drop at s)) bound words words' a
      → Passing s n trees size bound words' (at + size) (r + 1)
  unfolding implied_length
  passing_next (Err _) e h A = absurd (true≢false e)
  passing_next {words'} (Ok _) e h A = record {
    given = P.given;
    wide = P.wide;
    high = omega arith;
    here = rw (add-one r) (omega (arith, P.here, P.wide, suc-mul r (bare_length n)));
    vectors = P.vectors ++ (A.0 ∷ []);
    read = rw (add-one r) (vectors_next n s r P.vectors A.0 P.read (record_in_bytes ∙ A.1));
    held =
        A.2 ∙ ap (λ (es : List Entry). collected most bound es (vector_sets A.0)) P.held
        ∙ sym (collected_append most bound (archive_sets P.vectors) (vector_sets A.0) [])
        ∙ ap (collected most bound []) (sym (archive_sets_append P.vectors A.0));
  }

  pub passing_refused : (words' : List ℕ) (a : Result (Unit {0}) EntryFault) → is_err a ≡ true → r < trees → TreeAdded n (take (at + size - at) (drop at s)) bound words words' a → StoppedAt s n trees r
  passing_refused words' (Ok _) e h A = absurd (true≢false (sym e))
  passing_refused words' (Err _) e h A = record { vectors = P.vectors; inside = h; read = P.read; refused = (A.0, A.1, record_in_bytes ∙ A.2) }

  pub passing_end : trees ≤ r → PassedAll s n trees bound words
  passing_end h =
      let e : r ≡ trees = omega (arith, P.high) in
      record {
        vectors = P.vectors;
        read = ap (vectors_in n s) (sym e) ∙ P.read;
        held = P.held ∙ one_pass most bound n s r P.vectors P.given.some P.read;
      }

-- ---- records without bytes
pub one_leaf_passed : {s : List ℕ} {n trees bound : ℕ} {words : List ℕ} → n ≡ 1 → held_in words ≡ [] → PassedAll s n trees bound words
one_leaf_passed {s} {n} {trees} {bound} {words} e h = record {
  vectors = replicate trees (0 ∷ []);
  read = rw e (vectors_of_one s trees);
  held = h ∙ sym (ap (batch most bound) (one_leaf_table trees) ∙ no_batch);
}
  where
    no_batch : batch most bound [] ≡ []
    no_batch = unfold batch in refl

pub two_leaves_passed : {s : List ℕ} {n trees bound : ℕ} {words : List ℕ} → n ≡ 2 → held_in words ≡ batch most bound (clade_table (trees_of (replicate trees (0 ∷ 0 ∷ []))))
    → PassedAll s n trees bound words
two_leaves_passed {s} {n} {trees} e h = record {
  vectors = replicate trees (0 ∷ 0 ∷ []);
  read = rw e (vectors_of_two s trees);
  held = h;
}

-- the batch of trees of two leaves
abbrev pub pairs : ℕ → ℕ → List Entry
pairs trees bound = batch most bound (clade_table (trees_of (replicate trees (0 ∷ 0 ∷ []))))

some_pairs : (trees bound : ℕ) → 1 ≤ trees → pairs trees bound ≡ batch most bound (both trees ∷ [])
some_pairs trees bound h =
    let e : trees ≡ suc (trees - 1) = omega arith in
    ap (batch most bound)
    (ap (λ (k : ℕ). clade_table (trees_of (replicate k (0 ∷ 0 ∷ [])))) e ∙ two_leaves_table (trees - 1) ∙ ap (λ (k : ℕ). both k ∷ []) (sym e))

pub no_pairs : (words : List ℕ) (trees bound : ℕ) → trees ≡ 0 → held_in words ≡ [] → held_in words ≡ pairs trees bound
unfolding batch above trees_of clade_table
no_pairs words trees bound e h = rw e h

pub pairs_held : (words : List ℕ) (trees bound : ℕ) → trees ≢ 0 → bound < 3 → held_in words ≡ held_one 3 trees ∷ [] → held_in words ≡ pairs trees bound
pairs_held words trees bound d l h = h ∙ sym (some_pairs trees bound (omega (arith, d)) ∙ kept)
  where
    kept : batch most bound (both trees ∷ []) ≡ held_one 3 trees ∷ []
    kept = unfold batch in unfold above in unfold ones in rw (lt-ltb bound 3 l) refl

pub pairs_below : (words : List ℕ) (trees bound : ℕ) → trees ≢ 0 → 3 ≤ bound → held_in words ≡ [] → held_in words ≡ pairs trees bound
pairs_below words trees bound d l h = h ∙ sym (some_pairs trees bound (omega (arith, d)) ∙ passed)
  where
    passed : batch most bound (both trees ∷ []) ≡ []
    passed = unfold batch in unfold above in rw (le-ltb bound 3 l) refl
