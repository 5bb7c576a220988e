-- What the check of an archive says before the first entry is written.
-- Main definitions: table, Tabled, Headed, FirstBatch, NoTable, Checked, Roomed. Main results: table_made, short_archive, no_leaf, many_leaves, table_leaves, wrong_length,
-- tree-refused (each refusal); room_checked, enough_checked, again_checked (where all trees can be read).
use Rattle.std.specs.Prelude.{Option, None, ◌≡◌, refl, ◌≢◌, List, [], ℕ, ◌-◌, ◌*◌, ◌≤◌, ◌<◌, ltb, get_or}
use Rattle.std.proofs.Common.{sym, ap₂, ◌∙◌, arith, lt-ltb, le-ltb}
use Rattle.std.proofs.Math.Path.{ap}
use Rattle.std.proofs.Math.ListN.{length}
use Rattle.rules.specs.declared.Answer.{Answer}
use Rattle.rules.specs.declared.Clade.{Clade as Entry}
use Rattle.rules.specs.Record.{leaf_count}
use Rattle.rules.specs.Archive.{trees_in, implied_length}
use Rattle.rules.specs.Answer.{done, refused, reads, made, refuses}
use Rattle.rules.specs.CladeTable.{clade_table, trees_of}
use Rattle.rules.specs.CallCladeTable.{following, record_in, vectors_in, table_in, table_of_archive}
use Rattle.rules.specs.CallReadTree.{read_tree, read_tree_call}
use Rattle.rules.specs.Promise.{Keeps, answers}
use Rattle.basics.proofs.Cases.{by_lt}
use Rattle.accepting.proofs.Guards as guards
use Rattle.accepting.proofs.Guards.{some_leaves, wrong_length, right_length, refuse_if_lem, pass_if}
use Rattle.archive_laws.specs.Reader.{HasTree}
use Rattle.archive_laws.proofs.Reader.{reader_inside}
use Rattle.clade_passes.proofs.Archive.{vectors_refused}
use Rattle.clade_passes.specs.Batches.{batch_at}
use Rattle.clade_passes.proofs.Batches.{last_batch}
use Rattle.clade_batch.specs.Held.{most, held_in, held_length}
use Rattle.clade_pass.specs.Pass.{Given, PassedAll, StoppedAt, Passed}
use Rattle.clade_entries.specs.Table.{Readable, table_of, table_of_lem, table_first, table_fits, passed_all, all_read}

-- the table of an archive, by its header
abbrev pub table : List ℕ → List Entry
table s = table_of s (leaf_count s) (trees_in s)

-- and that it can be read
abbrev pub Tabled : List ℕ → Type 0
Tabled s = Readable s (leaf_count s) (trees_in s)

-- n and the tree count are those of a right header
pub record Headed (s : List ℕ) (n trees : ℕ) : Type 0 where
  pub leaves : n ≡ leaf_count s
  pub count : trees ≡ trees_in s

-- all trees can be read, and held has the first batch
pub record FirstBatch (s : List ℕ) (n trees : ℕ) (held : List ℕ) : Type 0 where
  pub readable : Readable s n trees
  pub leaves : n ≡ leaf_count s
  pub count : trees ≡ trees_in s
  pub first : held_in held ≡ batch_at most 0 (table_of s n trees)

module _ {s : List ℕ} {n trees : ℕ} {held : List ℕ} (B : FirstBatch s n trees held) where
  pub tabled : Tabled s
  tabled = rw (B.leaves, B.count) at B.readable

  pub same_table : table_of s n trees ≡ table s
  same_table = ap₂ (table_of s) B.leaves B.count

  pub first_held : held_in held ≡ batch_at most 0 (table s)
  first_held = B.first ∙ ap (batch_at most 0) same_table

pub by_header : {s : List ℕ} {n trees : ℕ} → Given s n trees → Headed s n trees → Given s (leaf_count s) (trees_in s)
by_header G H = rw (H.leaves, H.count) at G

pub passed_header : (s : List ℕ) {n trees : ℕ} (bound : ℕ) (held : List ℕ) (r : Option ℕ) → n ≡ leaf_count s → trees ≡ trees_in s → Passed s n trees bound held r
    → Passed s (leaf_count s) (trees_in s) bound held r
passed_header s bound held r a b P = rw (a, b) at P

-- a pass went through all trees
pub passed_first : {s : List ℕ} {n trees : ℕ} {held : List ℕ} → Given s n trees → Headed s n trees → PassedAll s n trees 0 held → FirstBatch s n trees held
passed_first {held = held} G H P =
    let R = all_read G P in
    record { readable = R; leaves = H.leaves; count = H.count; first = passed_all R 0 held None P ∙ table_first R }

-- why there is no table: the archive is refused, or the room is too small
pub data NoTable (s : List ℕ) (room : ℕ) : ℕ → ℕ → Type 0 where
  of_archive : {number place : ℕ} → table_of_archive s ≡ refuses number place → NoTable s room number place
  of_room : Tabled s → room < length (table s) → NoTable s room 15 (length (table s))

-- refused, and no clade is held; or there is room, and the first batch is held
pub data Checked (s : List ℕ) (room : ℕ) (a : Answer) (held : List ℕ) : Type 0 where
  stopped : {number place : ℕ} → reads a ≡ refused number place → NoTable s room number place → held_in held ≡ [] → Checked s room a held
  fits : {k : ℕ} → reads a ≡ done k → Tabled s → length (table s) ≤ room → held_in held ≡ batch_at most 0 (table s) → Checked s room a held

-- what is answered where so many entries are needed
pub record Roomed (needed room : ℕ) (held : List ℕ) (a : Answer) (held' : List ℕ) : Type 0 where
  pub short : room < needed → (reads a ≡ refused 15 needed) × (held_in held' ≡ [])
  pub enough : needed ≤ room → (reads a ≡ done needed) × (held' ≡ held)

-- ---- the header
module _ (s : List ℕ) where
  abbrev n : ℕ
  n = leaf_count s

  pub short_archive : length s < 4 → table_of_archive s ≡ refuses 2 4
  unfolding table_of_archive table_in
  short_archive h = refuse_if_lem (ltb (length s) 4) 2 4 _ (lt-ltb (length s) 4 h)

  module _ (header : 4 ≤ length s) where
    pub no_leaf : n ≡ 0 → table_of_archive s ≡ refuses 1 0
    unfolding table_of_archive table_in
    no_leaf e = pass_if (ltb (length s) 4) 2 4 _ (le-ltb (length s) 4 header) ∙ guards.no_leaf n _ e

    pub many_leaves : 1024 < n → table_of_archive s ≡ refuses 1 0
    unfolding table_of_archive table_in
    many_leaves h = pass_if (ltb (length s) 4) 2 4 _ (le-ltb (length s) 4 header) ∙ guards.many_leaves n _ h

    pub table_leaves : n ≢ 0 → n ≤ 1024 → 64 < n → table_of_archive s ≡ refuses 14 n
    unfolding table_of_archive table_in
    table_leaves d b h =
        pass_if (ltb (length s) 4) 2 4 _ (le-ltb (length s) 4 header) ∙ some_leaves n _ (omega (arith, d)) b
        ∙ refuse_if_lem (ltb 64 n) 14 n _ (lt-ltb 64 n h)

    pub length_refused : n ≢ 0 → n ≤ 64 → length s ≢ implied_length n (trees_in s) → table_of_archive s ≡ refuses 2 (implied_length n (trees_in s))
    unfolding table_of_archive table_in
    length_refused d b l =
        pass_if (ltb (length s) 4) 2 4 _ (le-ltb (length s) 4 header) ∙ some_leaves n _ (omega (arith, d)) (omega arith)
        ∙ pass_if (ltb 64 n) 14 n _ (le-ltb 64 n b) ∙ wrong_length (implied_length n (trees_in s)) (length s) _ l

  -- a right header: the trees come next
  pub trees_next : Given s n (trees_in s) → table_of_archive s ≡ following (vectors_in n s (trees_in s)) (λ vs. made (clade_table (trees_of vs)))
  unfolding table_of_archive table_in implied_length
  trees_next G =
      let h : 4 ≤ length s = omega (arith, G.whole) in
      pass_if (ltb (length s) 4) 2 4 _ (le-ltb (length s) 4 h) ∙ some_leaves n _ G.some (omega (arith, G.few))
      ∙ pass_if (ltb 64 n) 14 n _ (le-ltb 64 n G.few) ∙ right_length (implied_length n (trees_in s)) (length s) _ G.whole

  pub table_made : Tabled s → table_of_archive s ≡ made (table s)
  unfolding following
  table_made R = trees_next R.given ∙ rw R.read (ap made (sym (table_of_lem R)))

  -- the first tree that is refused is what the archive is refused for, and what the reader says of it
  pub tree_stopped : {room : ℕ} {a : Answer} {held' : List ℕ} {n' trees r : ℕ} (old new : List ℕ) → Given s n' trees → Headed s n' trees → StoppedAt s n' trees r
      → Keeps (read_tree_call s r) old a new → held_in held' ≡ [] → Checked s room a held'
  unfolding following record_in answers
  tree_stopped {room} {a} {held'} {r = r} old new given H stop K e =
      let G = by_header given H in
      let P : StoppedAt s n (trees_in s) r = rw (H.leaves, H.count) at stop in
      let h = P.inside in
      let q = P.refused in
      let F : HasTree s r = record { some_leaf = G.some; few = omega (arith, G.few); whole = G.whole; below = h } in
      let w : read_tree s r ≡ refuses q.0 q.1 = reader_inside s r F ∙ q.2 in
      let v : vectors_in n s (trees_in s) ≡ refuses q.0 q.1 = vectors_refused n s r (trees_in s) q.0 q.1 P.vectors P.read q.2 h in
      stopped {number = q.0} {place = q.1} (K.answered ∙ ap (λ m. answers (read_tree_call s r) m old) (sym K.made_so ∙ w)) (of_archive {number = q.0} {place = q.1} (trees_next G ∙ rw v refl)) e

-- ---- where all trees can be read
module _ {s : List ℕ} (R : Tabled s) where
  -- there is too little room for so many entries
  pub short_checked : {room : ℕ} {a : Answer} {held held' : List ℕ} {needed : ℕ} → needed ≡ length (table s) → room < needed → Roomed needed room held a held' → Checked s room a held'
  short_checked e l A = stopped ((A.short l).0 ∙ ap (refused 15) e) (of_room R (omega (arith, l, e))) (A.short l).1

  -- or enough
  pub room_checked : {room : ℕ} {a : Answer} {held held' : List ℕ} {needed : ℕ} → needed ≡ length (table s) → held_in held ≡ batch_at most 0 (table s) → Roomed needed room held a held'
      → Checked s room a held'
  room_checked {room} {a} {held} {held'} {needed} e h A =
      by_lt room needed
      (λ l. short_checked e l A)
      (λ g. fits (A.enough g).0 R (omega (arith, g, e)) (ap held_in (A.enough g).1 ∙ h))

  -- a batch that is not full is all
  pub first_all : (held : List ℕ) {k : ℕ} → held_in held ≡ batch_at most 0 (table s) → k ≡ get_or held 8192 0 → k < most → k ≡ length (table s)
  first_all held {k} h e l =
      let q : k ≡ length (batch_at most 0 (table s)) = e ∙ sym (held_length held) ∙ ap length h in
      q ∙ sym (last_batch most 0 (table s) (omega arith) (omega (arith, q, l)) ∙ omega arith)

  -- room for all clades, were they different
  pub enough_checked : {room : ℕ} {a : Answer} {held : List ℕ} {k : ℕ} → trees_in s * (leaf_count s - 1) ≤ room → reads a ≡ done k → held_in held ≡ batch_at most 0 (table s) → Checked s room a held
  enough_checked l e h = fits e R (omega (arith, l, table_fits R)) h

  -- the first batch once more
  pub again_checked : {room : ℕ} {a : Answer} (held : List ℕ) {k : ℕ} (r : Option ℕ) → k ≡ length (table s) → k ≤ room → reads a ≡ done k → Passed s (leaf_count s) (trees_in s) 0 held r → Checked s room a held
  again_checked held r q l e P = fits e R (omega (arith, l, q)) (passed_all R 0 held r P ∙ table_first R)
