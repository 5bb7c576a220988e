-- An archive that was written is read: each tree, each record, the header and the length. Main results: write_archive_lem, read_written,
-- view_written, header_written, length_written.
use Rattle.std.specs.Prelude.{◌≡◌, refl, not, List, [], ◌∷◌, ℕ, zero, suc, ◌+◌, ◌*◌, ◌/◌, ◌≤◌, ◌<◌, ltb, eqb, length, take, drop, get_or}
use Rattle.std.proofs.Common.{sym, ap, ap₂, ◌∙◌, suc-mul, zero-mul, mul-le-mul, mul-div_cancel, le_refl, arith, length-append, take_at, drop_at, le-ltb, eq-eqb}
use Rattle.std.proofs.Math.Option.{none}
use Rattle.std.proofs.Math.Seq.{drop-append-add}
use Rattle.rules.specs.Vector.{Valid}
use Rattle.rules.specs.Record.{leaf_count}
use Rattle.rules.specs.Answer.{made}
use Rattle.basics.proofs.Fault.{valid_no_fault}
use Rattle.accepting.proofs.Guards.{some_leaves, pass_if, pass_at}
use Rattle.rules.specs.Archive.{header, trees_in, bare_length, bare_record, implied_length, bare_records, archive_of, record_at, packed_at}
use Rattle.rules.specs.CallWriteArchive.{cut, fault_at, fault_in, most_trees, write_archive}
use Rattle.rules.specs.CallReadTree.{read_tree}
use Rattle.rules.specs.CallView.{view}
use Rattle.archive_laws.proofs.Bare.{length_bare}
use Rattle.archive_laws.proofs.BareFields.{from_bare}
use Rattle.archive_laws.proofs.Header.{length_header, leaves_read, trees_read}
use Rattle.archive_laws.specs.Reader.{HasTree}
use Rattle.archive_laws.proofs.Reader.{reader_inside}
use Rattle.archive_laws.proofs.ReaderView.{view_inside}
use Rattle.archive_laws.specs.Written.{Trees, joined}

pub tree_at : (n : ℕ) (vs : List (List ℕ)) → Trees n vs → (r : ℕ) → r < length vs → Valid (get_or vs r []) × (length (get_or vs r []) ≡ n)
unfolding Trees
tree_at n [] h r l = absurd (omega arith)
tree_at n (v ∷ vs) h zero l = (h.0, h.1)
tree_at n (v ∷ vs) h (suc r) l = tree_at n vs h.2 r (omega arith)

pub length_records : (n : ℕ) (vs : List (List ℕ)) → Trees n vs → length (bare_records vs) ≡ length vs * bare_length n
unfolding Trees bare_records
length_records n [] h = sym (zero-mul (bare_length n))
length_records n (v ∷ vs) h =
    let e = h.1 in
    rw (length-append, length_bare, length_records n vs h.2, e, suc-mul (length vs) (bare_length n)) (omega arith)

-- record r stands behind the r records before it
pub record_in : (n : ℕ) (vs : List (List ℕ)) → Trees n vs → (r : ℕ) → r < length vs
    → take (bare_length n) (drop (r * bare_length n) (bare_records vs)) ≡ bare_record (get_or vs r [])
unfolding Trees bare_records
record_in n [] h r l = absurd (omega arith)
record_in n (v ∷ vs) h zero l =
    let e : length (bare_record v) ≡ bare_length n = length_bare v ∙ ap bare_length h.1 in
    rw (zero-mul (bare_length n)) (take_at (bare_record v) (bare_records vs) (bare_length n) e)
record_in n (v ∷ vs) h (suc r) l =
    let e : length (bare_record v) ≡ bare_length n = length_bare v ∙ ap bare_length h.1 in
    let k : suc r * bare_length n ≡ length (bare_record v) + r * bare_length n = omega (arith, suc-mul r (bare_length n)) in
    rw (k, drop-append-add (bare_record v) (bare_records vs) (r * bare_length n)) (record_in n vs h.2 r (omega arith))

-- the view is the r-th record
pub record_written : (n : ℕ) (vs : List (List ℕ)) → Trees n vs → (r : ℕ) → r < length vs → record_at n (archive_of n vs) r ≡ bare_record (get_or vs r [])
unfolding record_at implied_length archive_of
record_written n vs h r l =
    let e : 4 + r * bare_length n ≡ length (header n (length vs)) + r * bare_length n = omega (arith, length_header n (length vs)) in
    rw (e, drop-append-add (header n (length vs)) (bare_records vs) (r * bare_length n)) (record_in n vs h r l)

-- "the implied length"
pub length_written : (n : ℕ) (vs : List (List ℕ)) → Trees n vs → length (archive_of n vs) ≡ implied_length n (length vs)
unfolding archive_of implied_length
length_written n vs h = rw (length-append, length_header, length_records n vs h)

-- the header is read back
pub header_written : (n : ℕ) (vs : List (List ℕ)) → n ≤ 1024 → length vs ≤ most_trees → (leaf_count (archive_of n vs) ≡ n) × (trees_in (archive_of n vs) ≡ length vs)
unfolding archive_of
header_written n vs l k = (leaves_read n (length vs) (bare_records vs) (omega arith), trees_read n (length vs) (bare_records vs) (omega arith))

module _ (n : ℕ) (vs : List (List ℕ)) (h : Trees n vs) (a : 1 ≤ n) (b : n ≤ 1024) (c : length vs ≤ most_trees) (r : ℕ) (l : r < length vs) where
  leaves : leaf_count (archive_of n vs) ≡ n
  leaves = (header_written n vs b c).0

  -- an archive that was written has its trees
  pub written_has : HasTree (archive_of n vs) r
  written_has = rw (leaves, (header_written n vs b c).1) (record { some_leaf = a; few = b; whole = length_written n vs h; below = l })

  -- tree r of it is the r-th vector
  pub read_written : read_tree (archive_of n vs) r ≡ made (get_or vs r [])
  unfolding packed_at
  read_written =
      let t = tree_at n vs h r l in
      reader_inside (archive_of n vs) r written_has
      ∙ rw (leaves, record_written n vs h r l, ← t.1) (from_bare (get_or vs r []) _ t.0)

  -- and the view its record
  pub view_written : view (archive_of n vs) r ≡ bare_record (get_or vs r [])
  view_written = view_inside (archive_of n vs) r written_has ∙ rw leaves (record_written n vs h r l)

-- the writer takes the vectors' entries in one list
pub length_joined : (n : ℕ) (vs : List (List ℕ)) → Trees n vs → length (joined vs) ≡ length vs * n
unfolding Trees joined
length_joined n [] h = sym (zero-mul n)
length_joined n (v ∷ vs) h = rw (length-append, length_joined n vs h.2, suc-mul (length vs) n) (omega (arith, h.1))

pub cut_joined : (n : ℕ) (vs : List (List ℕ)) → Trees n vs → cut n (length vs) (joined vs) ≡ vs
unfolding Trees joined cut
cut_joined n [] h = refl
cut_joined n (v ∷ vs) h =
    ap₂ ◌∷◌ (take_at v (joined vs) n h.1) (ap (cut n (length vs)) (drop_at v (joined vs) n h.1) ∙ cut_joined n vs h.2)

pub no_fault_in : (n at : ℕ) (vs : List (List ℕ)) → Trees n vs → fault_in at vs ≡ none
unfolding Trees fault_in fault_at
no_fault_in n at [] h = refl
no_fault_in n at (v ∷ vs) h = rw (valid_no_fault v h.0) (no_fault_in n (at + length v) vs h.2)

pub write_archive_lem : (n : ℕ) (vs : List (List ℕ)) → Trees n vs → 1 ≤ n → n ≤ 1024 → length vs ≤ most_trees
    → write_archive n (joined vs) ≡ made (archive_of n vs)
unfolding write_archive
write_archive_lem n vs h a b c =
    some_leaves n _ a b
    ∙ pass_if (ltb (most_trees * n) (length (joined vs))) 21 most_trees _ (le-ltb (most_trees * n) (length (joined vs)) few)
    ∙ rw (count, cut_joined n vs h)
    (pass_if (not (eqb (length vs * n) (length (joined vs)))) 2 ((length vs + 1) * n) _ (ap not (eq-eqb (length vs * n) (length (joined vs)) (sym (length_joined n vs h))))
    ∙ pass_at 4 (fault_in 0 vs) _ (no_fault_in n 0 vs h))
  where
    few : length (joined vs) ≤ most_trees * n
    few = rw (length_joined n vs h) (mul-le-mul c (le_refl n))

    count : length (joined vs) / n ≡ length vs
    count = ap (λ (k : ℕ). k / n) (length_joined n vs h) ∙ mul-div_cancel (length vs) a
