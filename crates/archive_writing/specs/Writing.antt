-- What the writer of an archive wants, and how far it is after some trees.
-- Main definitions: Writes, Wrote. Main results: wrote_start, wrote_next, wrote_end.
use Rattle.std.specs.Prelude.{◌≡◌, List, [], ◌∷◌, ◌++◌, ℕ, suc, ◌+◌, ◌*◌, ◌/◌, ◌≤◌, ◌<◌, length, take, drop}
use Rattle.std.proofs.Math.Path.{sym}
use Rattle.std.proofs.Common.{ap, ◌∙◌, append-nil, append_assoc, zero-mul, arith, length-append, length-take, length-drop, take_at, drop_at, drop-drop}
use Rattle.std.proofs.Math.Option.{none}
use Rattle.std.proofs.Math.Nat.{suc-mul, mul-le-mul_left}
use Rattle.std.proofs.Math.Seq.{drop-length}
use Rattle.rules.specs.Vector.{Vector}
use Rattle.rules.specs.Archive.{header, bare_length, bare_record, bare_records, implied_length, archive_of}
use Rattle.rules.specs.CallWriteArchive.{cut, fault_in, most_trees}
use Rattle.archive_laws.proofs.Bare.{length_bare}
use Rattle.archive_laws.proofs.Header.{length_header}
use Rattle.archive_laws.specs.Written.{Trees}
use Rattle.archive_laws.proofs.Writer.{length_cut, cut_trees}
use Rattle.archive_laws.specs.Cut.{Left}
use Rattle.archive_laws.proofs.Cut.{left_start, left_none, left_some, next_inside, next_size, next_cut, next_left}

-- the list is valid vectors of n entries, not too many, and there is room for their archive
pub record Writes (n : ℕ) (xs : List ℕ) (bytes room : ℕ) : Type 0 where
  pub some_leaf : 1 ≤ n
  pub few_leaves : n ≤ 1024
  pub whole : length xs ≡ length xs / n * n
  pub few : length xs / n ≤ most_trees
  pub within : fault_in 0 (cut n (length xs / n) xs) ≡ none
  pub size : bytes ≡ bare_length n
  pub fits : implied_length n (length xs / n) ≤ room

-- there is room for the header, and n and the tree count fit it
pub writes_header : {n : ℕ} {xs : List ℕ} {bytes room : ℕ} → Writes n xs bytes room → (n < 2048) × (length xs / n < 2097152) × (4 ≤ room)
unfolding implied_length
writes_header w = (omega (arith, w.few_leaves), omega (arith, w.few), omega (arith, w.fits))

-- a tree below the tree count starts before the end of the list, and all of them end there
pub tree_inside : {n : ℕ} {xs : List ℕ} {bytes room : ℕ} (t : ℕ) → Writes n xs bytes room → t < length xs / n → t * n < length xs
tree_inside {n} {xs} t w h =
    let k : suc t ≤ length xs / n = h in
    omega (arith, w.whole, w.some_leaf, suc-mul t n, mul-le-mul_left n k)

pub all_trees : {n : ℕ} {xs : List ℕ} {bytes room : ℕ} (t : ℕ) → Writes n xs bytes room → length xs / n ≤ t → length xs ≤ t * n
all_trees {n} {xs} t w h = omega (arith, w.whole, mul-le-mul_left n h)

-- the header and the records of the trees before an index are written, and those of the trees behind it are left
pub record Wrote (n : ℕ) (xs : List ℕ) (bytes : ℕ) (before after : List ℕ) (from at : ℕ) : Type 0 where
  pub few_leaves : n ≤ 1024
  pub size : bytes ≡ bare_length n
  pub left : ℕ
  pub walk : Left n xs from left
  pub trees : Trees n (cut n left (drop from xs))
  pub front : List ℕ
  pub written : after ≡ front ++ drop at before
  pub long : length front ≡ at
  pub ends : at + left * bytes ≡ implied_length n (length xs / n)
  pub fits : implied_length n (length xs / n) ≤ length before
  pub whole : archive_of n (cut n (length xs / n) xs) ≡ front ++ bare_records (cut n left (drop from xs))

-- behind the header nothing has changed yet
module _ (n count : ℕ) (given : List ℕ) {before : List ℕ} (headed : before ≡ header n count ++ drop 4 given) where
  same_behind : (k : ℕ) → drop (4 + k) before ≡ drop (4 + k) given
  same_behind k =
      sym (drop-drop k 4 before)
      ∙ ap (drop k) (ap (drop 4) headed ∙ drop_at (header n count) (drop 4 given) 4 (length_header n count))
      ∙ drop-drop k 4 given

  same_room : 4 ≤ length given → length before ≡ length given
  same_room h = rw (headed, length-append, length_header, length-drop) (omega arith)

pub wrote_start : {n : ℕ} {xs : List ℕ} {bytes : ℕ} (given : List ℕ) {before : List ℕ} → Writes n xs bytes (length given)
    → before ≡ header n (length xs / n) ++ drop 4 given → Wrote n xs bytes before before 0 4
unfolding implied_length archive_of
wrote_start {n} {xs} given w e =
    let size = w.size in
    record {
      few_leaves = w.few_leaves;
      size = w.size;
      left = length xs / n;
      walk = left_start w.some_leaf w.whole;
      trees = cut_trees n 0 (length xs / n) xs w.some_leaf w.whole w.within;
      front = header n (length xs / n);
      written = e ∙ ap (◌++◌ (header n (length xs / n))) (sym (same_behind n (length xs / n) given e 0));
      long = length_header n (length xs / n);
      ends = rw size;
      fits = rw (same_room n (length xs / n) given e (omega (arith, w.fits))) w.fits;
      whole = rw (length_cut n (length xs / n) xs);
    }

pub wrote_end : {n : ℕ} {xs : List ℕ} {bytes : ℕ} (given : List ℕ) {before after : List ℕ} {from at : ℕ} → Wrote n xs bytes before after from at
    → before ≡ header n (length xs / n) ++ drop 4 given → length xs ≤ from
    → after ≡ archive_of n (cut n (length xs / n) xs) ++ drop (implied_length n (length xs / n)) given
unfolding cut bare_records implied_length
wrote_end {n} {xs} {bytes} given {at = at} w headed h =
    let none = left_none w.walk h in
    let e : at ≡ 4 + length xs / n * bare_length n = omega (arith, rw (none, zero-mul bytes) at w.ends) in
    let all : archive_of n (cut n (length xs / n) xs) ≡ w.front = rw (none, append-nil w.front) at w.whole in
    w.written ∙ rw (all, e, same_behind n (length xs / n) given headed (length xs / n * bare_length n))

-- the buffer keeps its length
pub wrote_same : {n : ℕ} {xs : List ℕ} {bytes : ℕ} {before after : List ℕ} {from at : ℕ} → Wrote n xs bytes before after from at → length after ≡ length before
wrote_same w = rw (w.written, length-append, length-drop) (omega (arith, w.long, w.ends, w.fits))

module _ {n : ℕ} {xs : List ℕ} {bytes : ℕ} {before after : List ℕ} {from at : ℕ} (w : Wrote n xs bytes before after from at) (h : from < length xs) where
  abbrev fewer : ℕ
  fewer = (left_some w.walk h).0

  one_less : w.left ≡ suc fewer
  one_less = (left_some w.walk h).1

  walk : Left n xs from (suc fewer)
  walk = rw one_less at w.walk

  -- the next tree, and those behind it
  abbrev tree : List ℕ
  tree = take n (drop from xs)

  abbrev others : List (List ℕ)
  others = cut n fewer (drop (from + n) xs)

  left_trees : cut n w.left (drop from xs) ≡ tree ∷ others
  left_trees = ap (λ (k : ℕ). cut n k (drop from xs)) one_less ∙ next_cut walk

  trees : Trees n (tree ∷ others)
  trees = rw left_trees at w.trees

  -- both parts are there
  pub wrote_inside : (from + n ≤ length xs) × (at + bytes ≤ length after)
  wrote_inside = (
    next_inside walk,
    omega (arith, wrote_same w, w.fits, rw one_less at w.ends, suc-mul fewer bytes),
  )

  room : length (take bytes (drop at after)) ≡ bare_length (length tree)
  room = rw (next_size walk, length-take, length-drop) (omega (arith, w.size, wrote_inside.1))

  -- the next tree is a vector, and its record has the room
  pub wrote_ready : (j k : ℕ) → j ≡ n → k ≡ bytes
      → Vector (take j (drop from xs)) × (bare_length (length (take j (drop from xs))) ≤ length (take k (drop at after)))
  unfolding Trees
  wrote_ready j k a b =
      rw (a, b) (record { valid = trees.0; few = rw (next_size walk) w.few_leaves }, omega (arith, room))

  -- its record takes the part of the buffer that is lent for it
  part_written : {part : List ℕ} → part ≡ bare_record tree ++ drop (bare_length (length tree)) (take bytes (drop at after))
      → take at after ++ (part ++ drop bytes (drop at after)) ≡ (w.front ++ bare_record tree) ++ drop (at + bytes) before
  part_written e =
      let first : take at after ≡ w.front = ap (take at) w.written ∙ take_at w.front (drop at before) at w.long in
      let rest : drop at after ≡ drop at before = ap (drop at) w.written ∙ drop_at w.front (drop at before) at w.long in
      let all : drop (bare_length (length tree)) (take bytes (drop at after)) ≡ [] = rw (← room) (drop-length (take bytes (drop at after))) in
      rw (e, all, append-nil (bare_record tree), first, rest, drop-drop bytes at before) (sym (append_assoc w.front (bare_record tree) (drop (at + bytes) before)))

  pub wrote_next : (j k : ℕ) → j ≡ n → k ≡ bytes → (part : List ℕ)
      → part ≡ bare_record (take j (drop from xs)) ++ drop (bare_length (length (take j (drop from xs)))) (take k (drop at after))
      → Wrote n xs bytes before (take at after ++ (part ++ drop k (drop at after))) (from + n) (at + bytes)
  unfolding Trees bare_records
  wrote_next j k a b part e =
      record {
        few_leaves = w.few_leaves;
        size = w.size;
        left = fewer;
        walk = next_left walk;
        trees = trees.2;
        front = w.front ++ bare_record tree;
        written = rw b (part_written (rw (a, b) at e));
        long = rw (length-append, length_bare, next_size walk) (omega (arith, w.long, w.size));
        ends = omega (arith, rw one_less at w.ends, suc-mul fewer bytes);
        fits = w.fits;
        whole = (rw left_trees at w.whole) ∙ sym (append_assoc w.front (bare_record tree) (bare_records others));
      }
