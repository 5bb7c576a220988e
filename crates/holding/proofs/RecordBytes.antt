-- The bytes that the listing program takes for one record from the front of the input: as many as it wants, or all that are left where the input ends
-- before. Their lines are the listing. Main results: bytes_in_two, bytes_line, bytes_behind, written_listing, program_listing.
use Rattle.std.specs.Prelude.{List, [], ◌∷◌, ◌++◌, ◌≡◌, refl, ℕ, zero, suc, ◌+◌, ◌-◌, ◌≤◌, ◌<◌, ltb, drop}
use Rattle.std.proofs.Math.Path.{sym, ap}
use Rattle.std.proofs.Common.{◌∙◌, arith, take_all, take-add, length-take-le, lt-ltb, le-ltb}
use Rattle.std.proofs.Math.ListN.{length, take}
use Rattle.rules.specs.Record.{leaf_count, record_length}
use Rattle.rules.specs.Answer.{Made, made, refuses}
use Rattle.rules.specs.Guards.{refuse_if, refuse_count}
use Rattle.rules.specs.CallUnpack.{unpack}
use Rattle.rules.specs.Listing.{then, line_for, first_record, lines, listing, most_records, listing_of}
use Rattle.basics.proofs.Cases.{by_lt, by_eq}
use Rattle.accepting.proofs.Answers.{made_not_refuses}
use Rattle.accepting.proofs.Guards.{no_leaf, many_leaves, some_leaves, refuse_if_lem, pass_if}
use Rattle.record_laws.proofs.FromRecord.{under_two_bytes, counted, wrong_record}
use Rattle.holding.specs.Wanted.{bytes_wanted}
use Rattle.holding.proofs.Wanted.{wanted_begun, wanted_no_leaf, wanted_many_leaves, wanted_record, count_front, wanted_front, wanted_within}
use Rattle.holding.specs.RecordBytes.{record_bytes, Agrees, whole, alike, lines_written}

-- They are two bytes and, behind them, as many as these two want.
pub bytes_in_two : (s : List ℕ) → record_bytes s ≡ take 2 s ++ take (bytes_wanted (take 2 s) - 2) (drop 2 s)
unfolding record_bytes
bytes_in_two s =
    let e : bytes_wanted s ≡ 2 + (bytes_wanted s - 2) = omega (arith, wanted_within s) in
    ap (λ (k : ℕ). take k s) e ∙ take-add 2 (bytes_wanted s - 2) s
    ∙ ap (λ (k : ℕ). take 2 s ++ take (k - 2) (drop 2 s)) (sym (wanted_front 2 s (omega arith)))

module _ (s : List ℕ) where
  bytes_taken : {k : ℕ} → bytes_wanted s ≡ k → record_bytes s ≡ take k s
  unfolding record_bytes
  bytes_taken e = ap (λ (j : ℕ). take j s) e

  -- where the input ends before, all of it is taken
  bytes_all : {k : ℕ} → bytes_wanted s ≡ k → length s ≤ k → record_bytes s ≡ s
  bytes_all {k} e h = bytes_taken e ∙ take_all k s h

  agrees_begun : length s < 2 → Agrees s
  unfolding first_record
  agrees_begun h =
      alike (refuse_if_lem (ltb (length s) 2) 2 2 _ (lt-ltb (length s) 2 h))
      (ap unpack (bytes_all (wanted_begun s h) (omega arith)) ∙ under_two_bytes s h)

  abbrev n : ℕ
  n = leaf_count s

  abbrev long : ℕ
  long = record_length n

  module _ (two : 2 ≤ length s) where
    first_counted : first_record s ≡ refuse_count n (refuse_if (ltb (length s) long) 2 long (made (take long s)))
    unfolding first_record
    first_counted = pass_if (ltb (length s) 2) 2 2 _ (le-ltb (length s) 2 two)

    -- a leaf count that is wrong stands in the first two bytes
    agrees_count : ((m : Made) → refuse_count n m ≡ refuses 1 0) → bytes_wanted s ≡ 2 → Agrees s
    agrees_count wrong wanted =
        let front : 2 ≤ length (take 2 s) = omega (arith, length-take-le 2 s two) in
        alike (first_counted ∙ wrong _)
        (ap unpack (bytes_taken wanted) ∙ counted (take 2 s) n front (sym (count_front 2 s (omega arith))) ∙ wrong _)

    module _ (some_leaf : 1 ≤ n) (few : n ≤ 1024) where
      wanted : bytes_wanted s ≡ long
      wanted = wanted_record s n two refl some_leaf few

      first_long : first_record s ≡ refuse_if (ltb (length s) long) 2 long (made (take long s))
      first_long = first_counted ∙ some_leaves n _ some_leaf few

      agrees_part : length s < long → Agrees s
      agrees_part h =
          alike (first_long ∙ refuse_if_lem (ltb (length s) long) 2 long _ (lt-ltb (length s) long h))
          (ap unpack (bytes_all wanted (omega arith)) ∙ wrong_record s n two refl some_leaf few (λ e. omega arith))

      agrees_whole : long ≤ length s → Agrees s
      agrees_whole h =
          whole (first_long ∙ pass_if (ltb (length s) long) 2 long _ (le-ltb (length s) long h) ∙ ap made (sym (bytes_taken wanted)))
          (ap length (bytes_taken wanted) ∙ length-take-le long s h)

  agrees : Agrees s
  agrees =
      by_lt (length s) 2 agrees_begun (λ two.
      by_eq n 0
      (λ e. agrees_count two (λ m. no_leaf n m e) (wanted_no_leaf s n two refl e))
      (λ d. by_lt 1024 n
      (λ h. agrees_count two (λ m. many_leaves n m h) (wanted_many_leaves s n two refl h))
      (λ h. let some_leaf : 1 ≤ n = omega (arith, d) in by_lt (length s) long (agrees_part two some_leaf h) (agrees_whole two some_leaf h))))

  -- Their line is what `first_record` says of the input.
  pub bytes_line : line_for (record_bytes s) ≡ then (first_record s) line_for
  unfolding line_for then
  bytes_line = go agrees
    where
      go : Agrees s → line_for (record_bytes s) ≡ then (first_record s) line_for
      go (whole e l) = rw e
      go (alike e u) = rw (e, u)

  -- Where it is a line, the next record begins at the byte behind them.
  pub bytes_behind : {line : List ℕ} → line_for (record_bytes s) ≡ made line → length (record_bytes s) ≡ record_length (leaf_count s)
  unfolding line_for then
  bytes_behind {line} h = go agrees
    where
      go : Agrees s → length (record_bytes s) ≡ record_length (leaf_count s)
      go (whole e l) = l
      go (alike {number} {place} e u) =
          let z : refuses number place ≡ made line = sym (rw u) ∙ h in
          absurd (made_not_refuses (sym z))

-- The loop writes the listing.
pub written_listing : (k : ℕ) (s : List ℕ) → lines_written k s ≡ listing k s
unfolding lines_written listing
written_listing zero s = refl
written_listing (suc k) [] = refl
written_listing (suc k) (b ∷ s) =
    ap (lines (line_for (record_bytes t))) (written_listing k (drop (length (record_bytes t)) t))
    ∙ same (line_for (record_bytes t)) refl
    ∙ ap (λ (m : Made). lines m (listing k (drop (record_length (leaf_count t)) t))) (bytes_line t)
  where
    t : List ℕ
    t = b ∷ s

    same : (m : Made) → line_for (record_bytes t) ≡ m → lines m (listing k (drop (length (record_bytes t)) t)) ≡ lines m (listing k (drop (record_length (leaf_count t)) t))
    same (made line) e = ap (λ (j : ℕ). lines (made line) (listing k (drop j t))) (bytes_behind t e)
    same (refuses number place) e = refl

pub program_listing : (s : List ℕ) → lines_written most_records s ≡ listing_of s
unfolding listing_of
program_listing s = written_listing most_records s
