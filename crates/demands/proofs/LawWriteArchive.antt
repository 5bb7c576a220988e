-- The writer of an archive: when it refuses, and that it writes the bytes that n and the number of vectors imply. Main results: next_multiple_first,
-- lawful_write_archive.
use Rattle.std.specs.Prelude.{List, ◌≢◌, ◌⊎◌, ◌≡◌, refl, ℕ, ◌+◌, ◌*◌, ◌/◌, ◌≤◌, ◌<◌, length}
use Rattle.std.proofs.Common.{inl, inr, sym, ap, ◌∙◌, mul-div_cancel, mul-le-mul, le_refl, arith}
use Rattle.std.proofs.Math.Option.{none}
use Rattle.rules.specs.declared.Kind.TheVariants.{LeafCount, InputLength, Entry, TreeCount}
use Rattle.rules.specs.Archive.{implied_length, archive_of}
use Rattle.rules.specs.Answer.{number_of, made, refuses}
use Rattle.rules.specs.Promise.{list}
use Rattle.rules.specs.CallWriteArchive.{cut, fault_in, write_archive, write_archive_call}
use Rattle.basics.proofs.Cases.{by_lt}
use Rattle.searching.specs.First.{FirstFound, first_at, nowhere}
use Rattle.searching.proofs.First.{first_unique, found_first}
use Rattle.archive_laws.proofs.Writer.{next_multiple, write_no_leaf, write_many_leaves, write_too_many, write_in_parts, write_above, write_accepted}
use Rattle.demands.specs.Conditions.{CountWrong, CountRight}
use Rattle.demands.specs.FirstEntry.{AboveInTree}
use Rattle.demands.proofs.FirstEntry.{first_entry_found}
use Rattle.demands.proofs.Cases.{count_cases, equal_cases}
use Rattle.demands.specs.Law.{OfInput, Settled, Lawful}
use Rattle.demands.proofs.Law.{lawful_made}
use Rattle.demands.specs.LawWriteArchive.{Multiple, NextMultiple, ArchiveRefused, archive_1, archive_21, archive_2, archive_4}

module _ (n : ℕ) (xs : List ℕ) where
  -- the place that the rules give is the next multiple
  pub next_multiple_first : CountRight n → NextMultiple n (length xs) ((length xs / n + 1) * n)
  next_multiple_first c =
      let e = next_multiple n xs c.0 c.1 in
      ((e.1, (length xs / n + 1, refl)), none_before e.0)
    where
      none_before : length xs / n * n ≤ length xs → (j : ℕ) → j < (length xs / n + 1) * n → (length xs < j) × Multiple n j → ⊥
      none_before l j h m =
          by_lt {P = ⊥} (length xs / n) m.1.0
          (λ g. let z : (length xs / n + 1) * n ≤ m.1.0 * n = mul-le-mul (omega arith) (le_refl n) in omega (arith, m.1.1))
          (λ g. let z : m.1.0 * n ≤ length xs / n * n = mul-le-mul g (le_refl n) in omega (arith, m.0, m.1.1))

  -- whole vectors, as the rules test it
  whole_vectors : 1 ≤ n → Multiple n (length xs) → length xs / n * n ≡ length xs
  whole_vectors l m = ap (λ (k : ℕ). k / n * n) m.1 ∙ ap (λ (k : ℕ). k * n) (mul-div_cancel m.0 l) ∙ sym m.1

-- what is made is settled by these
settled_write_archive : (n : ℕ) (xs : List ℕ) → Settled length 3 (ArchiveRefused n xs) (implied_length n (length xs / n)) (write_archive n xs)
unfolding number_of
settled_write_archive n xs = record {
  of_input = kinds;
  given = refused_so;
  total = start (count_cases n);
}
  where
    Ends : Type 0
    Ends = ((k : ℕ) × (p : ℕ) × ArchiveRefused n xs k p) ⊎ ((ys : List ℕ) × (write_archive n xs ≡ made ys) × (length ys ≡ implied_length n (length xs / n)))

    kinds : (k p : ℕ) → ArchiveRefused n xs k p → OfInput 3 k
    kinds k p (archive_1 c) = (LeafCount, refl, omega arith)
    kinds k p (archive_21 c h) = (TreeCount, refl, omega arith)
    kinds k p (archive_2 c h d f) = (InputLength, refl, omega arith)
    kinds k p (archive_4 c h m f) = (Entry, refl, omega arith)

    refused_so : (k p : ℕ) → ArchiveRefused n xs k p → write_archive n xs ≡ refuses k p
    refused_so k p (archive_1 (inl e)) = write_no_leaf n xs e
    refused_so k p (archive_1 (inr h)) = write_many_leaves n xs h
    refused_so k p (archive_21 c h) = write_too_many n xs c.0 c.1 (omega arith)
    refused_so k p (archive_2 c h d f) =
        write_in_parts n xs c.0 c.1 h (λ e. d (length xs / n, sym e))
        ∙ ap (refuses 2) (first_unique _ _ p (next_multiple_first n xs c) f)
    refused_so k p (archive_4 {i} c h m f) =
        let e = whole_vectors n xs c.0 m in
        write_above n xs c.0 c.1 i h e (found_first (first_entry_found n (length xs / n) xs (sym e)) i f (λ w. refl))

    written : CountRight n → length xs ≤ 2097151 * n → length xs / n * n ≡ length xs → fault_in 0 (cut n (length xs / n) xs) ≡ none → Ends
    written c h e f =
        let W = write_accepted n xs c.0 c.1 h e f in
        inr (archive_of n (cut n (length xs / n) xs), W.0, W.1)

    start : CountWrong n ⊎ CountRight n → Ends
    start (inl c) = inl (1, 0, archive_1 c)
    start (inr c) = by_lt (2097151 * n) (length xs) (λ h. inl (21, 2097151, archive_21 c h)) (λ h. parts h (equal_cases (length xs / n * n) (length xs)))
      where
        parts : length xs ≤ 2097151 * n → (length xs / n * n ≢ length xs) ⊎ (length xs / n * n ≡ length xs) → Ends
        parts h (inl d) = inl (2, (length xs / n + 1) * n, archive_2 c h (λ m. d (whole_vectors n xs c.0 m)) (next_multiple_first n xs c))
        parts h (inr e) = entries (first_entry_found n (length xs / n) xs (sym e))
          where
            entries : FirstFound (AboveInTree n xs) (λ i w. i) (fault_in 0 (cut n (length xs / n) xs)) → Ends
            entries (first_at i f g) = inl (4, i, archive_4 c h (length xs / n, sym e) f)
            entries (nowhere g right) = written c h e g

pub lawful_write_archive : (n : ℕ) (xs : List ℕ) → Lawful (write_archive_call n xs) (ArchiveRefused n xs) (implied_length n (length xs / n))
lawful_write_archive n xs = lawful_made list (write_archive n xs) (ArchiveRefused n xs) (implied_length n (length xs / n)) (settled_write_archive n xs)
