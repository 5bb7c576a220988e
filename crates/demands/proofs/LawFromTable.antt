-- Merge table to vector: when it refuses, and that it writes n elements. Main result: lawful_from_table.
use Rattle.std.specs.Prelude.{List, ◌≢◌, ◌⊎◌, ◌≡◌, refl, ℕ, ◌-◌, ◌*◌, length}
use Rattle.std.proofs.Common.{inl, inr, ap, ◌∙◌, arith}
use Rattle.rules.specs.declared.Kind.TheVariants.{LeafCount, InputLength, Parent, Child, NamedBefore}
use Rattle.rules.specs.Order.{vector_of}
use Rattle.rules.specs.Table.{Row, rows_of, table_fault, table_tree}
use Rattle.rules.specs.Answer.{number_of, Made, made, refuses}
use Rattle.rules.specs.Guards.{refuse_fault, refuse_count, refuse_length}
use Rattle.rules.specs.Promise.{list}
use Rattle.rules.specs.CallFromTable.{from_table, from_table_call}
use Rattle.clades.proofs.Size.{size_below}
use Rattle.written_tables.proofs.Flat.{rows_of_length}
use Rattle.read_tables.proofs.Forest.{rows_make_a_tree}
use Rattle.searching.specs.First.{first_at, nowhere}
use Rattle.accepting.proofs.Guards.{wrong_length, right_length}
use Rattle.demands.specs.Conditions.{CountWrong, CountRight, RowWrong, parent_wrong, child_not_below, child_named}
use Rattle.demands.specs.FirstWrongRow.{RowFound}
use Rattle.demands.proofs.FirstWrongRow.{first_row, row_found, row_given}
use Rattle.demands.proofs.Cases.{count_cases, count_given, count_passes, equal_cases}
use Rattle.demands.specs.Law.{OfInput, Settled, Lawful}
use Rattle.demands.proofs.Law.{lawful_made}
use Rattle.demands.proofs.Long.{vector_long}
use Rattle.demands.specs.LawFromTable.{TableRefused, table_1, table_2, table_row}

row_of_input : (n : ℕ) (rs : List Row) (k t : ℕ) → RowWrong n rs k t → OfInput 3 k
unfolding number_of
row_of_input n rs k t (h, parent_wrong a) = (Parent, refl, omega arith)
row_of_input n rs k t (h, child_not_below a b) = (Child, refl, omega arith)
row_of_input n rs k t (h, child_named a b c d) = (NamedBefore, refl, omega arith)

-- what is made is settled by these
settled_from_table : (n : ℕ) (xs : List ℕ) → Settled length 3 (TableRefused n xs) n (from_table n xs)
unfolding from_table refuse_fault number_of
settled_from_table n xs = record {
  of_input = kinds;
  given = refused_so;
  total = go (count_cases n) (equal_cases (length xs) (3 * (n - 1))) (row_found n (rows_of xs));
}
  where
    last : Made
    last = made (vector_of (table_tree n (rows_of xs)))

    whole : Made
    whole = refuse_count n (refuse_length (3 * (n - 1)) (length xs) (refuse_fault (table_fault n (rows_of xs)) last))

    kinds : (k t : ℕ) → TableRefused n xs k t → OfInput 3 k
    kinds k t (table_1 c) = (LeafCount, refl, omega arith)
    kinds k t (table_2 c l) = (InputLength, refl, omega arith)
    kinds k t (table_row c l f) = row_of_input n (rows_of xs) k t f.0

    refused_so : (k t : ℕ) → TableRefused n xs k t → whole ≡ refuses k t
    refused_so k t (table_1 c) = count_given n _ c
    refused_so k t (table_2 c l) = count_passes n _ c ∙ wrong_length (3 * (n - 1)) (length xs) _ l
    refused_so k t (table_row c l f) =
        count_passes n _ c ∙ right_length (3 * (n - 1)) (length xs) _ l ∙ ap (λ o. refuse_fault o last) (row_given n (rows_of xs) k t f)

    go : CountWrong n ⊎ CountRight n → (length xs ≢ 3 * (n - 1)) ⊎ (length xs ≡ 3 * (n - 1))
        → RowFound n (rows_of xs)
        → ((k : ℕ) × (t : ℕ) × TableRefused n xs k t) ⊎ ((ys : List ℕ) × (whole ≡ made ys) × (length ys ≡ n))
    go (inl c) l f = inl (1, 0, table_1 c)
    go (inr c) (inl l) f = inl (2, 3 * (n - 1), table_2 c l)
    go (inr c) (inr l) (first_at t f e) = inl (f.0.0, t, table_row c l (first_row n (rows_of xs) t f))
    go (inr c) (inr l) (nowhere e fit) = inr (
      vector_of (table_tree n (rows_of xs)),
      count_passes n _ c ∙ right_length (3 * (n - 1)) (length xs) _ l ∙ ap (λ o. refuse_fault o last) e,
      vector_long (table_tree n (rows_of xs))
          ∙ size_below n (table_tree n (rows_of xs)) (rows_make_a_tree n (rows_of xs) e (rows_of_length (n - 1) xs l) c.0),
    )

pub lawful_from_table : (n : ℕ) (xs : List ℕ) → Lawful (from_table_call n xs) (TableRefused n xs) n
lawful_from_table n xs = lawful_made list (from_table n xs) (TableRefused n xs) n (settled_from_table n xs)
