-- The clade table of an archive: "Refusals: the archive's header refusals, with 14 for n above 64 (place n) directly after 1; then 4 and 10 tree
-- by tree; and last 15, exactly when there are more different clades than entries lent (place: entries needed)."
-- Main definitions: vectors_in, table_in, clade_table_call.
use Rattle.std.specs.Prelude.{List, [], ◌∷◌, ◌++◌, ◌≡◌, ℕ, zero, suc, ◌-◌, ltb, length}
use Rattle.rules.specs.declared.Clade.{Clade as Entry}
use Rattle.rules.specs.Record.{leaf_count}
use Rattle.rules.specs.Archive.{trees_in, bare_length, implied_length, packed_at}
use Rattle.rules.specs.CladeTable.{trees_of, clade_table}
use Rattle.rules.specs.Answer.{Making, Made, made, refuses}
use Rattle.rules.specs.Guards.{refuse_if, refuse_count, refuse_length}
use Rattle.rules.specs.CallUnpack.{from_bits}
use Rattle.rules.specs.Promise.{Call, list}

-- what comes next, of what was made; a refusal stays
unfoldable pub following : {A B : Type 0} → Making A → (A → Making B) → Making B
following (made x) next = next x
following (refuses number place) next = refuses number place

-- what record r makes: "4 and 10", with 01's places within the record
unfoldable pub record_in : ℕ → List ℕ → ℕ → Made
unfolding from_bits bare_length packed_at
record_in n s r = from_bits n (bare_length n - 1) (packed_at n s r)

-- "tree by tree": the vectors of the first k records, or the refusal of the first that is refused
unfoldable pub vectors_in : ℕ → List ℕ → ℕ → Making (List (List ℕ))
unfolding following record_in
vectors_in n s zero = made []
vectors_in n s (suc k) = following (vectors_in n s k) (λ vs. following (record_in n s k) (λ v. made (vs ++ (v ∷ []))))

-- the table of an archive of n leaves and so many trees, behind what its header is refused for
unfoldable pub table_in : List ℕ → ℕ → ℕ → Making (List Entry)
unfolding refuse_if refuse_count refuse_length following vectors_in clade_table trees_of implied_length
table_in s n count =
    refuse_if (ltb (length s) 4) 2 4
    (refuse_count n (refuse_if (ltb 64 n) 14 n
    (refuse_length (implied_length n count) (length s) (following (vectors_in n s count) (λ vs. made (clade_table (trees_of vs)))))))

-- the table of an archive
unfoldable pub table_of_archive : List ℕ → Making (List Entry)
unfolding table_in leaf_count trees_in
table_of_archive s = table_in s (leaf_count s) (trees_in s)

-- "last 15, exactly when there are more different clades than entries lent (place: entries needed)"
abbrev pub clade_table_call : List ℕ → Call (List Entry) (List Entry)
clade_table_call s = record { buffers = list; short = 15; Makes = λ x. table_of_archive s ≡ x }
