-- The listing program: what it writes for its input.
-- Main definitions: line_of, refused_line, line_for, first_record, listing, most_records, listing_of.
use Rattle.std.specs.Prelude.{List, [], ◌∷◌, ◌++◌, ℕ, zero, suc, ltb, length, take, drop}
use Rattle.rules.specs.Tree.{tree_of}
use Rattle.rules.specs.Newick.{digits, text_of}
use Rattle.rules.specs.Record.{leaf_count, record_length}
use Rattle.rules.specs.Answer.{Made, made, refuses}
use Rattle.rules.specs.Guards.{refuse_if, refuse_count}
use Rattle.rules.specs.CallUnpack.{unpack}

-- "the vector with commas"
unfoldable pub commaed : List ℕ → List ℕ
unfolding digits
commaed [] = []
commaed (x ∷ []) = digits 4 x
commaed (x ∷ y ∷ v) = digits 4 x ++ (44 ∷ commaed (y ∷ v))

-- "Per record it writes one line: n, a space, the vector with commas, a space, the text."
unfoldable pub line_of : List ℕ → List ℕ
unfolding digits commaed text_of tree_of
line_of v = digits 4 (length v) ++ (32 ∷ commaed v ++ (32 ∷ text_of (tree_of v) ++ (10 ∷ [])))

-- "the line `refused`, number, place"
unfoldable pub refused_line : ℕ → ℕ → List ℕ
unfolding digits
refused_line number place =
    114 ∷ 101 ∷ 102 ∷ 117 ∷ 115 ∷ 101 ∷ 100 ∷ 32 ∷ digits 4 number ++ (32 ∷ digits 4 place ++ (10 ∷ []))

-- what becomes of the elements that were made
unfoldable pub then : Made → (List ℕ → Made) → Made
then (made xs) next = next xs
then (refuses number place) next = refuses number place

-- what a record makes: its line
unfoldable pub line_for : List ℕ → Made
unfolding unpack line_of then
line_for record' = then (unpack record') (λ v. made (line_of v))

-- The record at the front of the input: "Input that ends inside a record is 2, with the length wanted: 2 where a single byte is left,
-- else the record's length, after 1 for its n."
unfoldable pub first_record : List ℕ → Made
unfolding refuse_if refuse_count leaf_count record_length
first_record s =
    refuse_if (ltb (length s) 2) 2 2
    (refuse_count (leaf_count s) (refuse_if (ltb (length s) (record_length (leaf_count s))) 2 (record_length (leaf_count s))
    (made (take (record_length (leaf_count s)) s))))

-- a line and the lines after it; "the first refusal ends the run"
unfoldable pub lines : Made → List ℕ → List ℕ
unfolding refused_line
lines (made line) rest = line ++ rest
lines (refuses number place) rest = refused_line number place

-- "It reads packed records back to back from standard input .. Empty input prints nothing." At most k records are read.
unfoldable pub listing : ℕ → List ℕ → List ℕ
unfolding lines line_for first_record then record_length leaf_count
listing zero s = []
listing (suc k) [] = []
listing (suc k) (b ∷ s) =
    lines (then (first_record (b ∷ s)) line_for) (listing k (drop (record_length (leaf_count (b ∷ s))) (b ∷ s)))

-- "up to 4,294,967,295 of them; it looks no further"
abbrev pub most_records : ℕ
most_records = 4294967295

-- what the program writes for its input
unfoldable pub listing_of : List ℕ → List ℕ
unfolding listing
listing_of s = listing most_records s
