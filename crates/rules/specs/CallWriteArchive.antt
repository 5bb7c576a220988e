-- The writer of an archive, "from n and the vectors' entries in one list, tree after tree (an empty list: no trees)": "1, 21 for more than
-- 2,097,151 times n entries (place 2097151), 2 when the list is not whole vectors (place: next multiple of n), 4 (place: index in the list), 3".
-- Main definitions: cut, fault_in, most_trees, write_archive, write_archive_call.
use Rattle.std.specs.Prelude.{not, List, [], ◌∷◌, ℕ, zero, suc, ◌+◌, ◌*◌, ◌/◌, eqb, ltb, length, take, drop}
use Rattle.std.proofs.Math.Option.{Option, none, some}
use Rattle.rules.specs.Vector.{fault}
use Rattle.rules.specs.Archive.{archive_of}
use Rattle.rules.specs.Answer.{Made, made}
use Rattle.rules.specs.Guards.{refuse_if, refuse_at, refuse_count}
use Rattle.rules.specs.Promise.{Call, makes, list}

-- k lists of n elements each, one after another in a list
unfoldable pub cut : ℕ → ℕ → List ℕ → List (List ℕ)
cut n zero xs = []
cut n (suc k) xs = take n xs ∷ cut n k (drop n xs)

-- a fault within a vector that starts at an index in the list, else what comes next
unfoldable pub fault_at : ℕ → Option ℕ → Option ℕ → Option ℕ
fault_at at none next = next
fault_at at (some i) next = some (at + i)

-- "4 (place: index in the list)": the first entry above its bound, where the first of these vectors starts at an index
unfoldable pub fault_in : ℕ → List (List ℕ) → Option ℕ
unfolding fault_at fault
fault_in at [] = none
fault_in at (v ∷ vs) = fault_at at (fault 0 v) (fault_in (at + length v) vs)

-- the greatest number of 21 bits
abbrev pub most_trees : ℕ
most_trees = 2097151

unfoldable pub write_archive : ℕ → List ℕ → Made
unfolding refuse_count refuse_if refuse_at fault_in cut archive_of
write_archive n xs =
    refuse_count n (refuse_if (ltb (most_trees * n) (length xs)) 21 most_trees
    (refuse_if (not (eqb (length xs / n * n) (length xs))) 2 ((length xs / n + 1) * n)
    (refuse_at 4 (fault_in 0 (cut n (length xs / n) xs)) (made (archive_of n (cut n (length xs / n) xs))))))

abbrev pub write_archive_call : ℕ → List ℕ → Call (List ℕ) (List ℕ)
write_archive_call n xs = makes list (write_archive n xs)
