-- The guards of the calls: each refuses an input, or lets what comes next stand.
-- Main definitions: refuse_if, refuse_at, refuse_fault, refuse_label, refuse_count, refuse_length, from_vector.
use Rattle.std.specs.Prelude.{Bool, not, ◌||◌, cond, List, ℕ, eqb, ltb, length}
use Rattle.std.proofs.Math.Option.{Option, none, some}
use Rattle.rules.specs.Names.{NameFault, not_below, used_before, PlacedFault}
use Rattle.rules.specs.Vector.{fault}
use Rattle.rules.specs.Table.{Fault}
use Rattle.rules.specs.Answer.{Making, refuses}

-- a refusal where the test passes, else what comes next
unfoldable pub refuse_if : {W : Type 0} → Bool → ℕ → ℕ → Making W → Making W
refuse_if b number place m = cond b (refuses number place) m

-- a refusal at the place of a fault, if there is one, else what comes next
unfoldable pub refuse_at : {W : Type 0} → ℕ → Option ℕ → Making W → Making W
refuse_at number none m = m
refuse_at number (some place) m = refuses number place

-- the refusal that a fault of a table is, if there is one, else what comes next
unfoldable pub refuse_fault : {W : Type 0} → Option Fault → Making W → Making W
refuse_fault none m = m
refuse_fault (some f) m = refuses f.0 f.1

-- "9 is now only "not below n"; 13 is "used before"": the number of what is wrong with a label
unfoldable pub label_number : NameFault → ℕ
label_number not_below = 9
label_number used_before = 13

-- the refusal that a label at fault is, if there is one, else what comes next
unfoldable pub refuse_label : {W : Type 0} → Option PlacedFault → Making W → Making W
unfolding label_number
refuse_label none m = m
refuse_label (some f) m = refuses (label_number f.0) f.1

-- 1: "leaf count 0 or above 1,024"; place 0
unfoldable pub refuse_count : {W : Type 0} → ℕ → Making W → Making W
unfolding refuse_if
refuse_count n m = refuse_if (eqb n 0 || ltb 1024 n) 1 0 m

-- 2: "input length wrong"; the length wanted
unfoldable pub refuse_length : {W : Type 0} → ℕ → ℕ → Making W → Making W
unfolding refuse_if
refuse_length wanted length' m = refuse_if (not (eqb length' wanted)) 2 wanted m

-- "From a vector: 1, 4"
unfoldable pub from_vector : {W : Type 0} → List ℕ → Making W → Making W
unfolding refuse_count refuse_at fault
from_vector v m = refuse_count (length v) (refuse_at 4 (fault 0 v) m)
