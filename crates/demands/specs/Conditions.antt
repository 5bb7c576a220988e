-- When a refusal is given, in 01's words: what several calls share. What one call alone refuses stands in its own file, Law*.
-- Main definitions: CountWrong, Above, NotBelow, UsedBefore, Unfit; RowWrong, FirstRow (5, 6, 7), PaddingSet (10), label_numbers, label_place (9, 13).
use Rattle.std.specs.Prelude.{List, map, ◌≢◌, ◌⊎◌, ◌≡◌, ℕ, ◌+◌, ◌≤◌, ◌<◌, length, get_or}
use Rattle.rules.specs.Vector.{entry, bound}
use Rattle.rules.specs.Table.{Row}
use Rattle.rules.specs.Names.{Placed}
use Rattle.rules.specs.Newick.{labels_of}
use Rattle.rules.specs.Record.{Bits, total}

-- 1: "leaf count 0 or above 1,024"
abbrev pub CountWrong : ℕ → Type 0
CountWrong n = (n ≡ 0) ⊎ (1024 < n)

abbrev pub CountRight : ℕ → Type 0
CountRight n = (1 ≤ n) × (n ≤ 1024)

-- 4: "vector entry above its bound, v(0) not 0 included"
abbrev pub Above : List ℕ → ℕ → Type 0
Above v i = (i < length v) × (bound i < entry v i)

abbrev pub WithinBounds : List ℕ → Type 0
WithinBounds v = (i : ℕ) → i < length v → entry v i ≤ bound i

-- 9: "not below n"
abbrev pub NotBelow : ℕ → List ℕ → ℕ → Type 0
NotBelow n xs i = n ≤ entry xs i

-- 13: "used before"
abbrev pub UsedBefore : List ℕ → ℕ → Type 0
UsedBefore xs i = (j : ℕ) × (j < i) × (entry xs j ≡ entry xs i)

-- 11: "not below n, or used before"
abbrev pub Unfit : ℕ → List ℕ → ℕ → Type 0
Unfit n xs i = (i < length xs) × (NotBelow n xs i ⊎ UsedBefore xs i)

-- row t of a table
abbrev pub row_at : List Row → ℕ → Row
row_at rs t = get_or rs t (0, 0, 0)

-- c is a child in a row before row t
abbrev pub NamedBefore : List Row → ℕ → ℕ → Type 0
NamedBefore rs t c = (j : ℕ) × (j < t) × (((row_at rs j).0 ≡ c) ⊎ ((row_at rs j).1 ≡ c))

-- "5, 6, 7 in each": what is wrong first with a row whose parent is to be p, where Named are the children named before
pub data WrongRow (p : ℕ) (Named : ℕ → Type 0) (r : Row) : ℕ → Type 0 where
  parent_wrong : r.2 ≢ p → WrongRow p Named r 5
  child_not_below : r.2 ≡ p → (p ≤ r.0) ⊎ (p ≤ r.1) → WrongRow p Named r 6
  child_named : r.2 ≡ p → r.0 < p → r.1 < p → Named r.0 ⊎ (Named r.1 ⊎ (r.0 ≡ r.1)) → WrongRow p Named r 7

-- 5: "parent of row t not n+t". 6: "a child in row t not below n+t". 7: "a child in row t named before, or twice in it"
abbrev pub RowWrong : ℕ → List Row → ℕ → ℕ → Type 0
RowWrong n rs number t = (t < length rs) × WrongRow (n + t) (NamedBefore rs t) (row_at rs t) number

-- "rows upward": no row before is wrong
abbrev pub FirstRow : ℕ → List Row → ℕ → ℕ → Type 0
FirstRow n rs number t = RowWrong n rs number t × ((j k : ℕ) → j < t → RowWrong n rs k j → ⊥)

-- 10: "padding bit set": a bit from L(n) on, in the bits of a record
abbrev pub PaddingSet : ℕ → Bits → Type 0
PaddingSet n bs = (k : ℕ) × (total n ≤ k) × (get_or bs k 0 ≡ 1)

-- the numbers of the labels of a text, and the place of the first byte of label i
abbrev pub label_numbers : List ℕ → List ℕ
label_numbers s = map (λ (l : Placed). l.1) (labels_of s)

abbrev pub label_place : List ℕ → ℕ → ℕ
label_place s i = (get_or (labels_of s) i (0, 0)).0
