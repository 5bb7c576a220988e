-- What a tree that is read leaves in the array: its pairs, which are an accepted table of it, and the marks of its leaves. Main definitions:
-- recorded_rows, TableOf.
use Rattle.std.specs.Prelude.{◌≡◌, List, map, ℕ, ◌+◌, ◌-◌, ◌*◌, length, take}
use Rattle.std.proofs.Math.Option.{none}
use Rattle.rules.specs.Tree.{Tree}
use Rattle.rules.specs.Table.{Row, table_fault, table_tree}
use Rattle.grammar.specs.Pairs.{pair_count, child_code}
use Rattle.written_tables.specs.Tied.{tied}
use Rattle.text_laws.specs.Cells.{cell}
use Rattle.text_laws.specs.Answers.{recorded}
use Rattle.text_laws.specs.Numbered.{first_number, second_number}

-- a pair's two children in one number
abbrev pub children : ℕ × ℕ → ℕ
children c = c.0 * 65536 + c.1

-- the length, the last node and the next pair
pub record Kept (t : Tree) (m : List ℕ) : Type 0 where
  pub long : length (recorded t m) ≡ length m
  pub last : cell (recorded t m) 0 ≡ child_code (cell m 4 - 16384) t
  pub next : cell (recorded t m) 4 ≡ cell m 4 + pair_count t

-- the rows of the first n-1 recorded pairs
abbrev pub recorded_rows : ℕ → List ℕ → List Row
recorded_rows n pairs = tied n (map (first_number n) (take (n - 1) pairs)) (map (second_number n) (take (n - 1) pairs))

-- the table that the records are
pub record TableOf (n : ℕ) (t : Tree) (rs : List Row) : Type 0 where
  pub rows : length rs ≡ n - 1
  pub accepted : table_fault n rs ≡ none
  pub tree : table_tree n rs ≡ t
