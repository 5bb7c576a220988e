-- A text read whole: a node, the sign at its end, and nothing behind it. Main definition: NodeRead.
use Rattle.std.specs.Prelude.{◌≡◌, ℕ, ◌-◌, length}
use mathlib.Core.List.{List}
use Rattle.grammar.specs.Reading.{node_read}
use Rattle.text_laws.specs.Cells.{cell, begun}
use Rattle.text_laws.specs.Answers.{MayBegin, Answers}

-- the text's node is read, which ends at x
pub record NodeRead (signs s m m₁ : List ℕ) (x : ℕ) : Type 0 where
  pub room : length m ≡ 2576
  pub begins : MayBegin signs s 0 (begun m)
  pub answers : Answers (node_read (cell (begun m) 8 - 1)) s 0 (begun m) m₁ x
