-- How the answers of the node reader and the pair reader are made of one another. Main definitions: FirstRead, SecondRead.
use Rattle.std.specs.Prelude.{◌≡◌, get_or}
use mathlib.Core.List.{List}
use Prim.Native.Nat.{ℕ, ◌+◌, ◌-◌}
use Rattle.grammar.specs.Reading.{node_read}
use Rattle.text_laws.specs.Cells.{cell, opened}
use Rattle.text_laws.specs.Answers.{MayBegin, Answers}

-- the first node of a pair is read, which ends at x
pub record FirstRead (signs s : List ℕ) (at : ℕ) (m m₁ : List ℕ) (x : ℕ) : Type 0 where
  pub begins : MayBegin signs s at m
  pub bracket : get_or signs at 0 ≡ 40
  pub some : cell m 8 - 1 ≡ 0 → ⊥
  pub answers : Answers (node_read (cell (opened m) 8 - 1)) s (at + 1) (opened m) m₁ x

-- the second node of a pair is read, which ends at z
pub record SecondRead (signs s : List ℕ) (at : ℕ) (m m₁ : List ℕ) (x : ℕ) (m₂ : List ℕ) (z : ℕ) : Type 0 where
  pub first : FirstRead signs s at m m₁ x
  pub comma_sign : get_or signs x 0 ≡ 44
  pub answers : Answers (node_read (cell m₁ 8 - 1)) s (x + 1) m₁ m₂ z
