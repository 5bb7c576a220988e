-- The search of the rules over the rows of a table finds the first wrong row, and what is wrong first in it. Main definition: RowFound.
use Rattle.std.specs.Prelude.{Bool, not, cond, List, ℕ, ◌+◌, eqb}
use Rattle.std.proofs.Math.Option.{Option, none, some}
use Rattle.rules.specs.Table.{Row, Fault, table_fault, children_below, named_twice}
use Rattle.searching.specs.First.{FirstFound}
use Rattle.demands.specs.Conditions.{RowWrong}

-- the tests of one row, "5, 6, 7 in each": what is said of row t, if it is wrong
abbrev pub told : Bool → Bool → Bool → ℕ → Option Fault → Option Fault
told a b c t o = cond a (some (5, t)) (cond b (some (6, t)) (cond c (some (7, t)) o))

abbrev pub row_test : ℕ → ℕ → (ℕ → Bool) → Row → Option Fault
row_test n t named r = told (not (eqb r.2 (n + t))) (not (children_below (n + t) r)) (named_twice named r) t none

-- 5, 6, 7: the search finds the first wrong row, and what is wrong first in it
abbrev pub WrongAt : ℕ → List Row → ℕ → Type 0
WrongAt n rs t = (k : ℕ) × RowWrong n rs k t

abbrev pub RowFound : ℕ → List Row → Type 0
RowFound n rs = FirstFound (WrongAt n rs) (λ t w. (w.0, t)) (table_fault n rs)
