-- What is found of a row that is refused for its numbers.
-- Main definition: misplacement. Main results: of_parent, of_child.
use Rattle.std.specs.Prelude.{◌≡◌, ◌≢◌, cond, ℕ, eqb}
use Rattle.std.proofs.Common.{eq-eqb, ne_eqb}
use Rattle.row_checks.specs.declared.RowFault.{RowFault}
use Rattle.row_checks.specs.declared.RowFault.TheVariants.{Parent, Child}

-- of a row t whose parent is q and must be p, where its numbers are refused
unfoldable pub misplacement : ℕ → ℕ → ℕ → RowFault
misplacement p q t = cond (eqb q p) (Child t) (Parent t)

pub of_parent : (p q t : ℕ) → q ≢ p → Parent t ≡ misplacement p q t
unfolding misplacement
of_parent p q t h = rw (ne_eqb q p h)

pub of_child : (p q t : ℕ) → q ≡ p → Child t ≡ misplacement p q t
unfolding misplacement
of_child p q t h = rw (eq-eqb q p h)
