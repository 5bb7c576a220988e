-- The names that are left and their nodes, from one row to the next: the merge's smaller name gets the new node, the others keep theirs.
-- Main results: nodes_follow, rows_count_up.
use Rattle.std.specs.Prelude.{◌≡◌, refl, ◌≢◌, Bool, true, false, cond, List, [], ◌∷◌, ℕ, ◌+◌, eqb}
use Rattle.std.proofs.Common.{sym, subst, eqb-true}
use Rattle.std.proofs.lemmas.Bool.{eqb-false}
use Rattle.rules.specs.Building.{Merge}
use Rattle.rules.specs.Table.{rows_from}
use Rattle.merging.specs.Named.{named}
use Rattle.merging.proofs.Named.{still_named}
use Rattle.written_tables.specs.Nodes.{CountUp}
use Rattle.written_tables.specs.Rows.{renumber}

-- What holds of each name and its node before the row, Q, becomes what holds after it, R.
pub nodes_follow : (Q R : ℕ → ℕ → Type 0) (m : Merge) (P : List Merge) (p : ℕ) (number : ℕ → ℕ) → ((x : ℕ) → named (m ∷ P) x ≡ true → Q x (number x)) → R m.0 p
    → ((x : ℕ) → named P x ≡ true → x ≢ m.0 → Q x (number x) → R x (number x)) → (x : ℕ) → named P x ≡ true → R x (renumber number m.0 p x)
nodes_follow Q R m P p number before new kept x h = go (eqb x m.0) refl
  where
    go : (b : Bool) → eqb x m.0 ≡ b → R x (cond b p (number x))
    go true e = subst (λ (y : ℕ). R y p) (sym (eqb-true x m.0 e)) new
    go false e = kept x h (eqb-false x m.0 e) (before x (still_named m P x h))

-- the rows of merges have parents that count up
pub rows_count_up : (p : ℕ) (number : ℕ → ℕ) (P : List Merge) → CountUp p (rows_from p number P)
unfolding CountUp rows_from
rows_count_up p number [] = tt
rows_count_up p number (m ∷ P) = (refl, rows_count_up (p + 1) (renumber number m.0 p) P)
