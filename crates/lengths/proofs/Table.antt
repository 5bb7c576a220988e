-- The step rule of a table of totals: each entry is the one before it and a width. A table that is made by the rule holds the totals.
-- Main definitions: steps. Main results: steps_at.
use mathlib.Core.Path.{◌≡◌, sym, ap, ◌∙◌}
use mathlib.Core.List.{List, [], ◌∷◌}
use Prim.Native.Nat.{ℕ, zero, suc, ◌+◌, ◌<◌}
use native.Mathlib.Nat.{add-zero}
use native.Mathlib.Omega.{arith}
use lib.ListN.{get_or}
use Rattle.rules.specs.Record.{width, total}

-- x, which is total i, and the k - 1 totals after it, by the step rule
unfoldable pub steps : ℕ → ℕ → ℕ → List ℕ
unfolding width
steps zero i x = []
steps (suc k) i x = x ∷ steps k (suc i) (x + width i)

pub steps_at : (k i j : ℕ) → j < k → get_or (steps k i (total i)) j 0 ≡ total (i + j)
unfolding steps total
steps_at zero i j h = absurd (omega arith)
steps_at (suc k) i zero h = sym (ap total (add-zero i))
steps_at (suc k) i (suc j) h = let e : suc i + j ≡ i + suc j = omega arith in steps_at k (suc i) j (omega arith) ∙ ap total e
