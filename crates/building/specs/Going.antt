-- The building rule always goes on: while two clusters are left some leaf can merge, and after n-1 steps one is left, named 0. Main definitions:
-- after.
use Rattle.std.specs.Prelude.{List, [], ◌∷◌}
use Rattle.rules.specs.Building.{Merge, State, merge}

-- the state after some merges
unfoldable pub after : List Merge → State → State
unfolding merge
after [] s = s
after (m ∷ P) s = after P (merge s m)
