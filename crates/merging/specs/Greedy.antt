-- The greedy order of a list of merges: each is, of those that wait for nothing before them, the one with the greatest larger name. Main definitions:
-- touch, free, Ahead, Greedy, Under.
use Rattle.std.specs.Prelude.{◌≡◌, Bool, true, not, ◌&&◌, ◌||◌, List, [], ◌∷◌, ℕ, ◌<◌, eqb}
use Rattle.rules.specs.Building.{Merge}

-- q and p have a cluster's name in common
unfoldable pub touch : Merge → Merge → Bool
touch q p = eqb q.0 p.0 || eqb q.0 p.1 || eqb q.1 p.0 || eqb q.1 p.1

-- no pair of Q has a name in common with p
unfoldable pub free : List Merge → Merge → Bool
unfolding touch
free [] p = true
free (q ∷ Q) p = not (touch q p) && free Q p

-- Q is still to be merged before R: of R's pairs, those that wait for nothing have a larger name below i
unfoldable pub Ahead : ℕ → List Merge → List Merge → Type 0
unfolding free
Ahead i Q [] = Unit {0}
Ahead i Q (p ∷ R) = (free Q p ≡ true → p.1 < i) × Ahead i (p ∷ Q) R

-- each merge is, of those whose two clusters are complete, the one with the greatest larger name
unfoldable pub Greedy : List Merge → Type 0
unfolding Ahead
Greedy [] = Unit {0}
Greedy (m ∷ P) = Ahead m.1 (m ∷ []) P × Greedy P

-- all larger names are below n
unfoldable pub Under : ℕ → List Merge → Type 0
Under n [] = Unit {0}
Under n (m ∷ P) = (m.1 < n) × Under n P

-- the more there is before, the fewer are free
unfoldable pub More : List Merge → List Merge → Type 0
More Q Q' = (p : Merge) → free Q' p ≡ true → free Q p ≡ true
