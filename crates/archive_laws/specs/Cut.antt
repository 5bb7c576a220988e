-- A walk along the vectors that a list is cut into, at the index of the next one: so many are left. Main definition: Left.
use Rattle.std.specs.Prelude.{◌≡◌, List, ℕ, ◌+◌, ◌*◌, ◌≤◌, length}

-- behind the index there are so many vectors of n entries, and nothing else
pub record Left (n : ℕ) (xs : List ℕ) (at left : ℕ) : Type 0 where
  pub some_leaf : 1 ≤ n
  pub whole : length xs ≡ at + left * n
