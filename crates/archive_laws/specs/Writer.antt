-- What the writer takes: exactly the entries of valid vectors of n entries, and no more than 2,097,151 of these.
use Rattle.std.specs.Prelude.{List, ℕ, ◌≤◌, length}
use Rattle.rules.specs.CallWriteArchive.{most_trees}
use Rattle.archive_laws.specs.Written.{Trees}

-- vectors that go into one archive
pub record Run (n : ℕ) (vs : List (List ℕ)) : Type 0 where
  pub some_leaf : 1 ≤ n
  pub few_leaves : n ≤ 1024
  pub trees : Trees n vs
  pub few : length vs ≤ most_trees
