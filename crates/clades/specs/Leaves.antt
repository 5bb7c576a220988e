-- The leaves of a tree: its least leaf is one of them and at most each, and a leaf is not a fork. Main definition: Inside.
use Rattle.std.specs.Prelude.{◌≡◌, true, ℕ}
use Rattle.rules.specs.Tree.{Tree, has}

-- every leaf of t is one of u
unfoldable pub Inside : Tree → Tree → Type 0
Inside t u = (x : ℕ) → has t x ≡ true → has u x ≡ true
