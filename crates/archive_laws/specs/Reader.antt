-- What the reader of tree r makes, and which part the view is: by the frame, and then by the bits of record r. Main definition: HasTree.
use Rattle.std.specs.Prelude.{List, length}
use Prim.Native.Nat.{ℕ}
use Rattle.rules.specs.Record.{leaf_count}
use Rattle.rules.specs.Archive.{trees_in}
use Rattle.archive_laws.specs.Framed.{Framed, FrameRefused}

-- the archive has a tree r
abbrev pub HasTree : List ℕ → ℕ → Type 0
HasTree s r = Framed (length s) (leaf_count s) (trees_in s) r

-- it has none, and this is why
abbrev pub NoTree : List ℕ → ℕ → ℕ → ℕ → Type 0
NoTree s r k p = FrameRefused (length s) (leaf_count s) (trees_in s) r k p
