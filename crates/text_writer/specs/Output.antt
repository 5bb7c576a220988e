-- What the writer of a Newick text takes and leaves.
-- Main definitions: sign_places, Stands, Ordered, NodeWords, NodeRoom, TextRoom.
use Rattle.std.specs.Prelude.{◌≡◌, List, ◌++◌, ℕ, ◌+◌, ◌-◌, ◌*◌, ◌≤◌, ◌<◌, length, get_or, take}
use Rattle.rules.specs.Newick.{node_text, text_of}
use Rattle.rules.specs.Tree.{least}
use Rattle.written_tables.specs.Tied.{tree_at, whole_tree}
use Rattle.label_words.specs.Leaves.{LeafWords}

-- how many bytes the array has that a text is written to
abbrev pub sign_places : ℕ
sign_places = 6144

-- the bytes stand behind what stood before a place, and what follows begins at r; what stands there is not said
pub record Stands (bytes : List ℕ) (at : ℕ) (before after : List ℕ) (r : ℕ) : Type 0 where
  pub end : r ≡ at + length bytes
  pub whole : length after ≡ length before
  pub front : take r after ≡ take at before ++ bytes

-- the children of n-1 rows: each stands before its row's node, the child with the smaller least leaf first
pub record Ordered (n : ℕ) (left right : List ℕ) : Type 0 where
  pub some_leaf : 1 ≤ n
  pub few : n ≤ 1024
  pub lefts_there : n - 1 ≤ length left
  pub rights_there : n - 1 ≤ length right
  pub left_below : (j : ℕ) → j < n - 1 → get_or left j 0 < n + j
  pub right_below : (j : ℕ) → j < n - 1 → get_or right j 0 < n + j
  pub smaller_first : (j : ℕ) → j < n - 1 → least (tree_at n left right (get_or left j 0)) < least (tree_at n left right (get_or right j 0))

-- the words of the nodes of these rows
pub record NodeWords (n : ℕ) (left right words : List ℕ) : Type 0 where
  pub rows : Ordered n left right
  pub leaf_words : LeafWords n words
  pub pair_word : (j : ℕ) → j < n - 1 → get_or words (n + j) 0 ≡ get_or left j 0 + 65536 * get_or right j 0

-- a node of these rows, and room for its text from a place on, with three bytes that may be written over
pub record NodeRoom (n : ℕ) (left right words : List ℕ) (node at : ℕ) : Type 0 where
  pub given : NodeWords n left right words
  pub there : node < n + (n - 1)
  pub room : at + length (node_text (tree_at n left right node)) + 3 ≤ sign_places

-- and so for the whole text
pub record TextRoom (n : ℕ) (left right words : List ℕ) : Type 0 where
  pub given : NodeWords n left right words
  pub room : length (text_of (whole_tree n left right)) + 3 ≤ sign_places
