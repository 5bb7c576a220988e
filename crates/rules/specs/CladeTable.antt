-- CR 4, the clade table of trees: "one entry for each different clade of two leaves or more, its leaf set as a 64-bit number (leaf x is bit x),
-- its size, and in how many trees it occurs. Entries rise by leaf set."
-- Main definitions: leaf_set, inner, occurs, entry_of, rising, clade_table, trees_of.
use Rattle.std.specs.Prelude.{cond, List, [], ◌∷◌, ◌++◌, ℕ, ◌+◌, ◌^◌, eqb, ltb}
use Rattle.std.specs.Int.Count.{ones}
use Rattle.rules.specs.declared.Clade.{Clade as Entry}
use Rattle.rules.specs.Building.{member}
use Rattle.rules.specs.Tree.{Tree, leaf, node, tree_of}

-- "its leaf set as a 64-bit number (leaf x is bit x)": the sum of 2^x over its leaves
unfoldable pub leaf_set : Tree → ℕ
leaf_set (leaf x) = 2 ^ x
leaf_set (node l r) = leaf_set l + leaf_set r

-- the leaf sets of the clades "of two leaves or more": of the nodes that are pairs
unfoldable pub inner : Tree → List ℕ
unfolding leaf_set
inner (leaf x) = []
inner (node l r) = leaf_set (node l r) ∷ inner l ++ inner r

-- "in how many trees it occurs", "defined from the trees and not from the table"
unfoldable pub occurs : ℕ → List Tree → ℕ
unfolding inner member
occurs m [] = 0
occurs m (t ∷ ts) = cond (member m (inner t)) 1 0 + occurs m ts

-- the entry of a leaf set; its size is how many bits are set
unfoldable pub entry_of : List Tree → ℕ → Entry
unfolding occurs ones
entry_of ts m = record { leaves = m; size = ones m; count = occurs m ts }

-- a number at its place in a rising list, unless it is there
unfoldable pub put : ℕ → List ℕ → List ℕ
put m [] = m ∷ []
put m (k ∷ l) = cond (ltb m k) (m ∷ k ∷ l) (cond (eqb m k) (k ∷ l) (k ∷ put m l))

-- the different numbers of a list, rising
unfoldable pub rising : List ℕ → List ℕ
unfolding put
rising [] = []
rising (m ∷ l) = put m (rising l)

-- the leaf sets of all trees, tree after tree
unfoldable pub all_inner : List Tree → List ℕ
unfolding inner
all_inner [] = []
all_inner (t ∷ ts) = inner t ++ all_inner ts

-- the entries of some leaf sets
unfoldable pub entries : List Tree → List ℕ → List Entry
unfolding entry_of
entries ts [] = []
entries ts (m ∷ l) = entry_of ts m ∷ entries ts l

-- "one entry for each different clade of two leaves or more .. Entries rise by leaf set."
unfoldable pub clade_table : List Tree → List Entry
unfolding entries rising all_inner
clade_table ts = entries ts (rising (all_inner ts))

-- the trees of vectors
unfoldable pub trees_of : List (List ℕ) → List Tree
unfolding tree_of
trees_of [] = []
trees_of (v ∷ vs) = tree_of v ∷ trees_of vs
