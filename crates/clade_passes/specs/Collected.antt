-- One pass over the leaf sets of all trees: "insert, or count one more; drop the largest above K" gives the K least above a bound, with their counts.
-- Main definitions: add_entry, tallied, collected, times.
use Rattle.std.specs.Prelude.{cond, List, [], ◌∷◌, ℕ, ◌+◌, eqb, ltb, take}
use Rattle.std.specs.Int.Count.{ones}
use Rattle.rules.specs.declared.Clade.{Clade as Entry}

-- a new entry, and one more
unfoldable pub new_entry : ℕ → Entry
new_entry m = record { leaves = m; size = ones m; count = 1 }

unfoldable pub one_more : Entry → Entry
one_more e = record { leaves = e.leaves; size = e.size; count = e.count + 1 }

-- one leaf set more: its count goes up by one, or it comes in at its place with the count 1
unfoldable pub add_entry : ℕ → List Entry → List Entry
unfolding new_entry one_more
add_entry m [] = new_entry m ∷ []
add_entry m (e ∷ es) = cond (ltb e.leaves m) (e ∷ add_entry m es) (cond (eqb e.leaves m) (one_more e ∷ es) (new_entry m ∷ e ∷ es))

-- the leaf sets of a list added one after the other
unfoldable pub tallied : List Entry → List ℕ → List Entry
unfolding add_entry
tallied es [] = es
tallied es (m ∷ l) = tallied (add_entry m es) l

-- the same of those above b, into K places
unfoldable pub collected : ℕ → ℕ → List Entry → List ℕ → List Entry
unfolding add_entry
collected K b es [] = es
collected K b es (m ∷ l) = collected K b (cond (ltb b m) (take K (add_entry m es)) es) l

-- how often a number stands in a list
unfoldable pub times : ℕ → List ℕ → ℕ
times x [] = 0
times x (m ∷ l) = cond (eqb x m) 1 0 + times x l
