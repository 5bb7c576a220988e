-- The table by passes: each finds a batch, the K least leaf sets above a bound. Main definitions: above, batch.
use Rattle.std.specs.Prelude.{cond, List, [], ◌∷◌, ℕ, ltb, take}
use Rattle.rules.specs.declared.Clade.{Clade as Entry}

-- the entries with leaf sets above b
unfoldable pub above : ℕ → List Entry → List Entry
above b [] = []
above b (e ∷ es) = cond (ltb b e.leaves) (e ∷ above b es) (above b es)

-- the K least above b
unfoldable pub batch : ℕ → ℕ → List Entry → List Entry
unfolding above
batch K b es = take K (above b es)
