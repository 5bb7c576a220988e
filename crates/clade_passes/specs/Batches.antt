-- The batches of a rising table by their numbers: batch j has the entries from j times K on. Main definition: batch_at.
use Rattle.std.specs.Prelude.{List, ℕ, ◌*◌, take, drop}
use Rattle.rules.specs.declared.Clade.{Clade as Entry}

-- batch j of K entries each
unfoldable pub batch_at : ℕ → ℕ → List Entry → List Entry
batch_at K j es = take K (drop (j * K) es)
