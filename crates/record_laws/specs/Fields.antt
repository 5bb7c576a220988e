-- The fields of entries in a row: where each starts, and that entries and their fields give each other. Main definitions: entries_from.
use Rattle.std.specs.Prelude.{List, ℕ, ◌+◌, ◌-◌, ◌^◌, ◌<◌, length, get_or}
use Rattle.rules.specs.Order.{listed}
use Rattle.rules.specs.Record.{width, total}
use Rattle.record_laws.specs.Window.{value_at}

-- entry i of entries whose fields start at a bit
unfoldable pub entry_from : ℕ → List ℕ → ℕ → ℕ
unfolding value_at
entry_from start s i = value_at s (start + (total i - 11)) (width i)

-- the n entries whose fields start at a bit
unfoldable pub entries_from : ℕ → ℕ → List ℕ → List ℕ
unfolding entry_from
entries_from start n s = listed n (entry_from start s)

-- each entry within the bits of its field
unfoldable pub Fit : List ℕ → Type 0
Fit v = (k : ℕ) → k < length v → get_or v k 0 < 2 ^ width k
