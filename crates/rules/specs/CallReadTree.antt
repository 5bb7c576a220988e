-- The reader of tree r of an archive: "2 under 4 bytes (place 4), 1, 2 when the length is not the implied one (place: that length), 12 when r
-- is not below the count (place r), then 4 and 10 with 01's places within the record, then 3".
-- Main definitions: read_tree, read_tree_call.
use Rattle.std.specs.Prelude.{List, ℕ, ◌-◌, length}
use Rattle.rules.specs.Record.{leaf_count}
use Rattle.rules.specs.Archive.{trees_in, bare_length, packed_at, framed}
use Rattle.rules.specs.Answer.{Made}
use Rattle.rules.specs.CallUnpack.{from_bits}
use Rattle.rules.specs.Promise.{Call, makes, list}

unfoldable pub read_tree : List ℕ → ℕ → Made
unfolding framed leaf_count trees_in from_bits bare_length packed_at
read_tree s r =
    framed (length s) (leaf_count s) (trees_in s) r (from_bits (leaf_count s) (bare_length (leaf_count s) - 1) (packed_at (leaf_count s) s r))

abbrev pub read_tree_call : List ℕ → ℕ → Call (List ℕ) (List ℕ)
read_tree_call s r = makes list (read_tree s r)
