-- How many bytes belong to the record at the front of bytes. Main definition: bytes_wanted.
use Rattle.std.specs.Prelude.{cond, ◌||◌, List, ℕ, eqb, ltb, length}
use Rattle.rules.specs.Record.{leaf_count, record_length}

-- "Input that ends inside a record is 2, with the length wanted: 2 where a single byte is left, else the record's length, after 1 for
-- its n." What is refused with 1 is refused by its first two bytes.
unfoldable pub bytes_wanted : List ℕ → ℕ
unfolding leaf_count record_length
bytes_wanted s =
    cond (ltb (length s) 2) 2 (cond (eqb (leaf_count s) 0 || ltb 1024 (leaf_count s)) 2 (record_length (leaf_count s)))
