-- The view of record r: "the part of the lent archive that is record r, empty where the reader gives 1, 2 or 12". It is a part and no answer.
-- Main definitions: part_of, view.
use Rattle.std.specs.Prelude.{List, ℕ, length, take, drop}
use Rattle.rules.specs.Record.{leaf_count}
use Rattle.rules.specs.Archive.{trees_in, bare_length, implied_length, framed}
use Rattle.rules.specs.Answer.{Making, made, refuses}

-- a part of a list: the number of its first element, and how many it has; none of a refusal
unfoldable pub part_made : Making (ℕ × ℕ) → ℕ × ℕ
part_made (made part) = part
part_made (refuses number place) = (0, 0)

unfoldable pub part_of : List ℕ → ℕ → ℕ × ℕ
unfolding part_made framed leaf_count trees_in implied_length bare_length
part_of s r =
    part_made (framed (length s) (leaf_count s) (trees_in s) r (made (implied_length (leaf_count s) r, bare_length (leaf_count s))))

-- the bytes of the part
unfoldable pub view : List ℕ → ℕ → List ℕ
unfolding part_of
view s r = take (part_of s r).1 (drop (part_of s r).0 s)
