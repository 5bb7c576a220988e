-- The array that what is read of a text goes to: its cells, and what each store leaves of them. Main definitions: cell, leaf_in, opened, pair_in,
-- shut, broken_in, begun, Closing.
use Rattle.std.specs.Prelude.{◌≡◌, List, ℕ, ◌+◌, ◌-◌, ◌*◌, ◌≤◌, ◌<◌, get_or}
use Rattle.std.proofs.Math.Bool.{cond}
use Rattle.std.proofs.Math.Dec.{eqb, ltb}
use Rattle.std.proofs.Math.ListN.{set}

-- The cells of the array m: 0 has the node that was read last, 4 the pair that closes next, 8 how many brackets may still open and one,
-- 12 where the bytes break off; the marks of the labels stand from 16 on, the pairs from 1040 on. Pairs are numbered from 16,384 on.
abbrev pub cell : List ℕ → ℕ → ℕ
cell m i = get_or m i 0

-- an array of zeros
abbrev pub AllZero : List ℕ → Type 0
AllZero m = (k : ℕ) → cell m k ≡ 0

-- a label is read: it is the last node, and marked where it is below 1,024
unfoldable pub leaf_in : ℕ → List ℕ → List ℕ
leaf_in x m = cond (ltb x 1024) (set (set m 0 x) (16 + x) 1) (set m 0 x)

-- one bracket more is open
unfoldable pub opened : List ℕ → List ℕ
opened m = set m 8 (cell m 8 - 1)

-- a pair of a first child and the last node is closed, and is the last node
unfoldable pub pair_in : ℕ → List ℕ → List ℕ
pair_in first m = set (set (set m (1040 + (cell m 4 - 16384)) (first * 65536 + cell m 0)) 0 (cell m 4)) 4 (cell m 4 + 1)

-- one bracket less is open
unfoldable pub shut : List ℕ → List ℕ
shut m = set m 8 (cell m 8 + 1)

-- the array once the bytes break off at a place; 6,143 says that they broke off before
unfoldable pub broken_in : ℕ → List ℕ → List ℕ
broken_in at m = cond (eqb at 6143) m (set m 12 at)

-- the array before a text is read
abbrev pub begun : List ℕ → List ℕ
begun m = set (set m 4 16384) 8 1024

-- what closing a pair asks
pub record Closing (first : ℕ) (m : List ℕ) : Type 0 where
  pub first_child : first < 32768
  pub second_child : cell m 0 < 32768
  pub low : 16384 ≤ cell m 4
  pub few : cell m 4 ≤ 17900
