-- What the readers of a text ask and answer: where one may begin, and what it leaves where it reads a label, a tree, or breaks off.
-- Main definitions: Same, recorded, MayBegin, Labelled, Took, Broke, Answers, TextTook.
use Rattle.std.specs.Prelude.{◌≡◌, List, ◌⊎◌, ℕ, ◌+◌, ◌-◌, ◌*◌, ◌≤◌, ◌<◌, length, drop, get_or}
use Rattle.rules.specs.Newick.{Text}
use Rattle.rules.specs.Tree.{Tree, leaf, node}
use Rattle.grammar.specs.Reading.{Reader, read, broken, label_read}
use Rattle.grammar.specs.Pairs.{pair_count}
use Rattle.text_laws.specs.Cells.{cell, leaf_in, opened, pair_in, shut, begun}

-- the bytes of a text, with zeros behind them
abbrev pub Same : List ℕ → List ℕ → Type 0
Same signs s = (k : ℕ) → get_or signs k 0 ≡ get_or s k 0

-- the array once a tree is read
unfoldable pub recorded : Tree → List ℕ → List ℕ
unfolding leaf_in opened pair_in shut
recorded (leaf x) m = leaf_in x m
recorded (node l r) m = shut (pair_in (cell (recorded l (opened m)) 0) (recorded r (recorded l (opened m))))

-- where a reader may begin: no more pairs are recorded than a fourth of the bytes passed
pub record MayBegin (signs s : List ℕ) (at : ℕ) (m : List ℕ) : Type 0 where
  pub same : Same signs s
  pub short : length s ≤ 6056
  pub within : at ≤ length s
  pub room : length m ≡ 2576
  pub low : 16384 ≤ cell m 4
  pub pairs : 4 * (cell m 4 - 16384) ≤ at
  pub some_depth : 1 ≤ cell m 8
  pub deep : cell m 8 ≤ 1024

-- a label is read
pub record Labelled (s : List ℕ) (at : ℕ) (m m' : List ℕ) (r : ℕ) : Type 0 where
  pub value : ℕ
  pub small : value < 10000
  pub ahead : at < r
  pub within : r ≤ length s
  pub reads : label_read (drop at s) ≡ read (drop r s) (leaf value)
  pub there : m' ≡ leaf_in value m

-- a tree is read, and recorded
pub record Took (f : Reader) (s : List ℕ) (at : ℕ) (m m' : List ℕ) (r : ℕ) : Type 0 where
  pub tree : Tree
  pub reads : f (drop at s) ≡ read (drop r s) tree
  pub ahead : at + 4 * pair_count tree + 1 ≤ r
  pub within : r ≤ length s
  pub there : m' ≡ recorded tree m
  pub room : length m' ≡ 2576
  pub child : cell m' 0 < 32768
  pub next : cell m' 4 ≡ cell m 4 + pair_count tree
  pub depth : cell m' 8 ≡ cell m 8

-- the bytes break off
pub record Broke (f : Reader) (s : List ℕ) (at : ℕ) (m' : List ℕ) (r : ℕ) : Type 0 where
  pub off : r ≡ 6143
  pub within : cell m' 12 ≤ length s
  pub breaks : f (drop at s) ≡ broken (drop (cell m' 12) s)

-- what the node reader and the pair reader answer
abbrev pub Answers : Reader → List ℕ → ℕ → List ℕ → List ℕ → ℕ → Type 0
Answers f s at m m' r = Took f s at m m' r ⊎ Broke f s at m' r

-- a text of n leaves is read
pub record TextTook (s m m' : List ℕ) (n : ℕ) : Type 0 where
  pub tree : Tree
  pub reads_as : Text s tree
  pub leaves : n ≡ pair_count tree + 1
  pub there : m' ≡ recorded tree (begun m)
