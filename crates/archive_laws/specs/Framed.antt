-- What comes before a look into a record of an archive: the archive's length, its n, its tree count and the tree's number. Main definitions: Framed
-- (there is a tree r), FrameRefused (else).
use Rattle.std.specs.Prelude.{◌≡◌, ◌≢◌, ◌⊎◌, ℕ, ◌≤◌, ◌<◌}
use Rattle.rules.specs.Archive.{implied_length}

-- an archive of its implied length that has a tree r
pub record Framed (size n count r : ℕ) : Type 0 where
  pub some_leaf : 1 ≤ n
  pub few : n ≤ 1024
  pub whole : size ≡ implied_length n count
  pub below : r < count

-- when the frame is refused, with which number and place
pub data FrameRefused (size n count r : ℕ) : ℕ → ℕ → Type 0 where
  short : size < 4 → FrameRefused size n count r 2 4
  leafless : 4 ≤ size → n ≡ 0 → FrameRefused size n count r 1 0
  crowded : 4 ≤ size → 1024 < n → FrameRefused size n count r 1 0
  unfit : 4 ≤ size → 1 ≤ n → n ≤ 1024 → size ≢ implied_length n count → FrameRefused size n count r 2 (implied_length n count)
  absent : 1 ≤ n → n ≤ 1024 → size ≡ implied_length n count → count ≤ r → FrameRefused size n count r 12 r

-- either there is a tree r, or the frame is refused
abbrev pub Frame : (size n count r : ℕ) → Type 0
Frame size n count r = Framed size n count r ⊎ ((k : ℕ) × (p : ℕ) × FrameRefused size n count r k p)
