-- The vector: its entries, their bounds, and the first entry above its bound.
-- Main definitions: entry, bound, Valid, Vector, fault.
use Rattle.std.specs.Prelude.{cond, List, [], ◌∷◌, ℕ, ◌+◌, ◌-◌, ◌*◌, ◌≤◌, ◌<◌, ltb, length, get_or}
use Rattle.std.proofs.Math.Option.{Option, none, some}

-- v(i)
unfoldable pub entry : List ℕ → ℕ → ℕ
entry v i = get_or v i 0

-- "v(0)=0 and 0 <= v(i) <= 2(i-1) for i from 1"; here 0 - 1 is 0, so that v(0) has the bound 0
unfoldable pub bound : ℕ → ℕ
bound i = 2 * (i - 1)

-- "A vector has n entries": at least one, and each within its bound
pub record Valid (v : List ℕ) : Type 0 where
  pub some_leaf : 1 ≤ length v
  pub bounded : (i : ℕ) → i < length v → entry v i ≤ bound i

-- a vector that is accepted: of no "leaf count 0 or above 1,024", and each entry within its bound
pub record Vector (v : List ℕ) : Type 0 where
  pub valid : Valid v
  pub few : length v ≤ 1024

-- the place of refusal 4: the first entry above its bound, where the first of these entries is number i
unfoldable pub fault : ℕ → List ℕ → Option ℕ
unfolding bound
fault i [] = none
fault i (x ∷ v) = cond (ltb (bound i) x) (some i) (fault (i + 1) v)
