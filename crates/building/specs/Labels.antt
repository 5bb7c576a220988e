-- What a leaf calls the clusters it sees: the next label is the smallest it has not used, and no two clusters have the same. Main definitions:
-- Reached.
use Rattle.std.specs.Prelude.{◌≡◌, true, cond, List, [], ◌∷◌, ℕ, ◌+◌, ◌<◌, ltb}
use Rattle.std.proofs.Math.Option.{some}
use Rattle.rules.specs.Building.{Merge, State, start, member, next, merge}

-- how many numbers of the list are x or more
unfoldable pub at_least : ℕ → List ℕ → ℕ
at_least x [] = 0
at_least x (y ∷ ys) = cond (ltb y x) 0 1 + at_least x ys

-- The states that n leaves with the entries v come to: the start, and the state after the next merge.
pub data Reached (v : ℕ → ℕ) (n : ℕ) : State → Type 0 where
  starts : Reached v n (start n)
  goes : {s : State} {m : Merge} → Reached v n s → next v s n ≡ some m → Reached v n (merge s m)

-- what a leaf calls the clusters that it sees: labels that it has used, and for no two clusters the same
pub record Apart (s : State) : Type 0 where
  pub known : (j c : ℕ) → c < j → member (s.label j c) (s.used j) ≡ true
  pub apart : (j b c : ℕ) → b < j → c < j → s.label j b ≡ s.label j c → b ≡ c
