-- The calls that begin from a vector: when they refuse with 1 or 4, and when they go on. Main definition: Seen.
use Rattle.std.specs.Prelude.{List, ◌≡◌, ℕ}
use Rattle.rules.specs.Vector.{Vector}
use Rattle.rules.specs.Answer.{Making, refuses}
use Rattle.rules.specs.Guards.{from_vector}

-- A vector is refused by every call that begins from one, or it is accepted and the call goes on.
pub data Seen (v : List ℕ) : Type 1 where
  faulty : (number place : ℕ) → ((W : Type 0) (m : Making W) → from_vector v m ≡ refuses number place) → Seen v
  sound : Vector v → ((W : Type 0) (m : Making W) → from_vector v m ≡ m) → Seen v
