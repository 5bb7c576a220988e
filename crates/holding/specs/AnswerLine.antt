-- The line that the listing program writes, by what unpacking a record's bytes answers: that of the vector, or the refusal. Main definitions:
-- VectorFirst, answer_line.
use Rattle.std.specs.Prelude.{List, ◌≡◌, ℕ, ◌≤◌, take}
use Rattle.std.proofs.Math.ListN.{length}
use Rattle.rules.specs.Answer.{Outcome, done, refused, Made, made, refuses}
use Rattle.rules.specs.Listing.{line_of}
use Rattle.rules.specs.Vector.{Vector}

-- what stands at the front of the buffer where unpacking is done: a vector that every call accepts
pub record VectorFirst (vector : List ℕ) (n : ℕ) : Type 0 where
  pub accepted : Vector (take n vector)
  pub within : n ≤ length vector
  pub count : n ≡ length (take n vector)

-- what is made of the answer and of the buffer: the vector's line, or the refusal
unfoldable pub answer_line : Outcome → List ℕ → Made
unfolding line_of
answer_line (done n) vector = made (line_of (take n vector))
answer_line (refused number place) vector = refuses number place
