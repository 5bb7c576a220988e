-- An answer as the numbers that a C function hands back, and the promise of a C function.
-- Main definitions: coded, Hands.
use Rattle.std.specs.Prelude.{List, [], ◌∷◌, ◌≡◌, ℕ}
use Rattle.rules.specs.declared.Answer.{Answer}
use Rattle.rules.specs.Answer.{Outcome, done, refused, reads}
use Rattle.rules.specs.Promise.{Call, Keeps}

-- 0 and the count, or the refusal's number and its place
unfoldable pub coded : Outcome → List ℕ
coded (done k) = 0 ∷ k ∷ []
coded (refused number place) = number ∷ place ∷ []

-- the call's promise, its answer in these numbers
pub record Hands {Lent Written : Type 0} (c : Call Lent Written) (old : Lent) (back : List ℕ) (new : Lent) : Type 0 where
  pub given : Answer
  pub kept : Keeps c old given new
  pub numbers : back ≡ coded (reads given)
