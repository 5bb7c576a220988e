-- "Of one number, the first place counts": the first of any number of places at which something is wrong, and what is said of it. Main definitions:
-- Tells, first_below, FirstFound.
use Rattle.std.specs.Prelude.{◌≡◌, ℕ, zero, suc, ◌<◌}
use Rattle.std.proofs.Math.Option.{Option, none, some}
use Rattle.rules.specs.First.{First}

-- what the test of one place tells: what is to be said of the wrong that is there, or that there is none
pub data Tells {B : Type 0} (W : Type 0) (says : W → B) (o : Option B) : Type 0 where
  is_wrong : (w : W) → o ≡ some (says w) → Tells W says o
  is_right : o ≡ none → (W → ⊥) → Tells W says o

-- what one test says, and else what another one does
unfoldable pub or_else : {B : Type 0} → Option B → Option B → Option B
or_else none o = o
or_else (some b) o = some b

-- what the first of the tests 0 to n-1 says that says something
unfoldable pub first_below : {B : Type 0} → (ℕ → Option B) → ℕ → Option B
first_below test zero = none
first_below test (suc n) = or_else (first_below test n) (test n)

-- what a search has found: what is to be said of the first place that is wrong, or that none is
pub data FirstFound {B : Type 0} (Wrong : ℕ → Type 0) (says : (i : ℕ) → Wrong i → B) (o : Option B) : Type 0 where
  first_at : (i : ℕ) (f : First Wrong i) → o ≡ some (says i f.0) → FirstFound Wrong says o
  nowhere : o ≡ none → ((j : ℕ) → Wrong j → ⊥) → FirstFound Wrong says o

-- a place below n, at which something is wrong
abbrev pub Below : ℕ → (ℕ → Type 0) → ℕ → Type 0
Below n Wrong i = (i < n) × Wrong i
