-- A walk down a list, which tests each element with what it gathered from those before it, is a search over the list's places. Main definitions:
-- Walk, gathered.
use mathlib.Core.List.{List, [], ◌∷◌}
use Rattle.std.specs.Prelude.{◌≡◌, ℕ, zero, suc, ◌+◌, get_or}
use Rattle.std.proofs.Math.Option.{Option, none}
use Rattle.searching.specs.First.{or_else}

-- what is gathered from the first i elements; past the list the elements are all `past`
unfoldable pub gathered : {S A : Type 0} → (S → A → S) → A → S → List A → ℕ → S
gathered next past s xs zero = s
gathered next past s xs (suc i) = next (gathered next past s xs i) (get_or xs i past)

-- A walk from place k on: each element is tested, with its place and what was gathered before it; the first test that says something counts.
pub record Walk {S A B : Type 0} (test : ℕ → S → A → Option B) (next : S → A → S) (walk : ℕ → S → List A → Option B) : Type 0 where
  pub at_end : (k : ℕ) (s : S) → walk k s [] ≡ none
  pub at_each : (k : ℕ) (s : S) (x : A) (xs : List A) → walk k s (x ∷ xs) ≡ or_else (test k s x) (walk (k + 1) (next s x) xs)
