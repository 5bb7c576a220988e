-- The buffers that are lent to a call, as lists: none, one or two. What is said of each buffer of each call is said over these. Main definitions:
-- Shape, no_buffer, one_buffer, two_buffers.
use Rattle.std.specs.Prelude.{List, [], ◌∷◌, ℕ, ◌≤◌, length}
use Rattle.std.proofs.Common.{arith}
use Rattle.rules.specs.declared.Clade.{Clade}
use Rattle.rules.specs.Promise.{Buffers, none, list, lists}

-- what each buffer holds, in numbers; how a list is lent in each; and that there is room where the list is long enough
pub record Shape {L W : Type 0} (B : Buffers L W) : Type 0 where
  pub each : L → List (List ℕ)
  pub lend : List ℕ → L
  pub fits : (x : W) (b : List ℕ) → B.count x ≤ length b → B.count x ≤ B.room (lend b)

abbrev pub no_buffer : Shape none
no_buffer = record { each = λ old. []; lend = λ b. tt; fits = λ x b h. omega arith }

abbrev pub one_buffer : Shape (list {A = ℕ})
one_buffer = record { each = λ old. old ∷ []; lend = λ b. b; fits = λ x b h. h }

abbrev pub two_buffers : Shape (lists {A = ℕ} {B = ℕ})
two_buffers = record { each = λ old. old.0 ∷ old.1 ∷ []; lend = λ b. (b, b); fits = λ x b h. omega arith }

-- entries as numbers: of each its leaf set, its size and its count
unfoldable pub flat : List Clade → List ℕ
flat [] = []
flat (e ∷ es) = e.leaves ∷ e.size ∷ e.count ∷ flat es

-- an entry for each number
unfoldable pub blank : List ℕ → List Clade
blank [] = []
blank (x ∷ b) = record { leaves = x; size = x; count = x } ∷ blank b
