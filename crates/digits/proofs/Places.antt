-- A number by its digits, one or two at a time.
-- Main results: wrote_1 to wrote_4.
use mathlib.Core.Path.{◌≡◌, refl, ap, sym, ◌∙◌}
use mathlib.Core.List.{List, [], ◌∷◌, ◌++◌}
use Prim.Native.Nat.{ℕ, ◌+◌}
use native.Mathlib.Numerals.{add-one}
use lib.ListN.{set}
use lib.Seq.{sets}
use Rattle.grammar.specs.Decimal.{two_digits}
use Rattle.grammar.proofs.Stores.{sets_append}
use Rattle.digits.specs.Wrote.{Wrote}

module _ (l : List ℕ) (at : ℕ) (w : List ℕ) where
  pub wrote_1 : (a : ℕ) → w ≡ a ∷ [] → Wrote w at l (set l at a) (at + 1)
  wrote_1 a e = rw e (record { end = refl; bytes_there = refl })

  pub wrote_2 : (x : ℕ) (l₁ : List ℕ) → w ≡ two_digits x → l₁ ≡ sets l at (two_digits x) → Wrote w at l l₁ (at + 2)
  wrote_2 x l₁ e a = rw e (record { end = refl; bytes_there = a })

  pub wrote_3 : (a x : ℕ) (l₁ : List ℕ) → w ≡ a ∷ two_digits x → l₁ ≡ sets (set l at a) (at + 1) (two_digits x) → Wrote w at l l₁ (at + 3)
  wrote_3 a x l₁ e b = rw e (record { end = refl; bytes_there = rw add-one at b })

  pub wrote_4 : (x y : ℕ) (l₁ l₂ : List ℕ) → w ≡ two_digits x ++ two_digits y → l₁ ≡ sets l at (two_digits x) → l₂ ≡ sets l₁ (at + 2) (two_digits y)
      → Wrote w at l l₂ (at + 4)
  wrote_4 x y l₁ l₂ e a b =
      rw e (record { end = refl; bytes_there = b ∙ ap (λ (m : List ℕ). sets m (at + 2) (two_digits y)) a ∙ sym (sets_append l at (two_digits x) (two_digits y)) })
