-- Bytes that are written from a place on, one behind another.
-- Main definitions: Wrote. Main results: wrote_same, wrote_both, wrote_behind, wrote_one.
use Rattle.std.specs.Prelude.{List, [], ◌∷◌, ◌++◌, ◌≡◌, refl, ℕ, ◌+◌, length, set}
use Rattle.std.proofs.Common.{sym, ap, ap₂, ◌∙◌, arith, add-one, length-append}
use Rattle.std.proofs.lemmas.List.Edits.{sets}
use Rattle.std.proofs.Math.Seq.{length-sets}
use Rattle.grammar.proofs.Stores.{sets_append}

-- the bytes stand from a place on, and what follows begins at r
pub record Wrote (bytes : List ℕ) (at : ℕ) (before after : List ℕ) (r : ℕ) : Type 0 where
  pub end : r ≡ at + length bytes
  pub bytes_there : after ≡ sets before at bytes

module _ {l l₁ u : List ℕ} {at x : ℕ} (W : Wrote u at l l₁ x) where
  pub wrote_same : length l₁ ≡ length l
  wrote_same = ap length W.bytes_there ∙ length-sets l at u

  pub wrote_both : {l₂ w : List ℕ} {r : ℕ} → Wrote w x l₁ l₂ r → Wrote (u ++ w) at l l₂ r
  wrote_both {l₂} {w} {r} b =
      record {
        end = omega (arith, W.end, b.end, length-append u w);
        bytes_there = b.bytes_there ∙ ap₂ (λ (m : List ℕ) (k : ℕ). sets m k w) W.bytes_there W.end ∙ sym (sets_append l at u w);
      }

  -- bytes behind a sign
  pub wrote_behind : {l₂ w : List ℕ} {r : ℕ} (c : ℕ) → Wrote w (x + 1) (set l₁ x c) l₂ r → Wrote (u ++ (c ∷ w)) at l l₂ r
  wrote_behind {l₂} {w} {r} c b =
      wrote_both (record {
        end = omega (arith, b.end);
        bytes_there = b.bytes_there ∙ ap (λ (k : ℕ). sets (set l₁ x c) k w) (add-one x);
      })

  -- a sign
  pub wrote_one : (c : ℕ) → Wrote (u ++ (c ∷ [])) at l (set l₁ x c) (x + 1)
  wrote_one c = wrote_both (record { end = refl; bytes_there = refl })
