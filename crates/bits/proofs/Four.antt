-- Four fields of one width in one word: the last stands at the low end, and each shift by the width brings the one before it there.
-- Main results: four_values, four_there.
use mathlib.Core.Path.{◌≡◌, sym, ap, ◌∙◌}
use mathlib.Core.List.{List}
use Prim.Native.Nat.{ℕ, ◌+◌, ◌-◌, ◌*◌, ◌/◌, ◌%◌, ◌<◌, ◌≤◌, ◌^◌}
use native.Mathlib.Nat.{div-one}
use native.Mathlib.Omega.{arith}
use lib.ListN.{length, get_or, set}
use lib.Pow.{shr-shr}
use Rattle.record_laws.specs.Window.{value_at, word_at}
use Rattle.record_laws.proofs.Window.{value_word}
use Rattle.bits.specs.Fields.{field_read, four_read}

module _ (s : List ℕ) (at w : ℕ) (b : (i : ℕ) → get_or s i 0 < 256) (l : at / 8 + 8 ≤ length s) (f : w ≤ 14) where
  -- the word, with the last of four fields at the low end
  abbrev pub last : ℕ
  last = word_at 8 s (at / 8) / 2 ^ (64 - at % 8 - 4 * w)

  -- a field that stands before m more bits of the four
  before : (o m : ℕ) → o + w + m ≡ 4 * w → value_at s (at + o) w ≡ last / 2 ^ m % 2 ^ w
  before o m e =
      let place : at + o ≡ 8 * (at / 8) + (at % 8 + o) = omega arith in
      let shift : 64 - (at % 8 + o) - w ≡ 64 - at % 8 - 4 * w + m = omega arith in
      ap (λ (k : ℕ). value_at s k w) place
      ∙ value_word 8 s (at / 8) (at % 8 + o) w b (omega arith) (omega arith)
      ∙ rw (shift, ← shr-shr (word_at 8 s (at / 8)) (64 - at % 8 - 4 * w) m)

  pub four_values :
      (last / 2 ^ w / 2 ^ w / 2 ^ w % 2 ^ w ≡ value_at s at w) × (last / 2 ^ w / 2 ^ w % 2 ^ w ≡ value_at s (at + w) w)
      × (last / 2 ^ w % 2 ^ w ≡ value_at s (at + 2 * w) w) × (last % 2 ^ w ≡ value_at s (at + 3 * w) w)
  four_values =
      let start : at + 0 ≡ at = omega arith in (
        rw (shr-shr (last / 2 ^ w) w w, shr-shr last w (w + w)) (sym (before 0 (w + (w + w)) (omega arith)) ∙ ap (λ (k : ℕ). value_at s k w) start),
        rw (shr-shr last w w) (sym (before w (w + w) (omega arith))),
        sym (before (2 * w) w (omega arith)),
        sym (before (3 * w) 0 (omega arith) ∙ ap (λ (n : ℕ). n % 2 ^ w) (div-one last)),
      )

  -- where the code has shifted and masked the word e, the four numbers are those of the fields
  pub four_there : (out : List ℕ) (i : ℕ) {e p q r t : ℕ} → e ≡ word_at 8 s (at / 8)
      → p ≡ e / 2 ^ (64 - at % 8 - 4 * w) / 2 ^ w / 2 ^ w / 2 ^ w % 2 ^ w → q ≡ e / 2 ^ (64 - at % 8 - 4 * w) / 2 ^ w / 2 ^ w % 2 ^ w
      → r ≡ e / 2 ^ (64 - at % 8 - 4 * w) / 2 ^ w % 2 ^ w → t ≡ e / 2 ^ (64 - at % 8 - 4 * w) % 2 ^ w
      → set (set (set (set out i p) (i + 1) q) (i + 2) r) (i + 3) t ≡ four_read s at w out i
  unfolding field_read four_read
  four_there out i {e} {p} {q} {r} {t} h a b c d =
      let f = four_values in
      rw (a, b, c, d, h, f.0, f.1, f.2, f.3)
