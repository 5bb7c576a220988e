-- Bytes that fields fill: the parts of the entries, and the padding by the number that it stands for.
-- Main results: reading_start, parts_of, fields_left, padding_inside, set_value.
use mathlib.Core.Path.{◌≡◌, refl, sym, ap, ◌∙◌}
use mathlib.Core.Bool.{not}
use mathlib.Core.List.{List, [], ◌∷◌}
use Prim.Native.Nat.{ℕ, zero, suc, ◌+◌, ◌-◌, ◌*◌, ◌%◌, ◌^◌, ◌≤◌, ◌<◌, min}
use native.Mathlib.Omega.{arith}
use lib.Dec.{eqb}
use borrow.Author.Tests.{ne_eqb}
use lib.ListN.{length, drop, set, length-drop}
use lib.Pow.{pow_pos}
use lib.Seq.{take_all}
use Rattle.rules.specs.Order.{listed}
use Rattle.rules.specs.Record.{Bits, width, number, bits_of, any_set}
use Rattle.rules.specs.Archive.{field_bits}
use Rattle.record_laws.specs.Number.{AreBits}
use Rattle.record_laws.proofs.Number.{are_drop, number_cons}
use Rattle.record_laws.proofs.Bytes.{are_bits, length_bits}
use Rattle.record_laws.proofs.Width.{total_one, total_most}
use Rattle.record_laws.specs.Window.{value_at}
use Rattle.record_laws.specs.Fields.{entry_from, entries_from}
use Rattle.record_laws.proofs.Fields.{total_header}
use Rattle.bits.specs.Fields.{FieldInside}
use Rattle.entry_reader.specs.Reading.{Reading, Left}
use Rattle.fields.specs.Parts.{Parts}
use Rattle.record.specs.Filled.{Filled}

-- before any entry but the first is read, which has no bits
pub reading_start : (s : List ℕ) (start : ℕ) (out : List ℕ) → 1 ≤ length out → Reading s start start 1 (set out 0 0)
unfolding listed entries_from entry_from width number value_at
reading_start s start [] h = absurd (omega arith)
reading_start s start (x ∷ out) h = record { place = rw total_one refl; done = refl }

-- the three parts of the entries
pub parts_of : (n : ℕ) {first last : ℕ} → 1 ≤ n → first ≡ min 5 n → (first ≤ last) × (last ≤ n) × (last % 4 ≡ first % 4) × (first < last → last + 12 ≤ n) → Parts first last n
parts_of n l e f =
    record {
      some_first = omega arith;
      ordered = f.0;
      most = f.1;
      fours = λ h. (record { from = omega (arith, f.1); first = omega (arith, f.1); last = omega (arith, f.1, f.2) }, f.3 h);
    }

-- the padding lies in the last byte
module _ (s : List ℕ) (start n : ℕ) (F : Filled s start n) where
  pub few_bytes : 8 * length s < 2 ^ 32 + 10248
  unfolding field_bits
  few_bytes = omega (arith, F.last, F.near, total_most n F.few)

  pub fields_left : (room : ℕ) → n ≤ room → Left s start 1 n 0 room
  unfolding field_bits
  fields_left room h =
      record {
        some_read = omega arith;
        most = F.some_leaf;
        few = F.few;
        fits = h;
        short = omega (arith, few_bytes);
        inside = λ _. omega (arith, F.inside, total_one, total_header n);
      }

  pub padding_inside : FieldInside s (start + field_bits n) (8 * length s - start - field_bits n) 1 0
  padding_inside = (omega (arith, F.last), omega (arith, F.inside), omega (arith, F.inside, few_bytes), omega arith)

-- bits of which one is set stand for a number that is not 0
pub set_number_lem : (bs : Bits) → AreBits bs → any_set bs ≡ not (eqb (number bs) 0)
unfolding AreBits any_set number
set_number_lem [] h = refl
set_number_lem (zero ∷ bs) h = set_number_lem bs h.1
set_number_lem (suc zero ∷ bs) h = sym (ap not (ne_eqb (number (1 ∷ bs)) 0 (λ e. omega (arith, e, number_cons 1 bs, pow_pos (length bs)))))
set_number_lem (suc (suc b) ∷ bs) h = absurd (omega (arith, h.0))

-- the bits to the end, by the number that they stand for
pub set_value : (s : List ℕ) (at w : ℕ) → 8 * length s ≤ at + w → not (eqb (value_at s at w) 0) ≡ any_set (drop at (bits_of s))
unfolding value_at
set_value s at w h =
    let l : length (drop at (bits_of s)) ≤ w = rw (length-drop, length_bits) (omega arith) in
    ap (λ (bs : Bits). not (eqb (number bs) 0)) (take_all w (drop at (bits_of s)) l)
    ∙ sym (set_number_lem (drop at (bits_of s)) (are_drop at (bits_of s) (are_bits s)))
