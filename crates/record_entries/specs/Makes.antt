-- What fields and the padding behind them contain, as what the bits of a record make: those of its own bytes, or with its n before them.
-- Main results: entry_made, padding_made, entries_made.
use Rattle.std.specs.Prelude.{Bool, true, List, ◌≡◌, ℕ, ◌+◌, ◌≤◌, length, take, drop, Ok}
use Rattle.std.proofs.Math.Option.{Option, none, some}
use Rattle.std.proofs.Common.{sym, ap, ◌∙◌, arith, length-take}
use Rattle.rules.specs.Vector.{fault}
use Rattle.rules.specs.Record.{Bits, bits_of, entries_in, padding_in, any_set}
use Rattle.rules.specs.Archive.{field_bits}
use Rattle.rules.specs.Answer.{made, refuses}
use Rattle.rules.specs.CallUnpack.{from_bits}
use Rattle.record_laws.specs.Fields.{entries_from}
use Rattle.record_laws.proofs.FromBits.{entry_in_bits, padding_in_bits, bits_accepted, length_entries_in}
use Rattle.record_entries.specs.Contains.{Contains}

-- the entries and the padding from a bit on are those in the bits bs
module _ (s : List ℕ) (start n last : ℕ) (bs : Bits) (entries : entries_from start n s ≡ entries_in n bs)
    (behind : drop (start + field_bits n) (bits_of s) ≡ padding_in n bs) where
  fault_in : {o : Option ℕ} → fault 0 (entries_from start n s) ≡ o → fault 0 (entries_in n bs) ≡ o
  fault_in h = ap (fault 0) (sym entries) ∙ h

  set_in : {b : Bool} → any_set (drop (start + field_bits n) (bits_of s)) ≡ b → any_set (padding_in n bs) ≡ b
  set_in h = ap any_set (sym behind) ∙ h

  pub entry_made : (i : ℕ) → fault 0 (entries_from start n s) ≡ some i → from_bits n last bs ≡ refuses 4 i
  entry_made i h = entry_in_bits n last bs i (fault_in h)

  pub padding_made : (fault 0 (entries_from start n s) ≡ none) × (any_set (drop (start + field_bits n) (bits_of s)) ≡ true) → from_bits n last bs ≡ refuses 10 last
  padding_made h = padding_in_bits n last bs (fault_in h.0) (set_in h.1)

  pub entries_made : (xs : List ℕ) → Contains s start n xs (Ok tt) → (n ≤ length xs) × (from_bits n last bs ≡ made (take n xs))
  entries_made xs h =
      let read : take n xs ≡ entries_in n bs = h.0 ∙ entries in (
        omega (arith, length-take n xs, ap length read, length_entries_in n bs),
        bits_accepted n last bs (fault_in h.1) (set_in h.2) ∙ ap made (sym read),
      )
