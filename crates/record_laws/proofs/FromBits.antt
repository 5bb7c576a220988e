-- What the bits of a record make, its own or an archive's: refused with 4 or 10, or its entries.
-- Main results: entry_in_bits, padding_in_bits, bits_accepted (when each is made); bits_made (only then); length_entries_in.
use Rattle.std.specs.Prelude.{true, false, List, ◌≡◌, ℕ, length}
use Rattle.std.proofs.Math.Option.{none, some}
use Rattle.std.proofs.Common.{◌∙◌}
use Rattle.rules.specs.Vector.{fault}
use Rattle.rules.specs.Record.{Bits, entry_in, entries_in, padding_in, any_set}
use Rattle.rules.specs.Answer.{made, refuses}
use Rattle.rules.specs.CallUnpack.{from_bits}
use Rattle.basics.proofs.Listed.{length_listed}
use Rattle.accepting.proofs.Answers.{made_same}
use Rattle.accepting.proofs.Guards.{refuse_if_lem, pass_if, refuse_at_lem, pass_at, passed_if, passed_at}

module _ (n last : ℕ) (bs : Bits) where
  -- 4
  pub entry_in_bits : (i : ℕ) → fault 0 (entries_in n bs) ≡ some i → from_bits n last bs ≡ refuses 4 i
  unfolding from_bits
  entry_in_bits i e = refuse_at_lem 4 i (fault 0 (entries_in n bs)) _ e

  -- 10
  pub padding_in_bits : fault 0 (entries_in n bs) ≡ none → any_set (padding_in n bs) ≡ true → from_bits n last bs ≡ refuses 10 last
  unfolding from_bits
  padding_in_bits e b = pass_at 4 (fault 0 (entries_in n bs)) _ e ∙ refuse_if_lem (any_set (padding_in n bs)) 10 last _ b

  -- else the entries are made,
  pub bits_accepted : fault 0 (entries_in n bs) ≡ none → any_set (padding_in n bs) ≡ false → from_bits n last bs ≡ made (entries_in n bs)
  unfolding from_bits
  bits_accepted e b = pass_at 4 (fault 0 (entries_in n bs)) _ e ∙ pass_if (any_set (padding_in n bs)) 10 last _ b

  -- and only then
  pub bits_made : (v : List ℕ) → from_bits n last bs ≡ made v → (fault 0 (entries_in n bs) ≡ none) × (any_set (padding_in n bs) ≡ false) × (entries_in n bs ≡ v)
  unfolding from_bits
  bits_made v e =
      let within = passed_at 4 (fault 0 (entries_in n bs)) _ e in
      let unset = passed_if (any_set (padding_in n bs)) 10 last _ within.1 in
      (within.0, unset.0, made_same unset.1)

pub length_entries_in : (n : ℕ) (bs : Bits) → length (entries_in n bs) ≡ n
unfolding entries_in
length_entries_in n bs = length_listed n (entry_in bs)
