-- What the fields of n entries, from a bit on, and the padding behind them contain.
-- Main definition: Contains. Main result: fault_of_read.
use Rattle.std.specs.Prelude.{Bool, true, false, List, ◌≡◌, ℕ, ◌+◌, take, drop, Result, Ok, Err}
use Rattle.std.proofs.Math.Option.{Option, none, some}
use Rattle.std.proofs.Common.{sym, ap, ◌∙◌}
use Rattle.rules.specs.Vector.{fault}
use Rattle.rules.specs.Record.{bits_of, any_set}
use Rattle.rules.specs.Archive.{field_bits}
use Rattle.record_laws.specs.Fields.{entries_from}
use Rattle.record_entries.specs.declared.EntryFault.{EntryFault}
use Rattle.record_entries.specs.declared.EntryFault.TheVariants.{Entry, Padding}

-- some bit behind the fields is set, or none is
abbrev Set : List ℕ → ℕ → ℕ → Bool → Type 0
Set s start n b = any_set (drop (start + field_bits n) (bits_of s)) ≡ b

-- each answer; vector is the array that was read into
abbrev pub Contains : List ℕ → ℕ → ℕ → List ℕ → Result (Unit {0}) EntryFault → Type 0
Contains s start n vector (Ok _) = (take n vector ≡ entries_from start n s) × (fault 0 (entries_from start n s) ≡ none) × Set s start n false
Contains s start n vector (Err (Entry i)) = fault 0 (entries_from start n s) ≡ some i
Contains s start n vector (Err Padding) = (fault 0 (entries_from start n s) ≡ none) × Set s start n true

-- the first of the entries above its bound, where they were read into xs
pub fault_of_read : (s : List ℕ) (start n : ℕ) (xs : List ℕ) {o : Option ℕ} → take n xs ≡ entries_from start n s → fault 0 (take n xs) ≡ o → fault 0 (entries_from start n s) ≡ o
fault_of_read s start n xs read first = sym (ap (fault 0) read) ∙ first
