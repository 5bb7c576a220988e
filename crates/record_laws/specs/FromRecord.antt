-- When a record is accepted, and when it is refused with 2, 1, 4 or 10. Main definitions: Headed, Accepted.
use Rattle.std.specs.Prelude.{false, List, ◌≡◌, ℕ, ◌≤◌, length}
use Rattle.std.proofs.Math.Option.{none}
use Rattle.rules.specs.Vector.{fault}
use Rattle.rules.specs.Record.{leaf_count, record_length, entries_of, any_set, padding}

-- a record with the length that its n fixes
pub record Headed (s : List ℕ) (n : ℕ) : Type 0 where
  pub two_bytes : 2 ≤ length s
  pub count : n ≡ leaf_count s
  pub some_leaf : 1 ≤ n
  pub few : n ≤ 1024
  pub whole : length s ≡ record_length n

-- a record of n leaves in which nothing is wrong
pub record Accepted (s : List ℕ) (n : ℕ) : Type 0 where
  pub headed : Headed s n
  pub within : fault 0 (entries_of n s) ≡ none
  pub unset : any_set (padding n s) ≡ false
