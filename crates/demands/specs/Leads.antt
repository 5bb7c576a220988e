-- Inputs of any notation: when one is accepted, and to which vector it leads; what the public calls then answer and write. Main definitions: Input,
-- Leads.
use Rattle.std.specs.Prelude.{List, ◌≡◌, ℕ}
use Rattle.rules.specs.Answer.{made}
use Rattle.rules.specs.CallCheck.{check}
use Rattle.rules.specs.CallFromTable.{from_table}
use Rattle.rules.specs.CallFromNewick.{FromText}
use Rattle.rules.specs.CallUnpack.{unpack}
use Rattle.rules.specs.CallReadTree.{read_tree}
use Rattle.demands.specs.Calls.{Public, checks, call_from_table, from_newick, unpacks, reads_tree}

-- an input of one of the five kinds: in one of the four notations, a table with its leaf count, or an archive with the number of a tree in it
pub data Input : Type 0 where
  vector : List ℕ → Input
  table : ℕ → List ℕ → Input
  text : List ℕ → Input
  packed : List ℕ → Input
  archived : List ℕ → ℕ → Input

-- the input is accepted, and leads to the vector
abbrev pub Leads : Input → List ℕ → Type 0
Leads (vector v) w = (check v ≡ made tt) × (w ≡ v)
Leads (table n xs) w = from_table n xs ≡ made w
Leads (text s) w = FromText s (made w)
Leads (packed s) w = unpack s ≡ made w
Leads (archived s r) w = read_tree s r ≡ made w

-- the call that reads an input
abbrev pub call_of : Input → Public
call_of (vector v) = checks v
call_of (table n xs) = call_from_table n xs
call_of (text s) = from_newick s
call_of (packed s) = unpacks s
call_of (archived s r) = reads_tree s r
