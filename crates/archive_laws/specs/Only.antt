-- An archive whose trees are all accepted is the one that is written of their vectors: no two archives have the same n and the same trees. Main
-- definition: AllRead.
use Rattle.std.specs.Prelude.{◌≡◌, List, [], ℕ, ◌≤◌, ◌<◌, length, get_or}
use Rattle.rules.specs.Record.{leaf_count}
use Rattle.rules.specs.Archive.{trees_in, implied_length}
use Rattle.rules.specs.Answer.{made}
use Rattle.rules.specs.CallReadTree.{read_tree}
use Rattle.record_laws.specs.Bytes.{AreBytes}

-- an archive of its implied length, each of whose trees is accepted
pub record AllRead (s : List ℕ) (vs : List (List ℕ)) : Type 0 where
  pub bytes : AreBytes s
  pub some_leaf : 1 ≤ leaf_count s
  pub few : leaf_count s ≤ 1024
  pub whole : length s ≡ implied_length (leaf_count s) (trees_in s)
  pub trees : length vs ≡ trees_in s
  pub each : (r : ℕ) → r < length vs → read_tree s r ≡ made (get_or vs r [])
