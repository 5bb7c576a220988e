-- What is written is read back: the header, the length, each tree, and each record as a part of the archive. Main definition: ReadsBack.
use Rattle.std.specs.Prelude.{◌≡◌, List, [], ℕ, ◌<◌, length, get_or}
use Rattle.rules.specs.Record.{leaf_count}
use Rattle.rules.specs.Archive.{trees_in, bare_record, implied_length}
use Rattle.rules.specs.Answer.{made}
use Rattle.rules.specs.CallReadTree.{read_tree}
use Rattle.rules.specs.CallView.{view}

pub record ReadsBack (n : ℕ) (vs : List (List ℕ)) (s : List ℕ) : Type 0 where
  pub leaves : leaf_count s ≡ n
  pub trees : trees_in s ≡ length vs
  pub whole : length s ≡ implied_length n (length vs)
  pub each : (r : ℕ) → r < length vs → read_tree s r ≡ made (get_or vs r [])
  pub part : (r : ℕ) → r < length vs → view s r ≡ bare_record (get_or vs r [])
