-- "The answer about tree r depends on the header, the archive's length, r, the output's length and record r's bytes only." Main definition: Alike.
use Rattle.std.specs.Prelude.{◌≡◌, List, ℕ, length, take}
use Rattle.rules.specs.Record.{leaf_count}
use Rattle.rules.specs.Archive.{record_at}

-- two archives with the same header, the same length and the same record r, whatever the rest holds
pub record Alike (s t : List ℕ) (r : ℕ) : Type 0 where
  pub same_header : take 4 s ≡ take 4 t
  pub same_length : length s ≡ length t
  pub same_record : record_at (leaf_count s) s r ≡ record_at (leaf_count t) t r
