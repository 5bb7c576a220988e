-- The bytes that the listing program takes for one record from the front of the input: as many as it wants, or all that are left where the input ends
-- before. Their lines are the listing. Main definitions: record_bytes, lines_written.
use Rattle.std.specs.Prelude.{List, [], ◌∷◌, ◌≡◌, ℕ, zero, suc, drop}
use Rattle.std.proofs.Math.ListN.{length, take}
use Rattle.rules.specs.Record.{leaf_count, record_length}
use Rattle.rules.specs.Answer.{made, refuses}
use Rattle.rules.specs.CallUnpack.{unpack}
use Rattle.rules.specs.Listing.{line_for, first_record, lines}
use Rattle.holding.specs.Wanted.{bytes_wanted}

-- the bytes of the record at the front of the input
unfoldable pub record_bytes : List ℕ → List ℕ
unfolding bytes_wanted
record_bytes s = take (bytes_wanted s) s

-- they are a whole record, or are refused as the front of the input is
pub data Agrees (s : List ℕ) : Type 0 where
  whole : first_record s ≡ made (record_bytes s) → length (record_bytes s) ≡ record_length (leaf_count s) → Agrees s
  alike : {number place : ℕ} → first_record s ≡ refuses number place → unpack (record_bytes s) ≡ refuses number place → Agrees s

-- What the loop writes that takes at most k records: the line of the first record's bytes, and then the lines of what stands behind them.
unfoldable pub lines_written : ℕ → List ℕ → List ℕ
unfolding lines line_for record_bytes
lines_written zero s = []
lines_written (suc k) [] = []
lines_written (suc k) (b ∷ s) = lines (line_for (record_bytes (b ∷ s))) (lines_written k (drop (length (record_bytes (b ∷ s))) (b ∷ s)))
