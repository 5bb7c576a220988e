-- CR 1: "The answer about tree r depends on the header, the archive's length, r, the output's length and record r's bytes only." Two archives that
-- are alike in these (archive_laws, Local.Alike) give the same answer and the same elements, whatever the rest of them and the output held. Main
-- definition: SameReading.
use Rattle.std.specs.Prelude.{List, [], ◌++◌, ◌≡◌, length, drop}
use Prim.Native.Nat.{ℕ}
use Rattle.rules.specs.declared.Answer.{Answer}
use Rattle.rules.specs.Answer.{Outcome, done, refused, reads}

-- the elements that an outcome counts: all of them where it is done, none where it is refused
pub data Counts (written : List ℕ) : Outcome → Type 0 where
  all_written : Counts written (done (length written))
  none_written : {k p : ℕ} → written ≡ [] → Counts written (refused k p)

-- one answer, and the same elements written into both outputs; behind them each holds what it held
pub record SameReading (a b : Answer) (old new old' new' : List ℕ) : Type 0 where
  pub same_answer : a ≡ b
  pub written : List ℕ
  pub counted : Counts written (reads a)
  pub first : new ≡ written ++ drop (length written) old
  pub second : new' ≡ written ++ drop (length written) old'
