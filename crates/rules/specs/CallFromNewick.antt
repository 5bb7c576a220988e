-- Newick to vector: 2 "first for a text above 65,536 bytes", "then for more than 6,056 bytes that aren't blanks", "8, 1", then 9 and 13 "label by
-- label in text order", "3". Places "are in the bytes as sent". What is made is a relation, since the grammar is one.
-- Main definitions: from_labels, NotLong, FromText, from_newick_call.
use Rattle.std.specs.Prelude.{List, ℕ, ◌≤◌, ◌<◌, length}
use Rattle.rules.specs.Tree.{Tree}
use Rattle.rules.specs.Order.{vector_of}
use Rattle.rules.specs.Newick.{BreaksAt, labels_of, label_fault}
use Rattle.rules.specs.Sent.{signs, SentText}
use Rattle.rules.specs.Answer.{Made, made, refuses}
use Rattle.rules.specs.Guards.{refuse_label, refuse_count}
use Rattle.rules.specs.Promise.{Call, list}

-- what a text makes that reads as the tree: 1 by the number of its labels, then 9 and 13
unfoldable pub from_labels : List ℕ → Tree → Made
unfolding refuse_count refuse_label label_fault labels_of vector_of
from_labels s t = refuse_count (length (labels_of s)) (refuse_label (label_fault s) (made (vector_of t)))

-- "2 is now given first for a text above 65,536 bytes (place 65536), then for more than 6,056 bytes that aren't blanks (place 6056)": neither is
abbrev pub NotLong : List ℕ → Type 0
NotLong s = (length s ≤ 65536) × (length (signs s) ≤ 6056)

pub data FromText (s : List ℕ) : Made → Type 0 where
  too_long : 65536 < length s → FromText s (refuses 2 65536)
  too_many_signs : length s ≤ 65536 → 6056 < length (signs s) → FromText s (refuses 2 6056)
  breaks : {place : ℕ} → NotLong s → BreaksAt SentText s place → FromText s (refuses 8 place)
  reads_as : (t : Tree) → NotLong s → SentText s t → FromText s (from_labels s t)

abbrev pub from_newick_call : List ℕ → Call (List ℕ) (List ℕ)
from_newick_call s = record { buffers = list; short = 3; Makes = FromText s }
