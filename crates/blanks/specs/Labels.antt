-- The labels of bytes as sent are those of their signs, where no label is parted: so a text as sent is labelled as its tree.
use Rattle.std.specs.Prelude.{List, ◌∷◌, ℕ}
use Rattle.std.proofs.Math.Option.{Option, none, some}
use Rattle.rules.specs.Names.{Placed}
use Rattle.rules.specs.Newick.{labels_from}
use Rattle.blanks.specs.Marks.{Last, other, digit, gap}

-- the label y that is being read in the signs, by what stands before
abbrev pub held : Last → Placed → Option Placed
held other y = none
held digit y = some y
held gap y = some y

-- the labels of bytes as sent, with the label z that is being read, or has ended in blanks
abbrev pub sent_from : Last → ℕ → Placed → List ℕ → List Placed
sent_from other a z s = labels_from a none s
sent_from digit a z s = labels_from a (some z) s
sent_from gap a z s = z ∷ labels_from a none s
