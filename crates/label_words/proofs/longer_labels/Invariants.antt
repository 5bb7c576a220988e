use Rattle.label_words.specs.Leaves.{Tens}
use Rattle.label_words.proofs.longer_labels.Given as goal

abbrev pub invariant-loop-y : goal.invariant-loop-y
invariant-loop-y l = Tens l.y l.words
