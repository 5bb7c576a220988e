use Rattle.std.proofs.Common.{arith}
use Rattle.label_words.proofs.Tens.{next_ten}
use Rattle.label_words.proofs.longer_labels.Goals as goal

pub loop-y-preserved : goal.loop-y-preserved
loop-y-preserved c = next_ten _ _ c.loop-y.invariant (omega arith) (λ d. c.requires.longer _ d c.loop-y.auto.y c.loop-y-test.true) c.ten_words.ensures
