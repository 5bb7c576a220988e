use Rattle.pair_children.proofs.Numbering.{number_leaf, number_pair}
use Rattle.pair_children.proofs.child_number.Goals as goal

pub returns-then-c-lt-PAIR : goal.returns-then-c-lt-PAIR
returns-then-c-lt-PAIR c = number_leaf c.args.n c.args.c c.if-c-lt-PAIR.true

pub returns : goal.returns
returns c = number_pair c.args.n c.args.c c.if-c-lt-PAIR.false
