-- `add_pairs` meets its contract.
use Rattle.clade_pass.specs.Pass.{no_pairs, pairs_held, pairs_below}
use Rattle.clade_pass.proofs.add_pairs.Goals as goal

pub returns-then-count-eq0 : goal.returns-then-count-eq0
returns-then-count-eq0 c = no_pairs c.args.batch.now.words c.args.count c.args.bound c.if-count-eq0.true c.requires.1

pub returns-then-bound-lt-BOTH : goal.returns-then-bound-lt-BOTH
returns-then-bound-lt-BOTH c = pairs_held c.hold_one.new.self.words c.args.count c.args.bound
    c.if-count-eq0.false c.if-bound-lt-BOTH.true c.hold_one.ensures

pub returns-else-bound-lt-BOTH : goal.returns-else-bound-lt-BOTH
returns-else-bound-lt-BOTH c = pairs_below c.args.batch.now.words c.args.count c.args.bound c.if-count-eq0.false c.if-bound-lt-BOTH.false c.requires.1
