-- `record_entries::read_entries` meets its contract: the entries that were read, their first fault and the padding (specs/Contains).
use mathlib.Core.Path.{sym, ◌∙◌}
use Rattle.record_entries.specs.Contains.{fault_of_read}
use Rattle.record_entries.proofs.read_entries.Goals as goal

pub returns-in-Some : goal.returns-in-Some
returns-in-Some c = fault_of_read _ _ c.args.n _ c.read_record-padded.ensures.0 c.in-Some.ensures

pub returns-then-padded : goal.returns-then-padded
returns-then-padded c =
    let e = c.read_record-padded.ensures in
    (fault_of_read _ _ c.args.n _ e.0 c.in_default.ensures, sym e.1 ∙ c.if-padded.true)

pub returns : goal.returns
returns c =
    let e = c.read_record-padded.ensures in
    (e.0, fault_of_read _ _ c.args.n _ e.0 c.in_default.ensures, sym e.1 ∙ c.if-padded.false)
