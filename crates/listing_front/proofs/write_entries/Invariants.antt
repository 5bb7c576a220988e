use Rattle.std.proofs.Common.{◌+◌, take}
use Rattle.rules.specs.Listing.{commaed}
use Rattle.digits.specs.Wrote.{Wrote}
use Rattle.listing_front.proofs.write_entries.Given as goal

abbrev pub invariant-loop-entry : goal.invariant-loop-entry
invariant-loop-entry l = Wrote (commaed (take (l.entry-index + 1) l.v)) l.at l.fn.out l.out l.x
