-- `read_rows` meets its contract: the first t rows are read, and none of them is refused.
use Rattle.reading.specs.Reading.{Reads}
use Rattle.reading.proofs.read_rows.Given as goal

abbrev pub invariant-loop-t : goal.invariant-loop-t
invariant-loop-t l = Reads l.n l.rows l.t l.chains.names l.chains.lows l.chains.small l.chains.next l.chains.last
