-- `table_vector` meets its contract: what read_rows has found, and where that is no fault the vector.
use Rattle.reading.specs.Reading.{reads_start}
use Rattle.table_order.specs.Told.{drawn, some_drawn}
use Rattle.table_order.proofs.table_vector.Goals as goal

pub read_rows-requires : goal.read_rows-requires
read_rows-requires c = let P = c.requires in reads_start P.0 P.1 P.2 c.add_leaves.ensures

pub vector_of-requires : goal.vector_of-requires
vector_of-requires c = record { drawn = some_drawn c.in_ok-read_rows.ensures c.requires.0; n_in_bounds = c.requires.3 }

pub returns : goal.returns
returns c = let all = c.in_ok-read_rows.ensures in (all.no_fault, c.vector_of.ensures _ (drawn all c.requires.0))
