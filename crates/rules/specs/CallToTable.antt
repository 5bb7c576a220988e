-- Vector to merge table: "1, 4", then 3.
-- Main definitions: to_table, to_table_call.
use Rattle.std.specs.Prelude.{List, ℕ}
use Rattle.rules.specs.Table.{table_of}
use Rattle.rules.specs.Answer.{Made, made}
use Rattle.rules.specs.Guards.{from_vector}
use Rattle.rules.specs.Promise.{Call, makes, list}

unfoldable pub to_table : List ℕ → Made
unfolding from_vector table_of
to_table v = from_vector v (made (table_of v))

abbrev pub to_table_call : List ℕ → Call (List ℕ) (List ℕ)
to_table_call v = makes list (to_table v)
