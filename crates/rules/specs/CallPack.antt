-- Pack: "1, 4", then 3.
-- Main definitions: pack, pack_call.
use Rattle.std.specs.Prelude.{List, ℕ}
use Rattle.rules.specs.Record.{record_of}
use Rattle.rules.specs.Answer.{Made, made}
use Rattle.rules.specs.Guards.{from_vector}
use Rattle.rules.specs.Promise.{Call, makes, list}

unfoldable pub pack : List ℕ → Made
unfolding from_vector record_of
pack v = from_vector v (made (record_of v))

abbrev pub pack_call : List ℕ → Call (List ℕ) (List ℕ)
pack_call v = makes list (pack v)
