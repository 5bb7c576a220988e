-- Check a vector: "1, 4". It lends no buffer, and done says 0.
-- Main definitions: check, check_call.
use Rattle.std.specs.Prelude.{List, ℕ}
use Rattle.rules.specs.Answer.{Making, made}
use Rattle.rules.specs.Guards.{from_vector}
use Rattle.rules.specs.Promise.{Call, makes, none}

unfoldable pub check : List ℕ → Making (Unit {0})
unfolding from_vector
check v = from_vector v (made tt)

abbrev pub check_call : List ℕ → Call (Unit {0}) (Unit {0})
check_call v = makes none (check v)
