-- The key of a node without a pair: above every name.
-- Main definition: no_key.
use Rattle.std.specs.Prelude.{ℕ}

abbrev pub no_key : ℕ
no_key = 1024
