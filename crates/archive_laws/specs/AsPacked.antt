-- "Demands 2 and 3 read archive records as packed records with that n": the packed record of the fields in an archive's record, and what unpacking
-- makes of it. Main definitions: as_packed, then_padding.
use Rattle.std.specs.Prelude.{Bool, List, ℕ, take}
use Rattle.rules.specs.Record.{Bits, total, record_length, bytes_of}
use Rattle.rules.specs.Answer.{Made, made, refuses}
use Rattle.rules.specs.Guards.{refuse_if}

-- the packed record of n leaves with these bits: n and the fields, filled up to whole bytes
unfoldable pub as_packed : ℕ → Bits → List ℕ
unfolding bytes_of record_length total
as_packed n bs = bytes_of (record_length n) (take (total n) bs)

-- 10 where a padding bit is set, of what is made without a look at the padding
unfoldable pub then_padding : Bool → ℕ → Made → Made
unfolding refuse_if
then_padding set place (made v) = refuse_if set 10 place (made v)
then_padding set place (refuses k p) = refuses k p
