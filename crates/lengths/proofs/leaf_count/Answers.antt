-- `lengths::leaf_count` meets its contract: the number of the first field.
use mathlib.Core.Path.{◌≡◌, ap, ◌∙◌}
use mathlib.Core.List.{List, [], ◌∷◌}
use Prim.Native.Nat.{ℕ}
use lib.ListN.{get_or}
use Rattle.rules.specs.Record.{leaf_count}
use Rattle.record_laws.specs.Window.{value_at}
use Rattle.bits.specs.Fields.{field_read}
use Rattle.lengths.proofs.leaf_count.Goals as goal

-- what stands in the one place
counted : (s out : List ℕ) → out ≡ field_read s 0 11 (0 ∷ []) 0 → get_or out 0 0 ≡ value_at s 0 11
unfolding field_read
counted s out e = ap (λ (l : List ℕ). get_or l 0 0) e

pub returns : goal.returns
unfolding leaf_count value_at
returns c = c.from.ensures ∙ counted c.args.s.now _ c.first_field.ensures
