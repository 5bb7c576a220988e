-- The table by passes: each finds a batch, the K least leaf sets above a bound. Main results: above_all, table_from.
use Rattle.std.specs.Prelude.{◌≡◌, refl, true, List, [], ◌∷◌, ℕ, ◌+◌, ◌≤◌}
use Rattle.std.proofs.Common.{ap, ⊎_elim, arith, lt-ltb}
use Rattle.rules.specs.Building.{member}
use Rattle.rules.specs.Tree.{Tree}
use Rattle.rules.specs.declared.Clade.{Clade as Entry}
use Rattle.rules.specs.CladeTable.{clade_table}
use Rattle.clade_laws.proofs.Inner.{member_head, inner_some}
use Rattle.clade_laws.specs.Rising.{From}
use Rattle.clade_laws.proofs.Rising.{from_lower}
use Rattle.clade_laws.specs.Entries.{leaves_of, InSome}
use Rattle.clade_laws.proofs.Entries.{table_is}
use Rattle.clade_passes.specs.Passes.{above}

pub above_all : (b : ℕ) (es : List Entry) → From (b + 1) (leaves_of es) → above b es ≡ es
unfolding above leaves_of From
above_all b [] f = refl
above_all b (e ∷ es) f =
    rw (lt-ltb b e.leaves (omega (arith, f.0)))
    (ap (λ (l : List Entry). e ∷ l) (above_all b es (from_lower (e.leaves + 1) (b + 1) (leaves_of es) (omega (arith, f.0)) f.1)))

-- all leaf sets are above 0
some_leaf_set : (m : ℕ) (ts : List Tree) → InSome m ts → 1 ≤ m
unfolding InSome
some_leaf_set m [] p = absurd p
some_leaf_set m (t ∷ ts) p = ⊎_elim (inner_some t m) (some_leaf_set m ts) p

from_one : (l : List ℕ) → From 0 l → ((m : ℕ) → member m l ≡ true → 1 ≤ m) → From 1 l
unfolding From
from_one [] f h = tt
from_one (m ∷ l) f h = (h m (member_head m l), f.1)

pub table_from : (ts : List Tree) → From 1 (leaves_of (clade_table ts))
table_from ts = from_one (leaves_of (clade_table ts)) (table_is ts).rises (λ m e. some_leaf_set m ts (((table_is ts).holds m).0 e))
