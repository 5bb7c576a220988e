-- The same trees in another order: the same answer, and the same entries.
-- Main results: reordered_answers.
use Rattle.std.specs.Prelude.{◌≡◌, ℕ, length, take}
use mathlib.Core.List.{List}
use Rattle.std.proofs.Common.{sym, ◌∙◌}
use Rattle.std.proofs.Math.Path.{ap}
use Rattle.rules.specs.declared.Clade.{Clade as Entry}
use Rattle.rules.specs.declared.Answer.{Answer}
use Rattle.rules.specs.Answer.{done, reads}
use Rattle.rules.specs.CladeTable.{trees_of}
use Rattle.clade_laws.specs.Totals.{Reordered}
use Rattle.demands.specs.TreesRead.{AllRead}
use Rattle.demands.specs.Calls.{call_clade_table}
use Rattle.demands.proofs.Keeping.{Kept}
use Rattle.demands.proofs.DemandOne as one
use Rattle.clade_demands.proofs.CladeTable.{order_does_not_count}
use Rattle.clade_demands.proofs.Answered.{done_table}

-- archives with the same trees in another order: the same count, and the same entries
pub reordered_answers : (s t : List ℕ) (vs ws : List (List ℕ)) → AllRead s vs → AllRead t ws → Reordered (trees_of vs) (trees_of ws)
    → (old new old' new' : List Entry) (a b : Answer) → Kept (call_clade_table s) old a new → Kept (call_clade_table t) old' b new'
    → (j k : ℕ) → reads a ≡ done j → reads b ≡ done k → (j ≡ k) × (take j new ≡ take k new')
reordered_answers s t vs ws A B again old new old' new' a b K L j k e f =
    let x = done_table s old new a K j e in
    let y = done_table t old' new' b L k f in
    let z = order_does_not_count s t vs ws (take j new) (take k new') A B again x.0 y.0 in
    (sym x.3 ∙ ap length z ∙ y.3, z)
