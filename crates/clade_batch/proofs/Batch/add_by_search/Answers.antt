-- `Batch::add_by_search` meets its contract: by the place, the clade is counted or put in.
use native.Mathlib.Omega.{arith}
use mathlib.Core.Path.{◌∙◌, sym, ap}
use mathlib.Core.List.{List}
use lib.ListN.{take}
use Rattle.rules.specs.declared.Clade.{Clade as Entry}
use Rattle.clade_batch.specs.Held.{most, held_in}
use Rattle.clade_batch.specs.Place.{words_rise}
use Rattle.clade_batch.specs.Added.{add_counted, add_put}
use Rattle.clade_batch.proofs.Batch.add_by_search.Goals as goal

pub search-place-requires : goal.search-place-requires
search-place-requires c = let B = c.requires.0 in (words_rise c.args.self.now.words B.rises, B.few)

pub returns-then-stands_at : goal.returns-then-stands_at
returns-then-stands_at c = ap held_in c.count_one.ensures ∙ add_counted c.search-place.ensures c.requires.0 (omega arith)
    (sym c.stands_at.ensures ∙ c.if-stands_at.true)

pub returns : goal.returns
returns c = c.put.ensures ∙ ap (λ (es : List Entry). take most es) (add_put c.search-place.ensures (sym c.stands_at.ensures
    ∙ c.if-stands_at.false))
