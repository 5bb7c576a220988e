-- `Batch::add` meets its contract: where the leaf set stands at the guess, the guess is its place.
use native.Mathlib.Omega.{arith}
use mathlib.Core.Path.{◌∙◌, sym, ap}
use Rattle.clade_batch.specs.Held.{held_in}
use Rattle.clade_batch.specs.Place.{words_rise, guessed}
use Rattle.clade_batch.specs.Added.{add_counted}
use Rattle.clade_batch.proofs.Batch.add.Goals as goal

pub returns-then-stands_at : goal.returns-then-stands_at
returns-then-stands_at c = let e = sym c.stands_at.ensures ∙ c.if-stands_at.true in
    ap held_in c.count_one.ensures ∙ add_counted (guessed (words_rise c.args.self.now.words
    c.requires.rises) e) c.requires (omega arith) e
