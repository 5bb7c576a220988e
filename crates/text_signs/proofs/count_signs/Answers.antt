-- `count_signs` meets its contract: of the bytes looked at so many are signs.
use mathlib.Core.Path.{sym, ◌∙◌}
use Rattle.text_signs.proofs.Looks.{count_start, count_blank, count_sign, count_end, counting_as}
use Rattle.text_signs.proofs.count_signs.Goals as goal
use Rattle.text_signs.proofs.count_signs.Goals.{then-not-is_blank, else-not-is_blank}

pub loop-c-init : goal.loop-c-init
loop-c-init c = count_start _

pub loop-c-preserved : goal.loop-c-preserved
loop-c-preserved c =
    let C = c.loop-c.invariant in
    let h = c.loop-c-test.true in
    let b = sym c.is_blank.ensures in
    elim c.if-not-is_blank.branch [
      | then-not-is_blank w ↦ counting_as w.count-is (count_sign _ _ _ C h (b ∙ w.if-not-is_blank.true))
      | else-not-is_blank w ↦ counting_as w.count-is (count_blank _ _ _ C h (b ∙ w.if-not-is_blank.false))
    ]

pub returns : goal.returns
returns c = count_end _ _ _ c.loop-c.invariant c.loop-c-test.false
