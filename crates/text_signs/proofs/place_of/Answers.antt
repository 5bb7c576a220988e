use mathlib.Core.Path.{sym, ◌∙◌}
use Rattle.text_signs.proofs.Looks.{place_start, placing_blank, placing_here, placing_sign, placing_end, placing_as}
use Rattle.text_signs.proofs.place_of.Goals as goal
use Rattle.text_signs.proofs.place_of.Goals.{then-not-is_blank+else-left-eq0, else-not-is_blank}

pub loop-i-init : goal.loop-i-init
loop-i-init c = place_start _ _

pub returns-then-left-eq0 : goal.returns-then-left-eq0
returns-then-left-eq0 c = placing_here _ _ _ _ c.loop-i.invariant c.loop-i-test.true (sym c.is_blank.ensures ∙ c.if-not-is_blank.true) c.if-left-eq0.true

pub loop-i-preserved : goal.loop-i-preserved
loop-i-preserved c =
    let P = c.loop-i.invariant in
    let h = c.loop-i-test.true in
    let b = sym c.is_blank.ensures in
    elim c.if-not-is_blank.branch [
      | then-not-is_blank+else-left-eq0 w ↦ placing_as w.left-is (placing_sign _ _ _ _ P h (b ∙ w.if-not-is_blank.true) w.if-left-eq0.false)
      | else-not-is_blank w ↦ placing_as w.left-is (placing_blank _ _ _ _ P h (b ∙ w.if-not-is_blank.false))
    ]

pub returns : goal.returns
returns c = placing_end _ _ _ _ c.loop-i.invariant c.loop-i-test.false
