use mathlib.Core.Path.{sym, ◌∙◌}
use Rattle.text_signs.proofs.Squeezing.{squeezing_start, squeezing_blank, squeezing_sign, squeezing_parted, squeezing_many, squeezing_end, squeezing_as}
use Rattle.text_signs.proofs.squeeze.Goals as goal
use Rattle.text_signs.proofs.squeeze.Goals.{then-is_blank+else-parts_label, else-is_blank+else-q-eq-MOST}

pub loop-i-init : goal.loop-i-init
loop-i-init c = squeezing_start _ _ c.told-signs c.requires

pub returns-then-parts_label : goal.returns-then-parts_label
returns-then-parts_label c = let blank = sym c.is_blank.ensures ∙ c.if-is_blank.true in
    let parts = sym c.parts_label.ensures ∙ c.if-parts_label.true in
    squeezing_parted c.loop-i.invariant c.loop-i-test.true blank c.kept_before.ensures parts

pub returns-then-q-eq-MOST : goal.returns-then-q-eq-MOST
returns-then-q-eq-MOST c = squeezing_many c.loop-i.invariant c.loop-i-test.true (sym c.is_blank.ensures ∙ c.if-is_blank.false) c.if-q-eq-MOST.true

pub loop-i-preserved : goal.loop-i-preserved
loop-i-preserved c =
    let S = c.loop-i.invariant in
    let h = c.loop-i-test.true in
    let b = sym c.is_blank.ensures in
    elim c.if-is_blank.branch [
      | then-is_blank+else-parts_label w ↦ squeezing_as w.signs-is w.last-is w.q-is (squeezing_blank S h (b ∙ w.if-is_blank.true) (sym w.parts_label.ensures ∙ w.if-parts_label.false))
      | else-is_blank+else-q-eq-MOST w ↦ squeezing_as w.signs-is w.last-is w.q-is (squeezing_sign S h (b ∙ w.if-is_blank.false) w.if-q-eq-MOST.false)
    ]

pub returns : goal.returns
returns c = squeezing_end c.loop-i.invariant c.loop-i-test.false
