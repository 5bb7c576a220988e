use Prim.Native.Nat.{ℕ}
use mathlib.Core.Path.{sym, ◌∙◌}
use lib.ListN.{length-replicate}
use Rattle.text_laws.proofs.Cells.{replicate_all_zero}
use Rattle.label_faults.specs.Fault.{fault_is}
use Rattle.label_faults.specs.Looking.{look_start, look_large, look_digit, look_used, look_fresh, look_pass, look_some, look_end, looking_as}
use Rattle.label_faults.proofs.first_fault.Goals as goal
use Rattle.label_faults.proofs.first_fault.Goals.{then-digit+else-n-next, else-digit+in-Some+else-used-ended-ne0, else-digit+in_default}

pub loop-at-init : goal.loop-at-init
loop-at-init c = look_start c.requires.0 (length-replicate {A = ℕ} 1024 0) (replicate_all_zero 1024)

pub returns-then-n-next : goal.returns-then-n-next
unfolding fault_is
returns-then-n-next c =
    look_large c.loop-at.invariant c.loop-at-test.true (sym c.digit.ensures ∙ c.if-digit.true) c.with_digit-next.result c.with_digit-next.ensures c.if-n-next.true

pub returns-then-used-ended-ne0 : goal.returns-then-used-ended-ne0
unfolding fault_is
returns-then-used-ended-ne0 c =
    look_used c.loop-at.invariant c.loop-at-test.true (sym c.digit.ensures ∙ c.if-digit.false) c.in-Some.ended c.in-Some.is c.if-used-ended-ne0.true

pub loop-at-preserved : goal.loop-at-preserved
loop-at-preserved c =
    let L = c.loop-at.invariant in
    let h = c.loop-at-test.true in
    let d = sym c.digit.ensures in
    elim c.if-digit.branch [
      | then-digit+else-n-next w ↦ looking_as w.used-is w.label-is (look_digit L h (d ∙ w.if-digit.true) w.with_digit-next.result w.with_digit-next.ensures w.if-n-next.false)
      | else-digit+in-Some+else-used-ended-ne0 w ↦ looking_as w.used-is w.label-is (look_fresh L h (d ∙ w.if-digit.false) w.in-Some.ended w.in-Some.is w.if-used-ended-ne0.false)
      | else-digit+in_default w ↦ looking_as w.used-is w.label-is (look_pass L h (d ∙ w.if-digit.false) w.in_default.is)
    ]

pub unwrap-requires : goal.unwrap-requires
unwrap-requires c = look_some c.loop-at.invariant c.loop-at-test.false c.requires.1

pub returns : goal.returns
unfolding fault_is
returns c = look_end c.loop-at.invariant c.loop-at-test.false c.requires.1 _ c.unwrap.ensures
