use native.Mathlib.Omega.{arith}
use mathlib.Core.Path.{sym, ◌∙◌}
use Rattle.text_laws.proofs.Digits.{label_of_one, label_of_two, label_of_three, label_of_four}
use Rattle.text_laws.proofs.Bytes.{digit_range}
use Rattle.text_labels.proofs.label.Goals as goal

pub returns-then-not-digit : goal.returns-then-not-digit
returns-then-not-digit c = λ t same.
    label_of_one c.args.s.now t same c.requires c.sign-d.ensures (sym c.digit.ensures ∙ c.if-not-digit.true) c.leaf.ensures

pub overflow_sub-x : goal.overflow_sub-x
overflow_sub-x c = omega (arith, c.requires.2, digit_range _ (sym c.digit.ensures ∙ c.if-not-digit.false))

pub returns-then-not-digit-2 : goal.returns-then-not-digit-2
returns-then-not-digit-2 c = λ t same.
    label_of_two c.args.s.now t same c.requires c.sign-d.ensures (sym c.digit.ensures ∙ c.if-not-digit.false)
    c.sign-e.ensures (sym c.digit-2.ensures ∙ c.if-not-digit-2.true) c.leaf-then-not-digit-2.ensures

pub overflow_sub-y : goal.overflow_sub-y
overflow_sub-y c = omega (arith, c.requires.2, digit_range _ (sym c.digit.ensures ∙ c.if-not-digit.false), digit_range _ (sym c.digit-2.ensures ∙ c.if-not-digit-2.false))

pub returns-then-not-digit-3 : goal.returns-then-not-digit-3
returns-then-not-digit-3 c = λ t same.
    label_of_three c.args.s.now t same c.requires c.sign-d.ensures (sym c.digit.ensures ∙ c.if-not-digit.false)
    c.sign-e.ensures (sym c.digit-2.ensures ∙ c.if-not-digit-2.false) c.sign-f.ensures
    (sym c.digit-3.ensures ∙ c.if-not-digit-3.true) c.leaf-then-not-digit-3.ensures

pub overflow_sub-y-2 : goal.overflow_sub-y-2
overflow_sub-y-2 c = omega (arith, c.requires.2, digit_range _ (sym c.digit.ensures ∙ c.if-not-digit.false), digit_range _ (sym c.digit-2.ensures ∙ c.if-not-digit-2.false), digit_range _ (sym c.digit-3.ensures ∙ c.if-not-digit-3.false))

pub returns : goal.returns
returns c = λ t same.
    label_of_four c.args.s.now t same c.requires c.sign-d.ensures (sym c.digit.ensures ∙ c.if-not-digit.false)
    c.sign-e.ensures (sym c.digit-2.ensures ∙ c.if-not-digit-2.false) c.sign-f.ensures
    (sym c.digit-3.ensures ∙ c.if-not-digit-3.false) c.leaf-2.ensures
