use Rattle.std.proofs.Common.{length, ap, ◌∙◌}
use Rattle.std.proofs.lemmas.List.{take_rest}
use Rattle.rules.specs.Sent.{signs}
use Rattle.text_signs.specs.Keeping.{kept_many, kept_few}
use Rattle.text_signs.proofs.kept_before.Goals as goal

pub returns-then-q-count_signs : goal.returns-then-q-count_signs
returns-then-q-count_signs c =
    kept_many _ _ _ (c.count_signs.ensures ∙ ap (λ s. length (signs s)) (take_rest c.args.s.now c.args.at)) c.if-q-count_signs.true

pub returns : goal.returns
returns c =
    kept_few _ _ _ (c.count_signs.ensures ∙ ap (λ s. length (signs s)) (take_rest c.args.s.now c.args.at)) c.requires.1 c.if-q-count_signs.false
