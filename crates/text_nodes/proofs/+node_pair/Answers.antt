use Rattle.std.proofs.Common.{◌≡◌, ℕ, ◌-◌, List, get_or, ◌+◌, ◌∙◌, sym, ap, inl, inr, arith, set}
use Rattle.grammar.specs.Reading.{node_read}
use Rattle.rules.specs.Newick.{is_digit}
use Rattle.text_laws.specs.Cells.{cell, opened, shut}
use Rattle.text_laws.specs.Answers.{MayBegin, Answers}
use Rattle.text_laws.specs.Nodes.{FirstRead}
use Rattle.text_laws.proofs.Nodes.{labelled_zero, took_label, broke_here, broke_deep, begin_first, first_end, broke_first, took_first, begin_second}
use Rattle.text_laws.specs.Nodes.{SecondRead}
use Rattle.text_laws.proofs.Nodes.{second_end, broke_second, closing, pair_depth, took_pair}
use Rattle.text_laws.proofs.Bytes.{no_digit_above, no_digit_below}
use Rattle.text_nodes.proofs.+node_pair.Goals as goal

-- what a call of the node reader ensures
abbrev Reads : List ℕ → ℕ → List ℕ → List ℕ → ℕ → Type 0
Reads signs at m m' r = (s : List ℕ) → MayBegin signs s at m → Answers (node_read (cell m 8 - 1)) s at m m' r

-- the first node is read
first_read : (signs : List ℕ) (at : ℕ) (m m₁ : List ℕ) (x : ℕ)
    → get_or signs at 0 ≡ 40
    → (cell m 8 - 1 ≡ 0 → ⊥)
    → Reads signs (at + 1) (opened m) m₁ x
    → (s : List ℕ)
    → MayBegin signs s at m
    → FirstRead signs s at m m₁ x
first_read signs at m m₁ x bracket some reads s y = record { begins = y; bracket = bracket; some = some; answers = reads s (begin_first y bracket some) }

-- the second node is read
second_read : (signs : List ℕ) (at : ℕ) (m m₁ : List ℕ) (x : ℕ) (m₂ : List ℕ) (z : ℕ)
    → get_or signs at 0 ≡ 40
    → (cell m 8 - 1 ≡ 0 → ⊥)
    → Reads signs (at + 1) (opened m) m₁ x
    → get_or signs x 0 ≡ 44
    → Reads signs (x + 1) m₁ m₂ z
    → (s : List ℕ)
    → MayBegin signs s at m
    → SecondRead signs s at m m₁ x m₂ z
second_read signs at m m₁ x m₂ z bracket some reads comma reads' s y =
    let first = first_read signs at m m₁ x bracket some reads s y in
    record { first = first; comma_sign = comma; answers = reads' s (begin_second first comma) }

pub node-returns-then-c-gt57 : goal.node-returns-then-c-gt57
node-returns-then-c-gt57 t c = λ u y.
    inr (broke_here y _ (λ q. omega (arith, c.sign-c.ensures, c.if-c-gt57.true)) (ap is_digit (sym c.sign-c.ensures) ∙ no_digit_above _ c.if-c-gt57.true) c.broken.ensures)

pub node-returns-then-c-gt48 : goal.node-returns-then-c-gt48
node-returns-then-c-gt48 t c = λ u y.
    inl (took_label y _ (λ q. omega (arith, c.sign-c.ensures, c.if-c-gt48.true)) (c.label.ensures u y.same))

pub node-returns-then-c-eq48 : goal.node-returns-then-c-eq48
node-returns-then-c-eq48 t c = λ u y.
    let e = sym c.sign-c.ensures ∙ c.if-c-eq48.true in
    inl (took_label y _ (λ q. omega (arith, e)) (labelled_zero y e c.leaf.ensures))

pub node-returns-then-c-ne40 : goal.node-returns-then-c-ne40
node-returns-then-c-ne40 t c = λ u y.
    inr (broke_here y _ (λ q. c.if-c-ne40.true (c.sign-c.ensures ∙ q)) (ap is_digit (sym c.sign-c.ensures) ∙ no_digit_below _ c.if-c-gt48.false c.if-c-eq48.false) c.broken-then-c-ne40.ensures)

pub pair-returns-then-depth-eq0 : goal.pair-returns-then-depth-eq0
unfolding opened
pair-returns-then-depth-eq0 t c = λ u y. inr (broke_deep y c.requires.1 c.if-depth-eq0.true c.broken.ensures)

pub pair-node-x-requires : goal.pair-node-x-requires
unfolding opened
pair-node-x-requires t c =
    let y = c.requires.0.1 in
    (omega (arith, c.decreases, y.within, y.short), (_, begin_first y c.requires.1 c.if-depth-eq0.false))

pub pair-sign-requires : goal.pair-sign-requires
unfolding opened
pair-sign-requires t c =
    first_end
    (first_read c.args.s.now c.args.at c.args.m.now c.node-x.new.m c.node-x.result c.requires.1 c.if-depth-eq0.false c.node-x.ensures c.requires.0.0 c.requires.0.1)

pub pair-broken-requires-then-sign-ne44 : goal.pair-broken-requires-then-sign-ne44
unfolding opened
pair-broken-requires-then-sign-ne44 t c =
    first_end
    (first_read c.args.s.now c.args.at c.args.m.now c.node-x.new.m c.node-x.result c.requires.1 c.if-depth-eq0.false c.node-x.ensures c.requires.0.0 c.requires.0.1)

pub pair-returns-then-sign-ne44 : goal.pair-returns-then-sign-ne44
unfolding opened
pair-returns-then-sign-ne44 t c = λ u y.
    let first = first_read c.args.s.now c.args.at c.args.m.now c.node-x.new.m c.node-x.result c.requires.1 c.if-depth-eq0.false c.node-x.ensures u y in
    inr (broke_first first (λ q. c.if-sign-ne44.true (c.sign.ensures ∙ q)) c.broken-then-sign-ne44.ensures)

pub pair-node-y-requires : goal.pair-node-y-requires
unfolding opened
pair-node-y-requires t c =
    let y = c.requires.0.1 in
    let first =
    first_read c.args.s.now c.args.at c.args.m.now c.node-x.new.m c.node-x.result c.requires.1 c.if-depth-eq0.false c.node-x.ensures c.requires.0.0 y in
    let comma = sym c.sign.ensures ∙ c.if-sign-ne44.false in
    let took = took_first first comma in
    (omega (arith, c.decreases, took.ahead, took.within, y.short), (_, begin_second first comma))

pub pair-sign-requires-2 : goal.pair-sign-requires-2
unfolding opened
pair-sign-requires-2 t c =
    second_end
    (second_read c.args.s.now c.args.at c.args.m.now c.node-x.new.m c.node-x.result c.node-y.new.m c.node-y.result c.requires.1 c.if-depth-eq0.false c.node-x.ensures
    (sym c.sign.ensures ∙ c.if-sign-ne44.false) c.node-y.ensures c.requires.0.0 c.requires.0.1)

pub pair-broken-requires-then-sign-ne41 : goal.pair-broken-requires-then-sign-ne41
unfolding opened
pair-broken-requires-then-sign-ne41 t c =
    second_end
    (second_read c.args.s.now c.args.at c.args.m.now c.node-x.new.m c.node-x.result c.node-y.new.m c.node-y.result c.requires.1 c.if-depth-eq0.false c.node-x.ensures
    (sym c.sign.ensures ∙ c.if-sign-ne44.false) c.node-y.ensures c.requires.0.0 c.requires.0.1)

pub pair-returns-then-sign-ne41 : goal.pair-returns-then-sign-ne41
unfolding opened
pair-returns-then-sign-ne41 t c = λ u y.
    let second =
    second_read c.args.s.now c.args.at c.args.m.now c.node-x.new.m c.node-x.result c.node-y.new.m c.node-y.result c.requires.1 c.if-depth-eq0.false c.node-x.ensures
    (sym c.sign.ensures ∙ c.if-sign-ne44.false) c.node-y.ensures u y in
    inr (broke_second second (λ q. c.if-sign-ne41.true (c.sign-2.ensures ∙ q)) c.broken-then-sign-ne41.ensures)

pub pair-close-requires : goal.pair-close-requires
unfolding opened
pair-close-requires t c =
    let second =
    second_read c.args.s.now c.args.at c.args.m.now c.node-x.new.m c.node-x.result c.node-y.new.m c.node-y.result c.requires.1 c.if-depth-eq0.false c.node-x.ensures
    (sym c.sign.ensures ∙ c.if-sign-ne44.false) c.node-y.ensures c.requires.0.0 c.requires.0.1 in
    closing second (sym c.sign-2.ensures ∙ c.if-sign-ne41.false)

pub pair-overflow_add-m : goal.pair-overflow_add-m
unfolding opened
pair-overflow_add-m t c =
    let y = c.requires.0.1 in
    let second =
    second_read c.args.s.now c.args.at c.args.m.now c.node-x.new.m c.node-x.result c.node-y.new.m c.node-y.result c.requires.1 c.if-depth-eq0.false c.node-x.ensures
    (sym c.sign.ensures ∙ c.if-sign-ne44.false) c.node-y.ensures c.requires.0.0 y in
    let depth = pair_depth second (sym c.sign-2.ensures ∙ c.if-sign-ne41.false) in
    omega (arith, ap (λ (l : List ℕ). get_or l 8 0) c.close.ensures, depth, y.deep)

pub pair-returns : goal.pair-returns
unfolding opened shut
pair-returns t c = λ u y.
    let second =
    second_read c.args.s.now c.args.at c.args.m.now c.node-x.new.m c.node-x.result c.node-y.new.m c.node-y.result c.requires.1 c.if-depth-eq0.false c.node-x.ensures
    (sym c.sign.ensures ∙ c.if-sign-ne44.false) c.node-y.ensures u y in
    inl
    (took_pair second (sym c.sign-2.ensures ∙ c.if-sign-ne41.false) (ap (λ (l : List ℕ). set l 8 (get_or l 8 0 + 1)) c.close.ensures))
