use mathlib.Core.Path.{◌≡◌, refl, sym, ◌∙◌}
use mathlib.Core.List.{List}
use Prim.Native.Nat.{ℕ, ◌-◌}
use lib.ListN.{length}
use Rattle.grammar.specs.Reading.{node_read}
use Rattle.text_laws.specs.Cells.{cell, begun}
use Rattle.text_laws.specs.Answers.{MayBegin, Answers}
use Rattle.text_laws.specs.Whole.{NodeRead}
use Rattle.text_laws.proofs.Whole.{begin_start, node_end, text_broken, broken_small, end_place, text_longer, text_took}
use Rattle.text_reader.specs.Reading.{InFront}
use native.Mathlib.Omega.{arith}
use Rattle.text_reader.proofs.read_text.Goals as goal

-- the text's node is read
node_reads : {signs : List ℕ} {count : ℕ} {m m₁ : List ℕ} {x : ℕ} (t : List ℕ)
    → InFront t signs count
    → length m ≡ 2576
    → ((s : List ℕ) → MayBegin signs s 0 (begun m) → Answers (node_read (cell (begun m) 8 - 1)) s 0 (begun m) m₁ x)
    → NodeRead signs t m m₁ x
node_reads {m = m} t F room reads = let begins = begin_start m F.same F.short room in record { room = room; begins = begins; answers = reads t begins }

pub node-x-requires : goal.node-x-requires
node-x-requires c = (c.requires.0, begin_start c.args.m.now c.requires.1.same c.requires.1.short c.told-m)

pub sign-requires : goal.sign-requires
sign-requires c = node_end (node_reads c.requires.0 c.requires.1 c.told-m c.node-x.ensures)

pub broken-requires : goal.broken-requires
broken-requires c = node_end (node_reads c.requires.0 c.requires.1 c.told-m c.node-x.ensures)

pub overflow_cast-sign : goal.overflow_cast-sign
overflow_cast-sign c = omega (arith, broken_small (node_reads c.requires.0 c.requires.1 c.told-m c.node-x.ensures) c.broken.ensures.1)

pub returns-then-sign-ne59 : goal.returns-then-sign-ne59
returns-then-sign-ne59 c = λ t F. text_broken (node_reads t F c.told-m c.node-x.ensures) (λ q. c.if-sign-ne59.true (c.sign.ensures ∙ q)) c.broken.ensures.1

pub overflow_add-x : goal.overflow_add-x
overflow_add-x c = omega (arith, node_end (node_reads c.requires.0 c.requires.1 c.told-m c.node-x.ensures))

pub overflow_add-result : goal.overflow_add-result
overflow_add-result c = omega (arith, node_end (node_reads c.requires.0 c.requires.1 c.told-m c.node-x.ensures))

pub returns-then-x-count : goal.returns-then-x-count
returns-then-x-count c = λ t F.
    text_longer (node_reads t F c.told-m c.node-x.ensures) (sym c.sign.ensures ∙ c.if-sign-ne59.false) (omega (arith, F.long, c.if-x-count.true))

pub overflow_sub-result : goal.overflow_sub-result
overflow_sub-result c =
    omega (arith, end_place (node_reads c.requires.0 c.requires.1 c.told-m c.node-x.ensures) (sym c.sign.ensures ∙ c.if-sign-ne59.false))

pub overflow_cast-result : goal.overflow_cast-result
overflow_cast-result c =
    omega (arith, end_place (node_reads c.requires.0 c.requires.1 c.told-m c.node-x.ensures) (sym c.sign.ensures ∙ c.if-sign-ne59.false))

pub overflow_add-result-2 : goal.overflow_add-result-2
overflow_add-result-2 c =
    omega (arith, end_place (node_reads c.requires.0 c.requires.1 c.told-m c.node-x.ensures) (sym c.sign.ensures ∙ c.if-sign-ne59.false))

pub returns : goal.returns
returns c = λ t F.
    text_took (node_reads t F c.told-m c.node-x.ensures) (sym c.sign.ensures ∙ c.if-sign-ne59.false) (omega (arith, F.long, c.if-x-count.false)) refl
