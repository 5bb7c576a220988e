-- `write_label` meets its contract: by how many digits the number has, one or two of them are written at a time.
use native.Mathlib.Omega.{arith}
use Prim.Native.Nat.{ℕ, ◌-◌, ◌*◌, ◌/◌}
use mathlib.Core.List.{[], ◌∷◌}
use mathlib.Core.Path.{◌∙◌, sym, ap}
use lib.ListN.{length, length-set}
use Rattle.grammar.specs.Decimal.{two_digits}
use Rattle.grammar.proofs.Decimal.{digits_one, digits_two, digits_three, digits_four}
use Rattle.digits.proofs.Places.{wrote_1, wrote_2, wrote_3, wrote_4}
use Rattle.digits.proofs.write_label.Goals as goal

pub bounds-out-at : goal.bounds-out-at
bounds-out-at c = omega (arith, c.requires.1, ap length (digits_one 3 c.args.x c.if-y-lt10.true))

pub returns-then-y-lt10 : goal.returns-then-y-lt10
returns-then-y-lt10 c = let one = digits_one 3 c.args.x c.if-y-lt10.true in
    wrote_1 c.args.out.now c.args.at _ _ (one ∙ ap (λ (a : ℕ). a ∷ []) (sym c.sign.ensures))

pub write_two-requires : goal.write_two-requires
write_two-requires c = (omega arith, omega (arith, c.requires.1, ap length (digits_two 2 c.args.x c.if-y-lt10.false c.if-y-lt100.true)))

pub returns-then-y-lt100 : goal.returns-then-y-lt100
returns-then-y-lt100 c = let two = digits_two 2 c.args.x c.if-y-lt10.false c.if-y-lt100.true in
    wrote_2 c.args.out.now c.args.at _ c.args.x _ two c.write_two.ensures

pub bounds-out-at-then-y-lt1000 : goal.bounds-out-at-then-y-lt1000
bounds-out-at-then-y-lt1000 c = omega (arith, c.requires.1, ap length (digits_three 1 c.args.x c.if-y-lt100.false c.if-y-lt1000.true))

pub write_two-requires-then-y-lt1000 : goal.write_two-requires-then-y-lt1000
write_two-requires-then-y-lt1000 c = let three = digits_three 1 c.args.x c.if-y-lt100.false c.if-y-lt1000.true in
    (omega arith, simp length-set (omega (arith, c.requires.1, ap length three)))

pub returns-then-y-lt1000 : goal.returns-then-y-lt1000
returns-then-y-lt1000 c = let rest = c.args.x - 100 * (c.args.x / 100) in
    let three = digits_three 1 c.args.x c.if-y-lt100.false c.if-y-lt1000.true in
    let signs = three ∙ ap (λ (a : ℕ). a ∷ two_digits rest) (sym c.sign-then-y-lt1000.ensures) in
    wrote_3 c.args.out.now c.args.at _ _ rest _ signs c.write_two-then-y-lt1000.ensures

pub write_two-requires-2 : goal.write_two-requires-2
write_two-requires-2 c = (omega arith, omega (arith, c.requires.1, ap length (digits_four 0 c.args.x c.if-y-lt1000.false c.requires.0)))

pub write_two-requires-3 : goal.write_two-requires-3
write_two-requires-3 c = let four = digits_four 0 c.args.x c.if-y-lt1000.false c.requires.0 in
    (omega arith, omega (arith, c.requires.1, ap length four, c.write_two-2.auto.out))

pub returns : goal.returns
returns c = let x = c.args.x in
    let four = digits_four 0 x c.if-y-lt1000.false c.requires.0 in
    wrote_4 c.args.out.now c.args.at _ (x / 100) (x - 100 * (x / 100)) _ _ four c.write_two-2.ensures c.write_two-3.ensures
