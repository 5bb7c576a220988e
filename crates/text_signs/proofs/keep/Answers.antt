use Rattle.text_signs.proofs.Looks.{plain_signs}
use Rattle.text_signs.proofs.Squeezing.{plain_keeps}
use native.Mathlib.Omega.{arith}
use Rattle.text_signs.proofs.keep.Goals as goal

pub returns-then-least_byte-gt32 : goal.returns-then-least_byte-gt32
returns-then-least_byte-gt32 c = let s = c.args.s.now in
    let least = c.least_byte.ensures in
    let plain = plain_signs s (λ k l. omega (arith, least k l, c.if-least_byte-gt32.true)) in
    rw c.copy.ensures (plain_keeps s c.args.signs.now plain c.if-s-le-MOST.true c.requires)
