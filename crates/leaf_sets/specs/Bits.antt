-- The leaf sets of single leaves: leaf x is bit x.
-- Main definition: Bits. Main result: bits_copied.
use Rattle.std.specs.Prelude.{◌≡◌, List, ◌++◌, ℕ, ◌^◌, ◌≤◌, ◌<◌, length, get_or, take, drop}
use Rattle.std.proofs.Common.{◌∙◌, arith, get_or-take, length-take-le}
use Rattle.std.proofs.Math.ListN.{get_or-append}

-- the first n words are the leaf sets of the leaves below n
pub record Bits (n : ℕ) (bits : List ℕ) : Type 0 where
  pub at : (x : ℕ) → x < n → get_or bits x 0 ≡ 2 ^ x

-- the first n of them, copied
pub bits_copied : {bits : List ℕ} (n : ℕ) (out : List ℕ) → n ≤ length bits → n ≤ 64 → Bits 64 bits → Bits n (take n bits ++ drop n out)
bits_copied {bits} n out h few B = record {
  at = λ x l. get_or-append (take n bits) (drop n out) 0 x (omega (arith, length-take-le n bits h)) ∙ get_or-take n bits x 0 l ∙ B.at x (omega arith);
}
