-- The tree count of a header by its word of four bytes, and how long an archive may be.
-- Main results: trees_word, bits_most, records_most.
use mathlib.Core.Path.{◌≡◌, sym, ◌∙◌}
use mathlib.Core.List.{List}
use Prim.Native.Nat.{ℕ, ◌*◌, ◌/◌, ◌%◌, ◌≤◌, ◌<◌}
use native.Mathlib.Nat.{mul-le-mul}
use native.Mathlib.Omega.{arith}
use lib.ListN.{length, get_or}
use Rattle.rules.specs.Archive.{trees_in, field_bits, bare_length}
use Rattle.record_laws.proofs.Width.{total_most}
use Rattle.record_laws.specs.Window.{value_at, word_at}
use Rattle.record_laws.proofs.Window.{value_word}

-- the low 21 bits of the word
pub trees_word : (s : List ℕ) → ((i : ℕ) → get_or s i 0 < 256) → 4 ≤ length s → word_at 4 s 0 % 2097152 ≡ trees_in s
unfolding trees_in value_at
trees_word s b h =
    let one : word_at 4 s 0 % 2097152 ≡ word_at 4 s 0 / 1 % 2097152 = omega arith in
    one ∙ sym (value_word 4 s 0 11 21 b (omega arith) (omega arith))

-- a record without its n has at most 1,279 bytes
pub bits_most : (n : ℕ) → n ≤ 1024 → field_bits n ≤ 10229
unfolding field_bits
bits_most n h = omega (arith, total_most n h)

bare_most : (n : ℕ) → n ≤ 1024 → bare_length n ≤ 1279
unfolding bare_length
bare_most n h = omega (arith, bits_most n h)

-- and so an archive's length fits 32 bits
pub records_most : (n count : ℕ) → n ≤ 1024 → count < 2097152 → count * bare_length n ≤ 2682256129
records_most n count h l = let k : count ≤ 2097151 = omega arith in mul-le-mul k (bare_most n h)
