-- Labels that continue others by one digit, and their words.
-- Main definitions: Longer. Main results: word_small, word_first, word_two, word_three, word_four.
use Rattle.std.specs.Prelude.{◌≡◌, ℕ, ◌+◌, ◌*◌, ◌≤◌, ◌<◌}
use Rattle.std.proofs.Common.{arith}
use Rattle.label_words.specs.Words.{word_of, word_one, word_two_digits, word_three_digits, word_four_digits, by_digits}

-- the words of ten labels that differ in their last digit, from the word of the label that the others continue
abbrev pub Longer : ℕ → ℕ → ℕ → ℕ → Type 0
Longer from to more step = (y d : ℕ) → from ≤ y → y < to → d < 10 → word_of (10 * y + d) ≡ word_of y + more + d * step

pub word_small : (x : ℕ) → x < 1000 → word_of x < 60000000
word_small x h = by_digits (λ (x : ℕ). word_of x < 60000000) x (omega arith)
    (λ a. omega (arith, word_one x a))
    (λ a b. omega (arith, word_two_digits x a b))
    (λ a b. omega (arith, word_three_digits x a b))
    (λ a. absurd (omega arith))

pub word_first : (d : ℕ) → d < 10 → word_of d ≡ 16777264 + d * 1
word_first d h = omega (arith, word_one d h)

pub word_two : (to : ℕ) → to ≤ 10 → Longer 1 to 16789504 256
word_two to h y d a b c = grind (arith, word_one y, word_two_digits (10 * y + d))

pub word_three : (from to : ℕ) → (from < to → 10 ≤ from) → to ≤ 100 → Longer from to 19922944 65536
word_three from to g h y d a b c = grind (arith, word_two_digits y, word_three_digits (10 * y + d))

pub word_four : (from to : ℕ) → (from < to → 100 ≤ from) → to ≤ 1000 → Longer from to 754974720 16777216
word_four from to g h y d a b c = grind (arith, word_three_digits y, word_four_digits (10 * y + d))
