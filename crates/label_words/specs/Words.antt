-- The word of a label: its signs, the first one lowest, and in the highest byte, where it has fewer than four, how many.
-- Main definitions: word_of. Main results: word_one, word_two_digits, word_three_digits, word_four_digits, by_digits.
use Rattle.std.specs.Prelude.{Bool, true, false, cond, List, [], ◌∷◌, ◌≡◌, refl, ℕ, ◌+◌, ◌-◌, ◌*◌, ◌/◌, ◌%◌, ◌≤◌, ◌<◌, ltb, length}
use Rattle.std.proofs.Common.{ap, ◌∙◌, arith, ltb-true, ltb-false}
use Rattle.rules.specs.Newick.{digits}
use Rattle.grammar.proofs.Decimal.{digits_one, digits_two, digits_three, digits_four}

-- signs as a number, the first one lowest
unfoldable pub spread : List ℕ → ℕ
spread [] = 0
spread (c ∷ s) = c + 256 * spread s

-- one to four signs as a word
unfoldable pub packed : List ℕ → ℕ
unfolding spread
packed s = spread s + cond (ltb (length s) 4) (16777216 * length s) 0

unfoldable pub word_of : ℕ → ℕ
unfolding packed digits
word_of x = packed (digits 4 x)

-- the last two digits, of a number and of what is left of it without its hundreds
pub last_tens : (x : ℕ) → (x - 100 * (x / 100)) / 10 ≡ x / 10 % 10
last_tens x = omega arith

pub last_ones : (x : ℕ) → (x - 100 * (x / 100)) % 10 ≡ x % 10
last_ones x = omega arith

-- the word by the number of digits
pub word_one : (x : ℕ) → x < 10 → word_of x ≡ 16777264 + x
unfolding word_of packed spread
word_one x h = ap packed (digits_one 3 x h) ∙ omega arith

pub word_two_digits : (x : ℕ) → 10 ≤ x → x < 100 → word_of x ≡ 33554432 + (48 + x / 10) + 256 * (48 + x % 10)
unfolding word_of packed spread
word_two_digits x h g = ap packed (digits_two 2 x h g) ∙ omega arith

pub word_three_digits : (x : ℕ) → 100 ≤ x → x < 1000 → word_of x ≡ 50331648 + (48 + x / 100) + 256 * (48 + x / 10 % 10) + 65536 * (48 + x % 10)
unfolding word_of packed spread
word_three_digits x h g =
    let p = last_tens x in
    let q = last_ones x in
    ap packed (digits_three 1 x h g) ∙ omega arith

pub word_four_digits : (x : ℕ) → 1000 ≤ x → x < 10000 → word_of x ≡ (48 + x / 1000) + 256 * (48 + x / 100 % 10) + 65536 * (48 + x / 10 % 10) + 16777216 * (48 + x % 10)
unfolding word_of packed spread
word_four_digits x h g =
    let a : x / 100 / 10 ≡ x / 1000 = omega arith in
    let p = last_tens x in
    let q = last_ones x in
    ap packed (digits_four 0 x h g) ∙ omega arith

-- by the number of digits: one, two, three, four
pub by_digits : (P : ℕ → Type 0) (x : ℕ) → x < 10000 → (x < 10 → P x) → (10 ≤ x → x < 100 → P x) → (100 ≤ x → x < 1000 → P x) → (1000 ≤ x → P x) → P x
by_digits P x h one two three four = go (ltb x 10) refl (ltb x 100) refl (ltb x 1000) refl
  where
    go : (a : Bool) → ltb x 10 ≡ a → (b : Bool) → ltb x 100 ≡ b → (c : Bool) → ltb x 1000 ≡ c → P x
    go true e b f c g = one (ltb-true x 10 e)
    go false e true f c g = two (ltb-false x 10 e) (ltb-true x 100 f)
    go false e false f true g = three (ltb-false x 100 f) (ltb-true x 1000 g)
    go false e false f false g = four (ltb-false x 1000 g)
