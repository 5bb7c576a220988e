-- The signs of a label, by its word.
-- Main definitions: word_bytes, sign_count. Main results: word_signs, word_bytes_lem.
use Rattle.std.specs.Prelude.{List, [], ◌∷◌, ◌≡◌, ℕ, ◌+◌, ◌*◌, ◌/◌, ◌%◌, ◌≤◌, ◌<◌, min, length, take}
use Rattle.std.proofs.Common.{sym, ap, subst, ◌∙◌, arith}
use Rattle.rules.specs.Newick.{digits}
use Rattle.grammar.proofs.Decimal.{digits_one, digits_two, digits_three, digits_four}
use Rattle.label_words.specs.Words.{word_of, last_tens, last_ones, word_one, word_two_digits, word_three_digits, word_four_digits, by_digits}

-- the four bytes of a word, the lowest first
abbrev pub word_bytes : ℕ → List ℕ
word_bytes w = w % 256 ∷ w / 256 % 256 ∷ w / 65536 % 256 ∷ w / 16777216 % 256 ∷ []

-- how many signs a word has
unfoldable pub sign_count : ℕ → ℕ
sign_count w = min (w / 16777216) 4

-- a label's word tells how many signs it has
pub word_signs : (x : ℕ) → x < 10000 → sign_count (word_of x) ≡ length (digits 4 x)
unfolding sign_count
word_signs x h = by_digits (λ (x : ℕ). sign_count (word_of x) ≡ length (digits 4 x)) x h
    (λ a. omega (arith, word_one x a, ap length (digits_one 3 x a)))
    (λ a b. omega (arith, word_two_digits x a b, ap length (digits_two 2 x a b)))
    (λ a b. omega (arith, word_three_digits x a b, ap length (digits_three 1 x a b)))
    (λ a. omega (arith, word_four_digits x a h, ap length (digits_four 0 x a h)))

bytes_of : (w a b c d : ℕ) → w ≡ a + 256 * b + 65536 * c + 16777216 * d → a < 256 → b < 256 → c < 256 → d < 256 → word_bytes w ≡ a ∷ b ∷ c ∷ d ∷ []
bytes_of w a b c d e ha hb hc hd = grind arith

-- and begins with its signs
pub word_bytes_lem : (x : ℕ) → x < 10000 → take (length (digits 4 x)) (word_bytes (word_of x)) ≡ digits 4 x
word_bytes_lem x h = by_digits (λ (x : ℕ). take (length (digits 4 x)) (word_bytes (word_of x)) ≡ digits 4 x) x h one two three four
  where
    via : (s : List ℕ) → digits 4 x ≡ s → take (length s) (word_bytes (word_of x)) ≡ s → take (length (digits 4 x)) (word_bytes (word_of x)) ≡ digits 4 x
    via s e f = subst (λ (s : List ℕ). take (length s) (word_bytes (word_of x)) ≡ s) (sym e) f

    one : x < 10 → take (length (digits 4 x)) (word_bytes (word_of x)) ≡ digits 4 x
    one a = via _ (digits_one 3 x a) (ap (take 1) (bytes_of (word_of x) (48 + x) 0 0 1 (omega (arith, word_one x a)) (omega arith) (omega arith) (omega arith) (omega arith)))

    two : 10 ≤ x → x < 100 → take (length (digits 4 x)) (word_bytes (word_of x)) ≡ digits 4 x
    two a b =
        via _ (digits_two 2 x a b)
        (ap (take 2) (bytes_of (word_of x) (48 + x / 10) (48 + x % 10) 0 2 (omega (arith, word_two_digits x a b)) (omega arith) (omega arith) (omega arith) (omega arith)))

    three : 100 ≤ x → x < 1000 → take (length (digits 4 x)) (word_bytes (word_of x)) ≡ digits 4 x
    three a b =
        via _ (digits_three 1 x a b ∙ rw (last_tens x, last_ones x))
        (ap (take 3) (bytes_of (word_of x) (48 + x / 100) (48 + x / 10 % 10) (48 + x % 10) 3 (omega (arith, word_three_digits x a b)) (omega arith) (omega arith) (omega arith) (omega arith)))

    four : 1000 ≤ x → take (length (digits 4 x)) (word_bytes (word_of x)) ≡ digits 4 x
    four a =
        let i : x / 100 / 10 ≡ x / 1000 = omega arith in
        via _ (digits_four 0 x a h ∙ rw (i, last_tens x, last_ones x))
        (bytes_of (word_of x) (48 + x / 1000) (48 + x / 100 % 10) (48 + x / 10 % 10) (48 + x % 10) (word_four_digits x a h) (omega arith) (omega arith) (omega arith) (omega arith))
