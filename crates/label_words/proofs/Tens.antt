-- The words of labels, ten by ten.
-- Main results: first_ten, small_word, next_ten.
use Rattle.std.proofs.Common.{List, ◌≡◌, sym, ap, ◌∙◌, zero-add, ℕ, ◌+◌, ◌-◌, ◌*◌, ◌≤◌, ◌<◌, length, get_or, arith}
use Rattle.label_words.specs.Words.{word_of}
use Rattle.label_words.specs.Longer.{word_small, word_first}
use Rattle.label_words.specs.Leaves.{word_places, Tens, TenMore}

-- the labels of one digit
pub first_ten : {before after : List ℕ} → length before ≡ word_places → TenMore before 0 16777264 1 after → Tens 1 after
first_ten {after = after} l T = record { labels = λ x h. ap (λ (i : ℕ). get_or after i 0) (sym (zero-add x)) ∙ T.ten x h ∙ sym (word_first x h); long = T.same ∙ l }

-- the word that ten others are made from leaves room for more signs
pub small_word : {words : List ℕ} {y : ℕ} → Tens y words → 1 ≤ y → y < 1000 → get_or words y 0 < 60000000
small_word {words} {y} T some few = rw (T.labels y (omega arith)) (word_small y few)

-- the ten labels that continue label y stand behind those that continue the labels below it
pub next_ten : {before after : List ℕ} {step : ℕ} (y more : ℕ) → Tens y before → 1 ≤ y → ((d : ℕ) → d < 10 → word_of (10 * y + d) ≡ word_of y + more + d * step)
    → TenMore before (10 * y) (get_or before y 0 + more) step after → Tens (y + 1) after
next_ten {before} {after} {step} y more S some w T = record { labels = labels; long = T.same ∙ S.long }
  where
    labels : (x : ℕ) → x < 10 * (y + 1) → get_or after x 0 ≡ word_of x
    labels x h = grind (arith, T.ten (x - 10 * y), w (x - 10 * y), S.labels y, T.others x, S.labels x)
