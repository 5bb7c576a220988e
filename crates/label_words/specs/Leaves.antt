-- The words of labels in a row, from label 0 on.
-- Main definitions: word_places, leaves_place, Labels, LeafWords, Tens, TenMore.
use Rattle.std.specs.Prelude.{◌≡◌, List, ℕ, ◌+◌, ◌*◌, ◌<◌, length, get_or}
use Rattle.label_words.specs.Words.{word_of}

-- a word for each node, of which there are at most 2,047, and behind them the number of leaves
abbrev pub word_places : ℕ
word_places = 2048

abbrev pub leaves_place : ℕ
leaves_place = 2047

-- the words of the labels below n
abbrev pub Labels : ℕ → List ℕ → Type 0
Labels n words = (x : ℕ) → x < n → get_or words x 0 ≡ word_of x

-- the words of n leaves, and how many they are
pub record LeafWords (n : ℕ) (words : List ℕ) : Type 0 where
  pub labels : Labels n words
  pub leaves : get_or words leaves_place 0 ≡ n
  pub long : length words ≡ word_places

-- the words of the first labels, so many times ten
pub record Tens (r : ℕ) (words : List ℕ) : Type 0 where
  pub labels : Labels (10 * r) words
  pub long : length words ≡ word_places

-- ten numbers that rise by a step, from a place on; the others stay
pub record TenMore (before : List ℕ) (at first step : ℕ) (after : List ℕ) : Type 0 where
  pub ten : (d : ℕ) → d < 10 → get_or after (at + d) 0 ≡ first + d * step
  pub others : (x : ℕ) → x < at → get_or after x 0 ≡ get_or before x 0
  pub same : length after ≡ length before
