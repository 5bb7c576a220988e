use Rattle.std.proofs.Common.{◌≡◌, ℕ, ◌+◌, ◌*◌, ◌<◌, get_or, length}
use Rattle.label_words.proofs.ten_words.Given as goal

abbrev pub invariant-loop-d : goal.invariant-loop-d
invariant-loop-d l = record {
  ten : (e : ℕ) → e < l.d → get_or l.words (l.at + e) 0 ≡ l.first + e * l.step;
  others : (x : ℕ) → x < l.at → get_or l.words x 0 ≡ get_or l.initial.words x 0;
  same : length l.words ≡ length l.initial.words;
}
