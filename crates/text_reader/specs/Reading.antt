-- What the reader of a whole text reads and answers. Main definitions: InFront, TextAnswers.
use Rattle.std.specs.Prelude.{List, ◌≡◌, ℕ, ◌≤◌, length, Result, Ok, Err}
use Rattle.rules.specs.Newick.{Text, BreaksAt}
use Rattle.text_laws.specs.Answers.{Same, TextTook}
use Rattle.text_reader.specs.declared.Broken.{Broken}

-- the signs of a text stand in front of zeros
pub record InFront (s signs : List ℕ) (count : ℕ) : Type 0 where
  pub short : length s ≤ 6056
  pub long : length s ≡ count
  pub same : Same signs s

abbrev pub TextAnswers : List ℕ → List ℕ → List ℕ → Result ℕ Broken → Type 0
TextAnswers s m m' (Ok n) = TextTook s m m' n
TextAnswers s m m' (Err e) = BreaksAt Text s e.sign
