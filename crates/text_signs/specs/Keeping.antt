-- What is kept of a text, as the functions tell it: so many signs, or that there are too many. Main definitions: too_many, kept_of, SignsKept,
-- KeptIn. Main results: kept_many, kept_few.
use Rattle.std.specs.Prelude.{cond, List, ◌≡◌, ℕ, ◌+◌, ◌-◌, ◌≤◌, ◌<◌, ltb, length, Result, Ok, Err}
use Rattle.std.proofs.Common.{arith, lt-ltb, le-ltb}
use Rattle.rules.specs.Sent.{signs}
use Rattle.blanks.specs.Kept.{kept}
use Rattle.text_laws.specs.Answers.{Same}
use Rattle.text_signs.specs.declared.TooManySigns.{TooManySigns}

abbrev pub too_many : TooManySigns
too_many = record {}

-- q signs, of a text that has n
abbrev pub kept_of : ℕ → ℕ → Result ℕ TooManySigns
kept_of q n = cond (ltb 6056 n) (Err too_many) (Ok q)

-- of a text that has not too many signs, q are kept in front of zeros
pub record SignsKept (s array : List ℕ) (q : ℕ) : Type 0 where
  pub few : length (signs s) ≤ 6056
  pub count : length (kept s) ≡ q
  pub there : Same array (kept s)

abbrev pub KeptIn : List ℕ → List ℕ → Result ℕ TooManySigns → Type 0
KeptIn s array (Ok q) = SignsKept s array q
KeptIn s array (Err e) = 6056 < length (signs s)

pub kept_many : (q m n : ℕ) → m ≡ n → 6056 - q < m → Err too_many ≡ kept_of q (q + n)
kept_many q m n e h = rw (lt-ltb 6056 (q + n) (omega arith))

pub kept_few : (q m n : ℕ) → m ≡ n → q ≤ 6056 → m ≤ 6056 - q → Ok q ≡ kept_of q (q + n)
kept_few q m n e few h = rw (le-ltb 6056 (q + n) (omega arith))
