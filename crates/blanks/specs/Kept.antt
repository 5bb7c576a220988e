-- The signs that a reader keeps of bytes as sent: those up to the first digit that parts a label. Main definitions: kept_from, kept.
use Rattle.std.specs.Prelude.{cond, List, [], ◌∷◌, ℕ}
use Rattle.rules.specs.Sent.{blank}
use Rattle.blanks.specs.Marks.{Last, other, next, parts}

unfoldable pub kept_from : Last → List ℕ → List ℕ
unfolding blank parts next
kept_from l [] = []
kept_from l (c ∷ s) = cond (blank c) (kept_from (next l c) s) (cond (parts l c) [] (c ∷ kept_from (next l c) s))

unfoldable pub kept : List ℕ → List ℕ
unfolding kept_from
kept s = kept_from other s
