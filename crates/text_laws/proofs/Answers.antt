-- What the readers of a text ask and answer: where one may begin, and what it leaves where it reads a label, a tree, or breaks off.
-- Main definitions: Same, recorded, MayBegin, Labelled, Took, Broke, Answers, TextTook.
use Rattle.std.specs.Prelude.{List, ℕ, ◌≤◌, ◌<◌, length}
use Rattle.std.proofs.Common.{inl, inr, arith}
use Rattle.grammar.specs.Reading.{Reader}
use Rattle.text_laws.specs.Answers.{Answers}

-- the place where they end may be looked at
pub answers_place : {f : Reader} {s : List ℕ} {at : ℕ} {m m' : List ℕ} {r : ℕ} → length s ≤ 6056 → Answers f s at m m' r → r < 6144
answers_place h (inl t) = omega (arith, t.within)
answers_place h (inr b) = omega (arith, b.off)
