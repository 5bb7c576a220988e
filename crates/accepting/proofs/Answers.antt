-- Two answers that read alike are the same answer, so that a promise about what an answer reads as fixes the answer.
-- Main results: done_same, done_not_refused, made_same, made_not_refuses, reads_unique.
use Rattle.std.specs.Prelude.{cond, ◌≡◌, refl, ℕ, eqb}
use Rattle.std.proofs.Common.{sym, ap, ◌∙◌, arith}
use Rattle.rules.specs.Answer.{Outcome, done, refused, number_of, reads, made, refuses}
use Rattle.rules.specs.declared.Kind.{Kind}
use Rattle.rules.specs.declared.Kind.TheVariants.{LeafCount, InputLength, Room, Entry, Parent, Child, NamedBefore, Grammar, StrayLabel, Padding, Permutation, TreeNumber, DoubleLabel, CladeLeaves, CladeRoom, TreeCount}
use Rattle.rules.specs.declared.Answer.{Answer}
use Rattle.rules.specs.declared.Answer.TheVariants.{Done, Refused}

-- an outcome is done or refused, and says its numbers
pub done_same : {k l : ℕ} → done k ≡ done l → k ≡ l
done_same e = cc

pub done_not_refused : (n number place : ℕ) → done n ≡ refused number place → ⊥
done_not_refused n number place e = let z : ◌≡◌ {A = ℕ} 0 1 = cc in omega arith

-- and so is what a call makes
pub made_same : {W : Type 0} {x y : W} → made x ≡ made y → x ≡ y
made_same e = cc

pub made_not_refuses : {W : Type 0} {x : W} {number place : ℕ} → made x ≡ refuses number place → ⊥
made_not_refuses e = let z : ◌≡◌ {A = ℕ} 0 1 = cc in omega arith

-- the kind of a number
kind_of : ℕ → Kind
kind_of k =
    cond (eqb k 1) LeafCount
    (cond (eqb k 2) InputLength
    (cond (eqb k 3) Room
    (cond (eqb k 4) Entry
    (cond (eqb k 5) Parent
    (cond (eqb k 6) Child
    (cond (eqb k 7) NamedBefore
    (cond (eqb k 8) Grammar
    (cond (eqb k 9) StrayLabel
    (cond (eqb k 10) Padding
    (cond (eqb k 11) Permutation
    (cond (eqb k 12) TreeNumber
    (cond (eqb k 13) DoubleLabel
    (cond (eqb k 14) CladeLeaves
    (cond (eqb k 15) CladeRoom TreeCount))))))))))))))

kind_of_number : (k : Kind) → kind_of (number_of k) ≡ k
unfolding kind_of number_of
kind_of_number LeafCount = refl
kind_of_number InputLength = refl
kind_of_number Room = refl
kind_of_number Entry = refl
kind_of_number Parent = refl
kind_of_number Child = refl
kind_of_number NamedBefore = refl
kind_of_number Grammar = refl
kind_of_number StrayLabel = refl
kind_of_number Padding = refl
kind_of_number Permutation = refl
kind_of_number TreeNumber = refl
kind_of_number DoubleLabel = refl
kind_of_number CladeLeaves = refl
kind_of_number CladeRoom = refl
kind_of_number TreeCount = refl

-- the answer of an outcome
answer_of : Outcome → Answer
answer_of (done k) = Done k
answer_of (refused number place) = Refused (record { kind = kind_of number; place = place })

answer_of_reads : (a : Answer) → answer_of (reads a) ≡ a
unfolding answer_of reads
answer_of_reads (Done k) = refl
answer_of_reads (Refused r) = ap (λ (k : Kind). Refused (record { kind = k; place = r.place })) (kind_of_number r.kind)

-- "That two results satisfying it are equal is itself proved": what an answer reads as fixes it
pub reads_unique : (a b : Answer) → reads a ≡ reads b → a ≡ b
reads_unique a b e = sym (answer_of_reads a) ∙ ap answer_of e ∙ answer_of_reads b
