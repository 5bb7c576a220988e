-- The guards of the calls: when a refusal speaks, and when the call goes on.
-- Main results: no_leaf, many_leaves, some_leaves (1); wrong_length, right_length (2); refuse_if_lem, pass_if (a test); refuse_at_lem, pass_at (a fault found);
-- refuse_label_lem, pass_label (a label at fault).
-- And back: what is made went past each guard: passed_count, passed_length, passed_if, passed_at.
use Rattle.std.specs.Prelude.{Bool, true, false, not, ◌||◌, ◌≢◌, ◌≡◌, refl, ℕ, ◌≤◌, ◌<◌, eqb, ltb}
use Rattle.std.proofs.Math.Option.{Option, none, some}
use Rattle.std.proofs.Common.{sym, arith, ltb-false, lt-ltb, le-ltb, eqb-true, eq-eqb, ne_eqb}
use Rattle.std.proofs.lemmas.Bool.{eqb-false, not-false}
use Rattle.rules.specs.Answer.{Making, made, refuses}
use Rattle.rules.specs.Names.{NameFault, PlacedFault}
use Rattle.rules.specs.Guards.{refuse_if, refuse_at, label_number, refuse_label, refuse_count, refuse_length}
use Rattle.basics.proofs.Bools.{or_no}
use Rattle.accepting.proofs.Answers.{made_not_refuses}

-- 1: "leaf count 0"
pub no_leaf : {W : Type 0} (n : ℕ) (m : Making W) → n ≡ 0 → refuse_count n m ≡ refuses 1 0
unfolding refuse_count
no_leaf n m e = rw (eq-eqb n 0 e)

-- 1: "or above 1,024"
pub many_leaves : {W : Type 0} (n : ℕ) (m : Making W) → 1024 < n → refuse_count n m ≡ refuses 1 0
unfolding refuse_count
many_leaves n m h = let e = ne_eqb n 0 (omega arith) in rw (e, lt-ltb 1024 n h)

pub some_leaves : {W : Type 0} (n : ℕ) (m : Making W) → 1 ≤ n → n ≤ 1024 → refuse_count n m ≡ m
unfolding refuse_count
some_leaves n m l h = let e = ne_eqb n 0 (omega arith) in rw (e, le-ltb 1024 n h)

-- 2: "input length wrong"
pub wrong_length : {W : Type 0} (wanted length' : ℕ) (m : Making W) → length' ≢ wanted → refuse_length wanted length' m ≡ refuses 2 wanted
unfolding refuse_length
wrong_length wanted length' m h = rw (ne_eqb length' wanted h)

pub right_length : {W : Type 0} (wanted length' : ℕ) (m : Making W) → length' ≡ wanted → refuse_length wanted length' m ≡ m
unfolding refuse_length
right_length wanted length' m e = rw (eq-eqb length' wanted e)

-- a test that passes, and one that does not
pub refuse_if_lem : {W : Type 0} (b : Bool) (number place : ℕ) (m : Making W) → b ≡ true → refuse_if b number place m ≡ refuses number place
unfolding refuse_if
refuse_if_lem b number place m e = rw e

pub pass_if : {W : Type 0} (b : Bool) (number place : ℕ) (m : Making W) → b ≡ false → refuse_if b number place m ≡ m
unfolding refuse_if
pass_if b number place m e = rw e

-- a fault that is there, and none
pub refuse_at_lem : {W : Type 0} (number place : ℕ) (o : Option ℕ) (m : Making W) → o ≡ some place → refuse_at number o m ≡ refuses number place
unfolding refuse_at
refuse_at_lem number place o m e = rw e

pub pass_at : {W : Type 0} (number : ℕ) (o : Option ℕ) (m : Making W) → o ≡ none → refuse_at number o m ≡ m
unfolding refuse_at
pass_at number o m e = rw e

-- a label at fault, and none
pub refuse_label_lem : {W : Type 0} (wrong : NameFault) (place : ℕ) (o : Option PlacedFault) (m : Making W) → o ≡ some (wrong, place)
    → refuse_label o m ≡ refuses (label_number wrong) place
unfolding refuse_label
refuse_label_lem wrong place o m e = rw e

pub pass_label : {W : Type 0} (o : Option PlacedFault) (m : Making W) → o ≡ none → refuse_label o m ≡ m
unfolding refuse_label
pass_label o m e = rw e

-- What is made went past each guard.
pub passed_if : {W : Type 0} {x : W} (b : Bool) (number place : ℕ) (m : Making W) → refuse_if b number place m ≡ made x → (b ≡ false) × (m ≡ made x)
unfolding refuse_if
passed_if true number place m e = absurd (made_not_refuses (sym e))
passed_if false number place m e = (refl, e)

pub passed_at : {W : Type 0} {x : W} (number : ℕ) (o : Option ℕ) (m : Making W) → refuse_at number o m ≡ made x → (o ≡ none) × (m ≡ made x)
unfolding refuse_at
passed_at number none m e = (refl, e)
passed_at number (some place) m e = absurd (made_not_refuses (sym e))

pub passed_count : {W : Type 0} {x : W} (n : ℕ) (m : Making W) → refuse_count n m ≡ made x → (1 ≤ n) × (n ≤ 1024) × (m ≡ made x)
unfolding refuse_count
passed_count n m e =
    let p = passed_if (eqb n 0 || ltb 1024 n) 1 0 m e in
    let right = or_no (eqb n 0) (ltb 1024 n) p.0 in
    let some_leaf : n ≢ 0 = eqb-false n 0 right.0 in
    (omega arith, ltb-false 1024 n right.1, p.1)

pub passed_length : {W : Type 0} {x : W} (wanted length' : ℕ) (m : Making W) → refuse_length wanted length' m ≡ made x → (length' ≡ wanted) × (m ≡ made x)
unfolding refuse_length
passed_length wanted length' m e =
    let p = passed_if (not (eqb length' wanted)) 2 wanted m e in
    (eqb-true length' wanted (not-false (eqb length' wanted) p.0), p.1)
