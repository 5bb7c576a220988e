-- The first entry above its bound, as a number.
-- Main definitions: first_fault, Passed.
-- Main results: first_fault_none, first_fault_some, none_numbered, some_numbered, passed_start, passed_here, passed_end, first_above, empty_fault, all_within.
use Rattle.std.specs.Prelude.{◌≡◌, refl, List, [], ◌∷◌, ℕ, zero, suc, ◌+◌, ◌-◌, ◌*◌, ◌≤◌, ◌<◌, length, get_or, drop}
use Rattle.std.proofs.Common.{◌∙◌, add-one, arith, drop-cons, lt-ltb, le-ltb}
use Rattle.std.proofs.Math.Option
use Rattle.std.proofs.Math.Option.{Option, none, some}
use Rattle.std.proofs.Math.Seq.{drop-length}
use Rattle.rules.specs.Vector.{entry, bound, fault}
use Rattle.basics.proofs.Fault.{fault_inside, bounded_no_fault}

-- the number of the first entry above its bound, and the number of entries where there is none
unfoldable pub first_fault : List ℕ → ℕ
first_fault v = Option.get_or (fault 0 v) (length v)

-- what the number says
pub first_fault_none : (v : List ℕ) → length v ≤ first_fault v → fault 0 v ≡ none
unfolding first_fault
first_fault_none v h = go (fault 0 v) refl h
  where
    go : (o : Option ℕ) → fault 0 v ≡ o → length v ≤ Option.get_or o (length v) → o ≡ none
    go none q l = refl
    go (some p) q l = absurd (omega (arith, fault_inside 0 v p q))

pub first_fault_some : (v : List ℕ) → first_fault v < length v → fault 0 v ≡ some (first_fault v)
unfolding first_fault
first_fault_some v h = go (fault 0 v) h
  where
    go : (o : Option ℕ) → Option.get_or o (length v) < length v → o ≡ some (Option.get_or o (length v))
    go none l = absurd (omega arith)
    go (some p) l = refl

-- and which number says it
pub none_numbered : (v : List ℕ) → fault 0 v ≡ none → length v ≡ first_fault v
unfolding first_fault
none_numbered v e = rw e

pub some_numbered : (v : List ℕ) (i : ℕ) → fault 0 v ≡ some i → i ≡ first_fault v
unfolding first_fault
some_numbered v i e = rw e

-- the loop of the check: no fault before entry i
pub record Passed (v : List ℕ) (i : ℕ) : Type 0 where
  pub rest : fault 0 v ≡ fault i (drop i v)

pub passed_start : (v : List ℕ) → 0 < length v → get_or v 0 0 ≤ 0 → Passed v 1
unfolding fault
passed_start [] h l = absurd (omega arith)
passed_start (x ∷ v) h l = record { rest = rw (le-ltb (2 * (0 - 1)) x (omega arith)) refl }

pub passed_next : {v : List ℕ} {i : ℕ} → Passed v i → i < length v → get_or v i 0 ≤ 2 * (i - 1) → Passed v (i + 1)
unfolding fault
passed_next {v} {i} P h l = record { rest = P.rest ∙ rw (drop-cons v i 0 h, le-ltb (2 * (i - 1)) (get_or v i 0) l, add-one i) }

pub passed_here : {v : List ℕ} {i : ℕ} → Passed v i → i < length v → 2 * (i - 1) < get_or v i 0 → fault 0 v ≡ some i
unfolding fault
passed_here {v} {i} P h l = P.rest ∙ rw (drop-cons v i 0 h, lt-ltb (2 * (i - 1)) (get_or v i 0) l)

pub passed_end : {v : List ℕ} {i : ℕ} → Passed v i → i ≡ length v → fault 0 v ≡ none
unfolding fault
passed_end {v} P e = P.rest ∙ rw (e, drop-length v)

pub first_above : (v : List ℕ) → 0 < length v → 0 < get_or v 0 0 → fault 0 v ≡ some 0
unfolding fault
first_above [] h l = absurd (omega arith)
first_above (x ∷ v) h l = rw (lt-ltb (2 * (0 - 1)) x (omega arith))

pub empty_fault : (v : List ℕ) → length v ≡ 0 → fault 0 v ≡ none
unfolding fault
empty_fault [] e = refl
empty_fault (x ∷ v) e = absurd (omega arith)

-- no entry is above its bound
pub all_within : (v : List ℕ) → get_or v 0 0 ≤ 0 → ((k : ℕ) → 1 ≤ k → k < length v → get_or v k 0 ≤ 2 * (k - 1)) → fault 0 v ≡ none
unfolding entry bound
all_within v z f = bounded_no_fault 0 v (λ k l. within k l)
  where
    within : (k : ℕ) → k < length v → get_or v k 0 ≤ 2 * (0 + k - 1)
    within zero l = omega arith
    within (suc k) l = let q : 0 + suc k ≡ suc k = omega arith in rw q (f (suc k) (omega arith) l)
