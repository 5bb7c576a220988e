-- "Of one number, the first place counts": the first of any number of places at which something is wrong, and what is said of it. Main results:
-- first_unique, first_below_found, found_first, found_none, found_same.
use Rattle.std.specs.Prelude.{Bool, true, false, cond, ◌⊎◌, ◌≡◌, refl, ℕ, zero, suc, ◌<◌, ltb}
use Rattle.std.proofs.Common.{inl, inr, ap, ◌∙◌, arith, eq-or-lt_of_le, le_of_suc-le-suc, ltb-true, ltb-false}
use Rattle.std.proofs.Math.Option.{Option, none, some}
use Rattle.rules.specs.First.{First}
use Rattle.searching.specs.First.{Tells, is_wrong, is_right, or_else, first_below, FirstFound, first_at, nowhere, Below}

-- the first place is one
pub first_unique : (Wrong : ℕ → Type 0) (i j : ℕ) → First Wrong i → First Wrong j → i ≡ j
first_unique Wrong i j a b = go (ltb i j) refl (ltb j i) refl
  where
    go : (x : Bool) → ltb i j ≡ x → (y : Bool) → ltb j i ≡ y → i ≡ j
    go true p y q = absurd (b.1 i (ltb-true i j p) a.0)
    go false p true q = absurd (a.1 j (ltb-true j i q) b.0)
    go false p false q = omega (arith, ltb-false i j p, ltb-false j i q)

-- a test that is a Bool
pub tells_if : {B : Type 0} (W : Type 0) (b : Bool) (said : B) → (b ≡ true → W) → (b ≡ false → W → ⊥) → Tells W (λ w. said) (cond b (some said) none)
tells_if W true said isWrong isRight = is_wrong (isWrong refl) refl
tells_if W false said isWrong isRight = is_right refl (isRight refl)

pub if_or_else : {B : Type 0} (b : Bool) (said : B) (o : Option B) → cond b (some said) o ≡ or_else (cond b (some said) none) o
unfolding or_else
if_or_else true said o = refl
if_or_else false said o = refl

-- where each test below n tells what is wrong at its place, the search finds the first
pub first_below_found : {B : Type 0} (Wrong : ℕ → Type 0) (says : (i : ℕ) → Wrong i → B) (test : ℕ → Option B) (n : ℕ)
    → ((i : ℕ) → i < n → Tells (Wrong i) (says i) (test i)) → FirstFound (Below n Wrong) (λ i w. says i w.1) (first_below test n)
unfolding first_below or_else
first_below_found Wrong says test zero tells = nowhere refl (λ j w. omega (arith, w.0))
first_below_found {B} Wrong says test (suc n) tells =
    go (first_below test n) (first_below_found Wrong says test n (λ i h. tells i (omega arith))) (tells n (omega arith))
  where
    go : (o : Option B) → FirstFound (Below n Wrong) (λ i w. says i w.1) o → Tells (Wrong n) (says n) (test n)
        → FirstFound (Below (suc n) Wrong) (λ i w. says i w.1) (or_else o (test n))
    go o (first_at i f e) t = first_at i ((omega (arith, f.0.0), f.0.1), λ j h w. f.1 j h (omega (arith, f.0.0), w.1)) (rw e refl)
    go o (nowhere e right) (is_wrong w d) = first_at n ((omega arith, w), λ j h u. right j (h, u.1)) (rw e d)
    go o (nowhere e right) (is_right d none_here) = nowhere (rw e d) never
      where
        never : (j : ℕ) → Below (suc n) Wrong j → ⊥
        never j w = at (eq-or-lt_of_le (le_of_suc-le-suc w.0))
          where
            at : (j ≡ n) ⊎ (j < n) → ⊥
            at (inl z) = none_here (rw z at w.1)
            at (inr l) = right j (l, w.1)

-- exactly when: a first place that is wrong is the one found, where one thing at most is said of it
pub found_first : {B : Type 0} {Wrong : ℕ → Type 0} {says : (i : ℕ) → Wrong i → B} {o : Option B} → FirstFound Wrong says o
    → (i : ℕ) (f : First Wrong i) → ((w : Wrong i) → says i w ≡ says i f.0) → o ≡ some (says i f.0)
found_first {B} {Wrong} {says} {o} (first_at j g e) i f one = at j (first_unique Wrong j i g f) g e
  where
    at : (j : ℕ) → j ≡ i → (g : First Wrong j) → o ≡ some (says j g.0) → o ≡ some (says i f.0)
    at j z g e = let h : (w : Wrong j) → says j w ≡ says i f.0 = rw z one in e ∙ ap some (h g.0)
found_first (nowhere e right) i f one = absurd (right i f.0)

-- and nothing is found where nothing is wrong
pub found_none : {B : Type 0} {Wrong : ℕ → Type 0} {says : (i : ℕ) → Wrong i → B} {o : Option B} → FirstFound Wrong says o
    → ((j : ℕ) → Wrong j → ⊥) → o ≡ none
found_none (first_at i f e) right = absurd (right i f.0)
found_none (nowhere e never) right = e

-- the same that is wrong, said in another way
pub found_same : {B : Type 0} {W U : ℕ → Type 0} {says : (i : ℕ) → W i → B} (says' : (i : ℕ) → U i → B) {o : Option B} → FirstFound W says o
    → (there : (j : ℕ) → W j → U j) → ((j : ℕ) → U j → W j) → ((j : ℕ) (w : W j) → says j w ≡ says' j (there j w)) → FirstFound U says' o
found_same says' (first_at i f e) there back same =
    first_at i (there i f.0, λ j h u. f.1 j h (back j u)) (e ∙ ap some (same i f.0))
found_same says' (nowhere e right) there back same = nowhere e (λ j u. right j (back j u))
