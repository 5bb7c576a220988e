-- How many numbers below n pass a test. Main results: last_or_before, count_all, count_none, count_without, count_or, count_only.
use Rattle.std.specs.Prelude.{◌≡◌, refl, ◌≢◌, ◌⊎◌, Bool, true, false, ◌||◌, ℕ, zero, suc, ◌+◌, ◌≤◌, ◌<◌, eqb, ltb}
use Rattle.std.proofs.Common.{sym, ap, ap₂, inl, inr, arith, eqb-true, ltb-true, ltb-false}
use Rattle.std.proofs.lemmas.Bool.{eqb-false}
use Rattle.read_tables.specs.Count.{bit, count}

-- below m + 1 is m or below m
pub last_or_before : (m k : ℕ) → k < m + 1 → (k ≡ m) ⊎ (k < m)
last_or_before m k h = go (eqb k m) refl
  where
    go : (b : Bool) → eqb k m ≡ b → (k ≡ m) ⊎ (k < m)
    go true e = inl (eqb-true k m e)
    go false e = inr (let z = eqb-false k m e in omega arith)

pub count_cong : (f g : ℕ → Bool) (n : ℕ) → ((x : ℕ) → x < n → f x ≡ g x) → count f n ≡ count g n
unfolding count
count_cong f g zero h = refl
count_cong f g (suc n) h = ap₂ (λ (a b : ℕ). a + b) (ap bit (h n (omega arith))) (count_cong f g n (λ x l. h x (omega arith)))

pub count_none : (f : ℕ → Bool) (n : ℕ) → ((x : ℕ) → x < n → f x ≡ false) → count f n ≡ 0
unfolding count bit
count_none f zero h = refl
count_none f (suc n) h = rw (h n (omega arith)) (omega (arith, count_none f n (λ x l. h x (omega arith))))

pub count_all : (f : ℕ → Bool) (n : ℕ) → ((x : ℕ) → x < n → f x ≡ true) → count f n ≡ n
unfolding count bit
count_all f zero h = refl
count_all f (suc n) h = rw (h n (omega arith)) (omega (arith, count_all f n (λ x l. h x (omega arith))))

-- one fewer
pub count_without : (f g : ℕ → Bool) (a n : ℕ) → a < n → f a ≡ true → g a ≡ false → ((x : ℕ) → x ≢ a → g x ≡ f x) → count g n + 1 ≡ count f n
unfolding count bit
count_without f g a zero l e d h = absurd (omega arith)
count_without f g a (suc n) l e d h = go (eqb a n) refl (λ k. count_without f g a n k e d h)
  where
    go : (b : Bool) → eqb a n ≡ b → (a < n → count g n + 1 ≡ count f n) → bit (g n) + count g n + 1 ≡ bit (f n) + count f n
    go true q ih =
        let z = eqb-true a n q in
        let c = count_cong g f n (λ x k. h x (omega arith)) in
        rw (← z, e, d) (rw z (omega arith))
    go false q ih = let z = eqb-false a n q in rw (h n (λ k. z (sym k))) (omega (arith, ih (omega arith)))

bit_or : (a b : Bool) → (a ≡ true → b ≡ true → ⊥) → bit (a || b) ≡ bit a + bit b
unfolding bit
bit_or true true h = absurd (h refl refl)
bit_or true false h = refl
bit_or false true h = refl
bit_or false false h = refl

-- two tests of which no number passes both
pub count_or : (f g : ℕ → Bool) (n : ℕ) → ((x : ℕ) → f x ≡ true → g x ≡ true → ⊥) → count (λ x. f x || g x) n ≡ count f n + count g n
unfolding count
count_or f g zero h = refl
count_or f g (suc n) h = omega (arith, bit_or (f n) (g n) (h n), count_or f g n h)

pub count_pos : (f : ℕ → Bool) (a n : ℕ) → a < n → f a ≡ true → 1 ≤ count f n
unfolding count bit
count_pos f a zero l e = absurd (omega arith)
count_pos f a (suc n) l e = go (eqb a n) refl (λ k. count_pos f a n k e)
  where
    go : (b : Bool) → eqb a n ≡ b → (a < n → 1 ≤ count f n) → 1 ≤ bit (f n) + count f n
    go true q ih = rw (← eqb-true a n q, e) (omega arith)
    go false q ih = let z = eqb-false a n q in omega (arith, ih (omega arith))

count_two : (f : ℕ → Bool) (a b n : ℕ) → a < b → b < n → f a ≡ true → f b ≡ true → 2 ≤ count f n
unfolding count bit
count_two f a b zero l k e d = absurd (omega arith)
count_two f a b (suc n) l k e d = go (eqb b n) refl (λ h. count_two f a b n l h e d)
  where
    go : (c : Bool) → eqb b n ≡ c → (b < n → 2 ≤ count f n) → 2 ≤ bit (f n) + count f n
    go true q ih =
        let z = eqb-true b n q in
        let p = count_pos f a n (omega arith) e in
        let y : f n ≡ true = rw z at d in
        rw y (omega arith)
    go false q ih = let z = eqb-false b n q in omega (arith, ih (omega arith))

-- where just one passes, two that pass are the same
pub count_only : (f : ℕ → Bool) (a b n : ℕ) → count f n ≡ 1 → a < n → b < n → f a ≡ true → f b ≡ true → a ≡ b
count_only f a b n h k l e d = go (ltb a b) (ltb b a) refl refl
  where
    go : (x y : Bool) → ltb a b ≡ x → ltb b a ≡ y → a ≡ b
    go true y p q = absurd (omega (arith, count_two f a b n (ltb-true a b p) l e d))
    go false true p q = absurd (omega (arith, count_two f b a n (ltb-true b a q) k d e))
    go false false p q = omega (arith, ltb-false a b p, ltb-false b a q)
