-- A list overwritten from the front.
-- Main definition: mix. Main results: mix_start, mix_step, mix_down, mix_length, mix_above, mix_below.
use Rattle.std.specs.Prelude.{◌≡◌, refl, List, [], ◌∷◌, ◌++◌, ℕ, zero, suc, ◌+◌, ◌≤◌, ◌<◌, length, take, drop, get_or, set}
use Rattle.std.proofs.Common.{sym, ap, ◌∙◌, append_assoc, add-one, arith, length-append, length-take, length-drop, take-suc, drop-cons, length-take-le}
use Rattle.std.proofs.lemmas.List.{set_at}
use Rattle.std.proofs.Math.Seq.{drop-nil}

-- b's first k elements, then o's others
unfoldable pub mix : ℕ → List ℕ → List ℕ → List ℕ
mix k b o = take k b ++ drop k o

pub mix_start : (b o : List ℕ) → o ≡ mix 0 b o
unfolding mix
mix_start b o = refl

-- one more element of b, after those before it
pub mix_step : (b o : List ℕ) (k : ℕ) → k < length b → k < length o → set (mix k b o) k (get_or b k 0) ≡ mix (k + 1) b o
unfolding mix
mix_step b o j h g =
    rw (
      add-one,
      drop-cons o j 0 g,
      set_at (take j b) (get_or o j 0) (drop (suc j) o) (get_or b j 0) j (length-take-le j b (omega arith)),
      take-suc b j 0 h,
    )
    (simp append_assoc)

-- one more element of o, before those behind it
pub mix_down : (b o : List ℕ) (k : ℕ) → k < length b → k < length o → set (mix (k + 1) b o) k (get_or o k 0) ≡ mix k b o
unfolding mix
mix_down b o j h g =
    rw (
      add-one,
      take-suc b j 0 h,
      append_assoc (take j b) (get_or b j 0 ∷ []) (drop (suc j) o),
      set_at (take j b) (get_or b j 0) (drop (suc j) o) (get_or o j 0) j (length-take-le j b (omega arith)),
      drop-cons o j 0 g,
    )

pub mix_length : (b o : List ℕ) (k : ℕ) → k ≤ length b → k ≤ length o → length (mix k b o) ≡ length o
unfolding mix
mix_length b o k h g = simp (length-append, length-take, length-drop) (omega arith)

-- behind the first k elements stand those of o
pub mix_above : (b o : List ℕ) (k t : ℕ) → k ≤ length b → k ≤ t → get_or (mix k b o) t 0 ≡ get_or o t 0
unfolding mix
mix_above b o zero t h g = refl
mix_above [] o (suc k) t h g = absurd (omega arith)
mix_above (x ∷ b) o (suc k) zero h g = absurd (omega arith)
mix_above (x ∷ b) [] (suc k) (suc t) h g =
    ap (λ (r : List ℕ). get_or (take k b ++ r) t 0) (sym (drop-nil k)) ∙ mix_above b [] k t (omega arith) (omega arith)
mix_above (x ∷ b) (y ∷ o) (suc k) (suc t) h g = mix_above b o k t (omega arith) (omega arith)

-- the first k elements are those of b
pub mix_below : (b o : List ℕ) (k t : ℕ) → k ≤ length b → t < k → get_or (mix k b o) t 0 ≡ get_or b t 0
unfolding mix
mix_below b o zero t h g = absurd (omega arith)
mix_below [] o (suc k) t h g = absurd (omega arith)
mix_below (x ∷ b) o (suc k) zero h g = refl
mix_below (x ∷ b) [] (suc k) (suc t) h g =
    ap (λ (r : List ℕ). get_or (take k b ++ r) t 0) (sym (drop-nil k)) ∙ mix_below b [] k t (omega arith) (omega arith)
mix_below (x ∷ b) (y ∷ o) (suc k) (suc t) h g = mix_below b o k t (omega arith) (omega arith)

-- a loop that copies b's first n elements over o's
pub record Copied (b o xs : List ℕ) (n k : ℕ) : Type 0 where
  pub in_b : n ≤ length b
  pub in_o : n ≤ length o
  pub high : k ≤ n
  pub same : length xs ≡ length o
  pub mixed : xs ≡ mix k b o

pub copied_start : {b o : List ℕ} {n : ℕ} → n ≤ length b → n ≤ length o → Copied b o o n 0
copied_start {b} {o} h g = record { in_b = h; in_o = g; high = omega arith; same = refl; mixed = mix_start b o }

pub copied_next : {b o xs : List ℕ} {n k : ℕ} → Copied b o xs n k → k < n → Copied b o (set xs k (get_or b k 0)) n (k + 1)
copied_next {b} {o} {xs} {n} {k} C h =
    let p = C.in_b in
    let q = C.in_o in
    let e : set xs k (get_or b k 0) ≡ mix (k + 1) b o = rw C.mixed (mix_step b o k (omega arith) (omega arith)) in
    record {
      in_b = C.in_b;
      in_o = C.in_o;
      high = omega arith;
      same = ap length e ∙ mix_length b o (k + 1) (omega arith) (omega arith);
      mixed = e;
    }

pub copied_end : {b o xs : List ℕ} {n k : ℕ} → Copied b o xs n k → n ≤ k → xs ≡ take n b ++ drop n o
unfolding mix
copied_end {b} {o} {xs} {n} {k} C h = let e : k ≡ n = omega arith in rw e at C.mixed
