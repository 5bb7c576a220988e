-- What is found at the greatest number below k at which something is found.
-- Main definition: Last. Main results: last_some, last_none, is_last, none_last, last_cong.
use Rattle.std.specs.Prelude.{◌≡◌, Bool}
use Rattle.std.proofs.Math.Path.{refl, ap₂}
use Rattle.std.proofs.Common.{sym, ◌∙◌, arith}
use Rattle.std.proofs.Math.Bool.{true, false}
use Rattle.std.proofs.Math.Option.{Option, none, some, or_else, none-ne-some}
use Prim.Native.Nat.{ℕ, zero, suc, ◌<◌}
use Rattle.std.proofs.Math.Dec.{eqb}
use borrow.Author.Tests.{eqb-true, eqb-false}
use Rattle.rules.specs.Building.{last_below}

module _ {A : Type 0} where
  -- a is found at j, and nothing is found from there to k
  pub record Last (find : ℕ → Option A) (k j : ℕ) (a : A) : Type 0 where
    pub within : j < k
    pub found : find j ≡ some a
    pub none_behind : (i : ℕ) → j < i → i < k → find i ≡ none

  pub last_top : (find : ℕ → Option A) (k : ℕ) (a : A) → find k ≡ some a → last_below find (suc k) ≡ some a
  unfolding last_below
  last_top find k a e = rw e

  pub last_skip : (find : ℕ → Option A) (k : ℕ) → find k ≡ none → last_below find (suc k) ≡ last_below find k
  unfolding last_below
  last_skip find k e = rw e

  -- where nothing is found at k, Last below k + 1 is Last below k
  more : (find : ℕ → Option A) (k j : ℕ) (a : A) → find k ≡ none → Last find k j a → Last find (suc k) j a
  more find k j a e L = record { within = omega (arith, L.within); found = L.found; none_behind = λ i h l. go i h l (eqb i k) refl }
    where
      go : (i : ℕ) → j < i → i < suc k → (b : Bool) → eqb i k ≡ b → find i ≡ none
      go i h l true q = rw (eqb-true i k q) e
      go i h l false q = L.none_behind i h (omega (arith, eqb-false i k q))

  pub last_some : (find : ℕ → Option A) (k : ℕ) (a : A) → last_below find k ≡ some a → (j : ℕ) × Last find k j a
  unfolding last_below or_else
  last_some find zero a e = absurd (none-ne-some a e)
  last_some find (suc k) a e = go (find k) refl e (last_some find k a)
    where
      go : (o : Option A) → find k ≡ o → or_else o (last_below find k) ≡ some a → (last_below find k ≡ some a → (j : ℕ) × Last find k j a)
          → (j : ℕ) × Last find (suc k) j a
      go none q e' ih = let w = ih e' in (w.0, more find k w.0 a q w.1)
      go (some b) q e' ih = (k, record { within = omega arith; found = q ∙ e'; none_behind = λ i h l. absurd (omega arith) })

  pub last_none : (find : ℕ → Option A) (k : ℕ) → last_below find k ≡ none → (j : ℕ) → j < k → find j ≡ none
  unfolding last_below or_else
  last_none find zero e j h = absurd (omega arith)
  last_none find (suc k) e j h = go (find k) refl e (last_none find k)
    where
      go : (o : Option A) → find k ≡ o → or_else o (last_below find k) ≡ none → (last_below find k ≡ none → (j : ℕ) → j < k → find j ≡ none) → find j ≡ none
      go none q e' ih = here (eqb j k) refl
        where
          here : (b : Bool) → eqb j k ≡ b → find j ≡ none
          here true r = rw (eqb-true j k r) q
          here false r = ih e' j (omega (arith, eqb-false j k r))
      go (some b) q e' ih = absurd (none-ne-some b (sym e'))

  pub none_last : (find : ℕ → Option A) (k : ℕ) → ((j : ℕ) → j < k → find j ≡ none) → last_below find k ≡ none
  unfolding last_below
  none_last find zero h = refl
  none_last find (suc k) h = last_skip find k (h k (omega arith)) ∙ none_last find k (λ j l. h j (omega arith))

  pub is_last : (find : ℕ → Option A) (k j : ℕ) (a : A) → Last find k j a → last_below find k ≡ some a
  is_last find zero j a L = absurd (omega (arith, L.within))
  is_last find (suc k) j a L = go (eqb j k) refl (is_last find k j a)
    where
      go : (b : Bool) → eqb j k ≡ b → (Last find k j a → last_below find k ≡ some a) → last_below find (suc k) ≡ some a
      go true q ih = last_top find k a (rw (← eqb-true j k q) L.found)
      go false q ih =
          let l : j < k = omega (arith, eqb-false j k q, L.within) in
          last_skip find k (L.none_behind k l (omega arith)) ∙ ih (record { within = l; found = L.found; none_behind = λ i h m. L.none_behind i h (omega arith) })

  pub last_cong : (find seek : ℕ → Option A) (k : ℕ) → ((j : ℕ) → j < k → find j ≡ seek j) → last_below find k ≡ last_below seek k
  unfolding last_below
  last_cong find seek zero h = refl
  last_cong find seek (suc k) h = ap₂ or_else (h k (omega arith)) (last_cong find seek k (λ j l. h j (omega arith)))
