-- By cases on an order, on an equation, on a test.
-- Main results: by_lt, by_eq, by_test.
use Rattle.std.specs.Prelude.{◌≡◌, refl, ◌≢◌, Bool, true, false, ℕ, ◌≤◌, ◌<◌, eqb, ltb}
use Rattle.std.proofs.Common.{ltb-true, ltb-false, eqb-true}
use Rattle.std.proofs.lemmas.Bool.{eqb-false}

pub by_lt : {P : Type 0} (x n : ℕ) → (x < n → P) → (n ≤ x → P) → P
by_lt {P} x n f g = go (ltb x n) refl
  where
    go : (b : Bool) → ltb x n ≡ b → P
    go true q = f (ltb-true x n q)
    go false q = g (ltb-false x n q)

pub by_eq : {P : Type 0} (x y : ℕ) → (x ≡ y → P) → (x ≢ y → P) → P
by_eq {P} x y f g = go (eqb x y) refl
  where
    go : (b : Bool) → eqb x y ≡ b → P
    go true q = f (eqb-true x y q)
    go false q = g (eqb-false x y q)

pub by_test : {P : Type 0} (b : Bool) → (b ≡ true → P) → (b ≡ false → P) → P
by_test true f g = f refl
by_test false f g = g refl
