-- The loop that gives each leaf its own number.
-- Main definition: Leaves. Main result: leaves_next.
use Rattle.std.specs.Prelude.{◌≡◌, refl, Bool, true, false, List, ℕ, ◌+◌, ◌≤◌, ◌<◌, eqb, length, get_or, set}
use Rattle.std.proofs.Common.{◌∙◌, arith, length-set, get_or-set_same, get_or-set_other, eqb-true}
use Rattle.std.proofs.lemmas.Bool.{eqb-false}

-- the leaves below c have their numbers
pub record Leaves (n : ℕ) (number₀ number : List ℕ) (c : ℕ) : Type 0 where
  pub few : n ≤ 1024
  pub room : n ≤ length number₀
  pub high : c ≤ n
  pub same : length number ≡ length number₀
  pub itself : (x : ℕ) → x < c → get_or number x 0 ≡ x

pub leaves_next : {n : ℕ} {number₀ number : List ℕ} {c : ℕ} → Leaves n number₀ number c → c < n → Leaves n number₀ (set number c c) (c + 1)
leaves_next {n} {number₀} {number} {c} L h =
    let room = L.room in
    record {
      few = L.few;
      room = L.room;
      high = omega arith;
      same = length-set number c c ∙ L.same;
      itself = λ x l. go x l (eqb x c) refl;
    }
  where
    go : (x : ℕ) → x < c + 1 → (b : Bool) → eqb x c ≡ b → get_or (set number c c) x 0 ≡ x
    go x l true e = let z = eqb-true x c e in rw z (get_or-set_same number c c 0 (omega (arith, L.room, L.same)))
    go x l false e = let z = eqb-false x c e in get_or-set_other number c x c 0 z ∙ L.itself x (omega arith)
