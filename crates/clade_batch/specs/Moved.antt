-- The clades of a batch from a place on, moved up by one.
-- Main definition: Moved. Main results: moved_start, moved_next.
use Rattle.std.specs.Prelude.{◌≡◌, ◌≢◌, refl, List, ℕ, ◌+◌, ◌-◌, ◌*◌, ◌≤◌, ◌<◌, length, get_or, set}
use Rattle.std.proofs.Common.{ap, ◌∙◌, arith, length-set, get_or-set_same, get_or-set_other}
use Rattle.basics.proofs.Cases.{by_eq}

-- of the first n clades those from place p on stand one place further; what is at p itself stays there too
pub record Moved (old : List ℕ) (n p : ℕ) (new : List ℕ) : Type 0 where
  pub same : length new ≡ length old
  pub low : (i : ℕ) → i < 2 * p + 2 → get_or new i 0 ≡ get_or old i 0
  pub up : (i : ℕ) → 2 * p + 2 ≤ i → i < 2 * n + 2 → get_or new i 0 ≡ get_or old (i - 2) 0
  pub high : (i : ℕ) → 2 * n + 2 ≤ i → get_or new i 0 ≡ get_or old i 0

pub moved_start : (old : List ℕ) (n : ℕ) → Moved old n n old
moved_start old n = record { same = refl; low = λ i h. refl; up = λ i g h. absurd (omega arith); high = λ i h. refl }

-- two stores
module _ (l : List ℕ) (a b x y : ℕ) where
  two_other : (i : ℕ) → i ≢ a → i ≢ b → get_or (set (set l a x) b y) i 0 ≡ get_or l i 0
  two_other i g h = get_or-set_other (set l a x) b i y 0 h ∙ get_or-set_other l a i x 0 g

  two_first : a ≢ b → a < length l → get_or (set (set l a x) b y) a 0 ≡ x
  two_first d h = get_or-set_other (set l a x) b a y 0 d ∙ get_or-set_same l a x 0 h

  two_second : b < length l → get_or (set (set l a x) b y) b 0 ≡ y
  two_second h = get_or-set_same (set l a x) b y 0 (omega (arith, length-set l a x))

-- one clade more is moved
pub moved_next : {old new : List ℕ} {n k : ℕ} (j : ℕ) → k ≡ j + 1 → Moved old n k new → k ≤ n → 2 * n + 2 ≤ length old
    → Moved old n j (set (set new (2 * j + 2) (get_or new (2 * j) 0)) (2 * j + 3) (get_or (set new (2 * j + 2) (get_or new (2 * j) 0)) (2 * j + 1) 0))
moved_next {old} {new} {n} {k} j at M h room =
    let same = M.same in
    let x = get_or new (2 * j) 0 in
    let y = get_or (set new (2 * j + 2) x) (2 * j + 1) 0 in
    let ey : y ≡ get_or new (2 * j + 1) 0 = get_or-set_other new (2 * j + 2) (2 * j + 1) x 0 (λ e. omega arith) in
    let first_back : 2 * j ≡ 2 * j + 2 - 2 = omega arith in
    let second_back : 2 * j + 1 ≡ 2 * j + 3 - 2 = omega arith in
    record {
      same = length-set (set new (2 * j + 2) x) (2 * j + 3) y ∙ length-set new (2 * j + 2) x ∙ M.same;
      low = λ i l. two_other new (2 * j + 2) (2 * j + 3) x y i (λ e. omega arith) (λ e. omega arith) ∙ M.low i (omega arith);
      up = λ i l u. by_eq i (2 * j + 2)
          (λ q. rw q (two_first new (2 * j + 2) (2 * j + 3) x y (λ q. omega arith) (omega arith) ∙ M.low (2 * j) (omega arith) ∙ ap (λ (i : ℕ). get_or old i 0) first_back))
          (λ d. by_eq i (2 * j + 3)
          (λ q. rw q (two_second new (2 * j + 2) (2 * j + 3) x y (omega arith) ∙ ey ∙ M.low (2 * j + 1) (omega arith) ∙ ap (λ (i : ℕ). get_or old i 0) second_back))
          (λ f. two_other new (2 * j + 2) (2 * j + 3) x y i d f ∙ M.up i (omega (arith, d, f)) u));
      high = λ i l. two_other new (2 * j + 2) (2 * j + 3) x y i (λ e. omega arith) (λ e. omega arith) ∙ M.high i l;
    }
