-- The verdict on one row: 0, or the number of its refusal.
-- Main definitions: verdict, placed. Main results: verdict_fault, placed_verdict, named_verdict, placed_row, wrong_child, well_placed, misplaced_verdict.
use Rattle.std.specs.Prelude.{◌≡◌, refl, ◌≢◌, Bool, true, false, not, ◌&&◌, cond, List, ◌∷◌, ℕ, ◌+◌, ◌≤◌, ◌<◌, max, eqb, ltb, leb}
use Rattle.std.proofs.Math.Option.{some}
use Rattle.std.proofs.Common.{sym, ◌∙◌, arith, eqb-true, eq-eqb, ne_eqb, ltb-true, ltb-false, lt-ltb, le-ltb, le-leb, leb-true, leb-false}
use Rattle.std.proofs.lemmas.Bool.{lt-leb}
use Rattle.rules.specs.Table.{Row, children_below, named_twice, row_fault}

-- 5, 6 and 7 in this order
abbrev pub first_of : Bool → Bool → Bool → ℕ
first_of true b c = 5
first_of false true c = 6
first_of false false true = 7
first_of false false false = 0

-- for the row whose parent must be p
unfoldable pub verdict : (ℕ → Bool) → ℕ → Row → ℕ
unfolding children_below named_twice
verdict named p r = first_of (not (eqb r.2 p)) (not (children_below p r)) (named_twice named r)

-- a row that is refused is the first fault
pub verdict_fault : (n t : ℕ) (named : ℕ → Bool) (r : Row) (rs : List Row) → verdict named (n + t) r ≢ 0
    → row_fault n t named (r ∷ rs) ≡ some (verdict named (n + t) r, t)
unfolding verdict row_fault
verdict_fault n t named r rs d = go (not (eqb r.2 (n + t))) (not (children_below (n + t) r)) (named_twice named r) refl refl refl d
  where
    go : (a b c : Bool) → not (eqb r.2 (n + t)) ≡ a → not (children_below (n + t) r) ≡ b → named_twice named r ≡ c
        → first_of a b c ≢ 0 → row_fault n t named (r ∷ rs) ≡ some (first_of a b c, t)
    go true b c p q s d' = rw p
    go false true c p q s d' = rw (p, q)
    go false false true p q s d' = rw (p, q, s)
    go false false false p q s d' = absurd (d' refl)

-- ---- 5 and 6, which tell nothing of the rows before
unfoldable pub placed : ℕ → Row → ℕ
unfolding children_below
placed p r = first_of (not (eqb r.2 p)) (not (children_below p r)) false

pub placed_verdict : (named : ℕ → Bool) (p : ℕ) (r : Row) → placed p r ≢ 0 → placed p r ≡ verdict named p r
unfolding verdict placed
placed_verdict named p r d = go (not (eqb r.2 p)) (not (children_below p r)) (named_twice named r) d
  where
    go : (a b c : Bool) → first_of a b false ≢ 0 → first_of a b false ≡ first_of a b c
    go true b c h = refl
    go false true c h = refl
    go false false c h = absurd (h refl)

pub named_verdict : (named : ℕ → Bool) (p : ℕ) (r : Row) → placed p r ≡ 0 → named_twice named r ≡ true → 7 ≡ verdict named p r
unfolding verdict placed
named_verdict named p r e h = rw h (go (not (eqb r.2 p)) (not (children_below p r)) e)
  where
    go : (a b : Bool) → first_of a b false ≡ 0 → 7 ≡ first_of a b true
    go true b h = absurd (omega arith)
    go false true h = absurd (omega arith)
    go false false h = refl

pub placed_row : (p : ℕ) (r : Row) → placed p r ≡ 0 → (r.2 ≡ p) × (r.0 < p) × (r.1 < p)
unfolding placed children_below
placed_row p r e = go (eqb r.2 p) (ltb r.0 p) (ltb r.1 p) refl refl refl e
  where
    go : (a b c : Bool) → eqb r.2 p ≡ a → ltb r.0 p ≡ b → ltb r.1 p ≡ c → first_of (not a) (not (b && c)) false ≡ 0 → (r.2 ≡ p) × (r.0 < p) × (r.1 < p)
    go false b c q s u f = absurd (omega arith)
    go true false c q s u f = absurd (omega arith)
    go true true false q s u f = absurd (omega arith)
    go true true true q s u f = (eqb-true r.2 p q, ltb-true r.0 p s, ltb-true r.1 p u)

-- ---- the test for them
pub wrong_parent : (p l r q : ℕ) → q ≢ p → true ≡ ltb 0 (placed p (l, r, q))
unfolding placed
wrong_parent p l r q h = rw (ne_eqb q p h)

pub wrong_first : (p l r q : ℕ) → q ≡ p → p ≤ l → true ≡ ltb 0 (placed p (l, r, q))
unfolding placed
wrong_first p l r q e h = rw (eq-eqb q p e, le-ltb l p h)

pub wrong_second : (p l r q : ℕ) → q ≡ p → l < p → leb p r ≡ ltb 0 (placed p (l, r, q))
unfolding placed
wrong_second p l r q e h = rw (eq-eqb q p e, lt-ltb l p h) (go (leb p r) refl)
  where
    go : (b : Bool) → leb p r ≡ b → b ≡ ltb 0 (first_of false (not (ltb r p)) false)
    go true k = rw (le-ltb r p (leb-true p r k))
    go false k = rw (lt-ltb r p (leb-false p r k))

-- both children in one test: that of the greater one
pub wrong_child : (p l r q : ℕ) → q ≡ p → p ≤ max l r → ltb 0 (placed p (l, r, q)) ≡ true
wrong_child p l r q e h = go (ltb l p) refl
  where
    go : (b : Bool) → ltb l p ≡ b → ltb 0 (placed p (l, r, q)) ≡ true
    go true k = let z = ltb-true l p k in sym (wrong_second p l r q e z) ∙ le-leb p r (omega arith)
    go false k = sym (wrong_first p l r q e (ltb-false l p k))

pub well_placed : (p l r q : ℕ) → q ≡ p → max l r < p → ltb 0 (placed p (l, r, q)) ≡ false
well_placed p l r q e h = sym (wrong_second p l r q e (omega arith)) ∙ lt-leb p r (omega arith)

pub misplaced_not : (p : ℕ) (r : Row) → ltb 0 (placed p r) ≡ true → placed p r ≢ 0
misplaced_not p r e q = omega (arith, ltb-true 0 (placed p r) e)

pub in_place : (p : ℕ) (r : Row) → ltb 0 (placed p r) ≡ false → placed p r ≡ 0
in_place p r e = omega (arith, ltb-false 0 (placed p r) e)

-- such a row is refused with 5 or 6
pub misplaced_verdict : (p : ℕ) (r : Row) → placed p r ≢ 0 → cond (eqb r.2 p) 6 5 ≡ placed p r
unfolding placed
misplaced_verdict p r d = go (eqb r.2 p) (not (children_below p r)) d
  where
    go : (a b : Bool) → first_of (not a) b false ≢ 0 → cond a 6 5 ≡ first_of (not a) b false
    go false b h = refl
    go true true h = refl
    go true false h = absurd (h refl)
