-- The leaves of a tree: its least leaf is one of them and at most each, and a leaf is not a fork. Main results: has_left, has_right, has_cases,
-- least_has, least_le, least_apart, below_some, below_least, only_leaf, fork, lacks.
use Rattle.std.specs.Prelude.{◌≡◌, refl, ◌≢◌, ◌⊎◌, true, false, ℕ, ◌≤◌, min}
use Rattle.std.proofs.Common.{sym, ap, ◌∙◌, ⊎_elim, arith, ltb-true, eqb-true, lt-ltb, eq-eqb}
use Rattle.rules.specs.Tree.{Tree, leaf, node, has, least, Distinct, LeavesBelow}
use Rattle.basics.proofs.Bools.{or_cases, or_left, or_right}
use Rattle.basics.proofs.Cases.{by_lt, by_test}

-- the leaves of a pair are those of its parts
pub has_left : (l r : Tree) (x : ℕ) → has l x ≡ true → has (node l r) x ≡ true
unfolding has
has_left l r x e = or_left (has l x) (has r x) e

pub has_right : (l r : Tree) (x : ℕ) → has r x ≡ true → has (node l r) x ≡ true
unfolding has
has_right l r x e = or_right (has l x) (has r x) e

pub has_cases : (l r : Tree) (x : ℕ) → has (node l r) x ≡ true → (has l x ≡ true) ⊎ (has r x ≡ true)
unfolding has
has_cases l r x e = or_cases (has l x) (has r x) e

-- the least leaf is a leaf
pub least_has : (t : Tree) → has t (least t) ≡ true
unfolding has least
least_has (leaf x) = eq-eqb x x refl
least_has (node l r) =
    by_lt (least l) (least r)
    (λ h. let e : min (least l) (least r) ≡ least l = omega arith in rw e (has_left l r (least l) (least_has l)))
    (λ h. let e : min (least l) (least r) ≡ least r = omega arith in rw e (has_right l r (least r) (least_has r)))

pub least_le : (t : Tree) (x : ℕ) → has t x ≡ true → least t ≤ x
unfolding has least
least_le (leaf y) x e = omega (arith, eqb-true y x e)
least_le (node l r) x e = ⊎_elim (λ h. omega (arith, least_le l x h)) (λ h. omega (arith, least_le r x h)) (has_cases l r x e)

-- where 0 is a leaf it is the least
least_zero : (t : Tree) → has t 0 ≡ true → least t ≡ 0
least_zero t h = omega (arith, least_le t 0 h)

-- the parts of a tree with distinct leaves have different names
pub least_apart : (l r : Tree) → Distinct (node l r) → least l ≢ least r
unfolding Distinct
least_apart l r D e = D.0 (least l) (least_has l) (rw e (least_has r))

-- a tree has a leaf, so n is not 0
pub below_some : (n : ℕ) (t : Tree) → LeavesBelow n t → 1 ≤ n
below_some n t L = omega (arith, ltb-true (least t) n (sym (L.all (least t)) ∙ least_has t))

pub below_least : (n : ℕ) (t : Tree) → LeavesBelow n t → least t ≡ 0
below_least n t L = least_zero t (L.all 0 ∙ lt-ltb 0 n (below_some n t L))

-- a tree with one leaf only
pub only_leaf : (a : ℕ) (t : Tree) → Distinct t → ((x : ℕ) → has t x ≡ true → x ≡ a) → t ≡ leaf a
unfolding Distinct has
only_leaf a (leaf y) D h = ap leaf (h y (eq-eqb y y refl))
only_leaf a (node l r) D h =
    let p = h (least l) (has_left l r (least l) (least_has l)) in
    let q = h (least r) (has_right l r (least r) (least_has r)) in
    absurd (D.0 a (rw p at (least_has l)) (rw q at (least_has r)))

-- a leaf and a fork have not the same leaves
pub fork : (x : ℕ) (l r : Tree) → Distinct (node l r) → ((y : ℕ) → has (leaf x) y ≡ has (node l r) y) → ⊥
unfolding has
fork x l r D e =
    let q = only_leaf x (node l r) D (λ y h. sym (eqb-true x y (e y ∙ h))) in
    let z : ◌≡◌ {A = ℕ} 0 1 = cc in omega arith

-- what one part of a tree with distinct leaves has, the other lacks
pub lacks : (l r : Tree) → Distinct (node l r) → (x : ℕ) → has l x ≡ true → has r x ≡ false
unfolding Distinct
lacks l r D x p = by_test (has r x) (λ q. absurd (D.0 x p q)) (λ q. q)

pub distinct_swap : (l r : Tree) → Distinct (node l r) → Distinct (node r l)
unfolding Distinct
distinct_swap l r D = (λ x p q. D.0 x q p, D.2, D.1)
