-- How many leaves: a sum over the leaves of a tree is one over the numbers that are its leaves, so that a tree with the leaves 0 to n-1 has n of
-- them, and a tree with n different leaves below n has all of these. Main results: size_some, leaves_sum, all_leaves_sum, size_sum, size_below,
-- every_leaf.
use Rattle.std.specs.Prelude.{◌≡◌, refl, Bool, true, false, cond, ◌||◌, ℕ, ◌+◌, ◌≤◌, ◌<◌, ltb}
use Rattle.std.proofs.Common.{sym, ap₂, ◌∙◌, arith, eq-eqb, lt-ltb, ltb-true}
use Rattle.rules.specs.Tree.{Tree, leaf, node, has, size, Distinct, LeavesBelow}
use Rattle.basics.proofs.Bools.{both}
use Rattle.basics.proofs.Cases.{by_test}
use Rattle.basics.specs.Sums.{one, sum_below}
use Rattle.basics.proofs.Sums.{one_le, sum_cong, sum_plus, sum_at, sum_ones, sum_full}
use Rattle.clades.proofs.Leaves.{has_left, has_right}
use Rattle.clades.specs.Size.{sum_leaves}

pub size_some : (t : Tree) → 1 ≤ size t
unfolding size
size_some (leaf x) = omega arith
size_some (node l r) = omega (arith, size_some l, size_some r)

-- a sum over the leaves is a sum over the numbers that are leaves
pub leaves_sum : (f : ℕ → ℕ) (n : ℕ) (t : Tree) → Distinct t → ((x : ℕ) → has t x ≡ true → x < n)
    → sum_leaves f t ≡ sum_below (λ x. cond (has t x) (f x) 0) n
unfolding sum_leaves has Distinct
leaves_sum f n (leaf y) D h = sym (sum_at f y n ∙ rw (lt-ltb y n (h y (eq-eqb y y refl))))
leaves_sum f n (node l r) D h =
    ap₂ ◌+◌ (leaves_sum f n l D.1 (λ x e. h x (has_left l r x e))) (leaves_sum f n r D.2 (λ x e. h x (has_right l r x e)))
    ∙ sym (sum_plus (λ x. cond (has l x) (f x) 0) (λ x. cond (has r x) (f x) 0) n)
    ∙ sum_cong (λ x. cond (has l x) (f x) 0 + cond (has r x) (f x) 0) (λ x. cond (has l x || has r x) (f x) 0) n
    (λ x k. either (has l x) (has r x) (f x) (D.0 x))
  where
    either : (a b : Bool) (k : ℕ) → (a ≡ true → b ≡ true → ⊥) → cond a k 0 + cond b k 0 ≡ cond (a || b) k 0
    either true true k no_both = absurd (no_both refl refl)
    either true false k no_both = omega arith
    either false b k no_both = omega arith

pub all_leaves_sum : (f : ℕ → ℕ) (n : ℕ) (t : Tree) → LeavesBelow n t → sum_leaves f t ≡ sum_below f n
all_leaves_sum f n t L =
    leaves_sum f n t L.once (λ x e. ltb-true x n (sym (L.all x) ∙ e))
    ∙ sum_cong (λ x. cond (has t x) (f x) 0) f n (λ x l. rw (L.all x, lt-ltb x n l))

pub size_sum : (t : Tree) → sum_leaves (λ x. 1) t ≡ size t
unfolding sum_leaves size
size_sum (leaf x) = refl
size_sum (node l r) = ap₂ ◌+◌ (size_sum l) (size_sum r)

-- a tree with the leaves 0 to n-1 has n leaves
pub size_below : (n : ℕ) (t : Tree) → LeavesBelow n t → size t ≡ n
size_below n t L = sym (size_sum t) ∙ all_leaves_sum (λ x. 1) n t L ∙ sum_ones n

-- n different leaves below n are all the numbers below n
pub every_leaf : (n : ℕ) (t : Tree) → Distinct t → ((x : ℕ) → has t x ≡ true → x < n) → size t ≡ n → LeavesBelow n t
unfolding one
every_leaf n t D h e = record { once = D; all = λ x. both (has t x) (ltb x n) (λ k. lt-ltb x n (h x k)) (λ k. all x (ltb-true x n k)) }
  where
    count : sum_below (λ x. one (has t x)) n ≡ n
    count = sym (leaves_sum (λ x. 1) n t D h) ∙ size_sum t ∙ e

    all : (x : ℕ) → x < n → has t x ≡ true
    all x l =
        let s = sum_full (λ y. one (has t y)) n (λ y k. one_le (has t y)) count x l in
        by_test (has t x) (λ q. q) (λ q. absurd (omega (arith, rw q at s)))
