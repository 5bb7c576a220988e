-- Counting: how often a leaf stands in a tree. Main results: one_more, sum_hit, has_times, times_has, below_times, times_below.
use Rattle.std.specs.Prelude.{◌≡◌, true, false, ℕ, zero, suc, ◌+◌, ◌≤◌, eqb, ltb}
use Rattle.std.proofs.Common.{sym, ◌∙◌, true≢false, arith, ltb-true, ltb-false, lt-ltb, eqb-true, eq-eqb}
use Rattle.rules.specs.Tree.{Tree, leaf, node, has, Distinct, LeavesBelow}
use Rattle.basics.proofs.Bools.{both}
use Rattle.basics.proofs.Cases.{by_lt, by_eq, by_test}
use Rattle.basics.specs.Sums.{one, sum_below}
use Rattle.basics.proofs.Sums.{one_le, one_lt, one_ge, one_lt_below}
use Rattle.clades.proofs.Leaves.{has_left, has_right}
use Rattle.merging.specs.Once.{hit}
use Rattle.merging.proofs.Once.{hit_same, hit_other}
use Rattle.shuffle_laws.specs.Count.{leaf_times}

hit_swap : (x y : ℕ) → hit x y ≡ hit y x
hit_swap x y =
    by_eq x y (λ e. hit_same x y e ∙ sym (hit_same y x (sym e))) (λ n. hit_other x y n ∙ sym (hit_other y x (λ e. n (sym e))))

-- one more number is below
pub one_more : (x n : ℕ) → one (ltb x (suc n)) ≡ one (ltb x n) + hit x n
one_more x n =
    by_eq x n
    (λ e. omega (arith, one_lt x (suc n) (omega arith), one_ge x n (omega arith), hit_same x n e))
    (λ d.
    by_lt x n
    (λ l. omega (arith, one_lt x (suc n) (omega arith), one_lt x n l, hit_other x n d))
    (λ l. omega (arith, one_ge x (suc n) (omega (arith, d)), one_ge x n l, hit_other x n d)))

-- y is one of the numbers below n, or none
pub sum_hit : (n y : ℕ) → sum_below (λ x. hit x y) n ≡ one (ltb y n)
unfolding sum_below
sum_hit zero y = sym (one_ge y 0 (omega arith))
sum_hit (suc n) y = omega (arith, sum_hit n y, one_more y n, hit_swap n y)

pub has_times : (x : ℕ) (t : Tree) → has t x ≡ true → 1 ≤ leaf_times x t
unfolding has leaf_times
has_times x (leaf y) e = omega (arith, hit_same x y (sym (eqb-true y x e)))
has_times x (node l r) e =
    by_test (has l x) (λ q. omega (arith, has_times x l q)) (λ q. omega (arith, has_times x r (rw q at e)))

pub hit_one : (x y : ℕ) → 1 ≤ hit x y → x ≡ y
hit_one x y h = by_eq x y (λ e. e) (λ d. absurd (omega (arith, hit_other x y d)))

pub times_has : (x : ℕ) (t : Tree) → 1 ≤ leaf_times x t → has t x ≡ true
unfolding has leaf_times
times_has x (leaf y) h = eq-eqb y x (sym (hit_one x y h))
times_has x (node l r) h =
    by_lt 0 (leaf_times x l)
    (λ q. has_left l r x (times_has x l q))
    (λ q. has_right l r x (times_has x r (omega arith)))

has_no_times : (x : ℕ) (t : Tree) → has t x ≡ false → leaf_times x t ≡ 0
has_no_times x t e =
    by_lt 0 (leaf_times x t) (λ q. absurd (true≢false (sym (times_has x t q) ∙ e))) (λ q. omega arith)

pub hit_le : (x y : ℕ) → hit x y ≤ 1
unfolding hit one
hit_le x y = one_le (eqb x y)

distinct_times : (x : ℕ) (t : Tree) → Distinct t → leaf_times x t ≤ 1
unfolding Distinct leaf_times
distinct_times x (leaf y) d = hit_le x y
distinct_times x (node l r) d =
    by_test (has l x)
    (λ q. by_test (has r x) (λ q₂. absurd (d.0 x q q₂)) (λ q₂. omega (arith, distinct_times x l d.1, has_no_times x r q₂)))
    (λ q. omega (arith, distinct_times x r d.2, has_no_times x l q))

times_distinct : (t : Tree) → ((x : ℕ) → leaf_times x t ≤ 1) → Distinct t
unfolding Distinct leaf_times
times_distinct (leaf y) h = tt
times_distinct (node l r) h = (
  λ x a b. absurd (omega (arith, h x, has_times x l a, has_times x r b)),
  times_distinct l (λ x. omega (arith, h x)),
  times_distinct r (λ x. omega (arith, h x)),
)

-- the leaves are 0 to n-1, each once, exactly when each number below n is counted once and no other is counted
pub below_times : {n : ℕ} {t : Tree} → LeavesBelow n t → (x : ℕ) → leaf_times x t ≡ one (ltb x n)
below_times {n} {t} b x =
    by_test (ltb x n)
    (λ q. omega (arith, distinct_times x t b.once, has_times x t (b.all x ∙ q), one_lt x n (ltb-true x n q)))
    (λ q. omega (arith, has_no_times x t (b.all x ∙ q), one_ge x n (ltb-false x n q)))

pub times_below : (n : ℕ) (t : Tree) → ((x : ℕ) → leaf_times x t ≡ one (ltb x n)) → LeavesBelow n t
times_below n t h = record {
  once = times_distinct t (λ x. omega (arith, h x, one_le (ltb x n)));
  all = λ x. both (has t x) (ltb x n)
      (λ e. lt-ltb x n (one_lt_below x n (omega (arith, h x, has_times x t e))))
      (λ e. times_has x t (omega (arith, h x, one_lt x n (ltb-true x n e))));
}
