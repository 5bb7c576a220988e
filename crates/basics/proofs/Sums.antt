-- The sum of f 0 to f (n-1), and how many numbers below n pass a test. Main results: sum_cong, sum_plus, sum_zero, sum_mono, sum_at, sum_le,
-- sum_full, sum_ones.
use Rattle.std.specs.Prelude.{◌≡◌, refl, Bool, true, false, cond, ℕ, zero, suc, ◌+◌, ◌≤◌, ◌<◌, eqb, ltb}
use Rattle.std.proofs.Common.{ap₂, arith, lt-ltb, le-ltb, eq-eqb, ne_eqb}
use Rattle.basics.proofs.Cases.{by_lt, by_eq}
use Rattle.basics.specs.Sums.{one, sum_below}

pub one_le : (b : Bool) → one b ≤ 1
unfolding one
one_le true = omega arith
one_le false = omega arith

pub one_lt : (x n : ℕ) → x < n → one (ltb x n) ≡ 1
unfolding one
one_lt x n h = rw (lt-ltb x n h)

pub one_ge : (x n : ℕ) → n ≤ x → one (ltb x n) ≡ 0
unfolding one
one_ge x n h = rw (le-ltb x n h)

pub one_lt_below : (x n : ℕ) → 1 ≤ one (ltb x n) → x < n
one_lt_below x n h = by_lt x n (λ l. l) (λ l. absurd (omega (arith, one_ge x n l)))

pub sum_cong : (f g : ℕ → ℕ) (n : ℕ) → ((x : ℕ) → x < n → f x ≡ g x) → sum_below f n ≡ sum_below g n
unfolding sum_below
sum_cong f g zero h = refl
sum_cong f g (suc n) h = ap₂ ◌+◌ (sum_cong f g n (λ x l. h x (omega arith))) (h n (omega arith))

pub sum_plus : (f g : ℕ → ℕ) (n : ℕ) → sum_below (λ x. f x + g x) n ≡ sum_below f n + sum_below g n
unfolding sum_below
sum_plus f g zero = refl
sum_plus f g (suc n) = omega (arith, sum_plus f g n)

pub sum_zero : (n : ℕ) → sum_below (λ x. 0) n ≡ 0
unfolding sum_below
sum_zero zero = refl
sum_zero (suc n) = omega (arith, sum_zero n)

pub sum_ones : (n : ℕ) → sum_below (λ x. 1) n ≡ n
unfolding sum_below
sum_ones zero = refl
sum_ones (suc n) = omega (arith, sum_ones n)

pub sum_mono : (f : ℕ → ℕ) (m n : ℕ) → m ≤ n → sum_below f m ≤ sum_below f n
unfolding sum_below
sum_mono f m zero h = let e : m ≡ 0 = omega arith in rw e (omega arith)
sum_mono f m (suc n) h = by_eq m (suc n) (λ e. rw e (omega arith)) (λ d. omega (arith, sum_mono f m n (omega (arith, d))))

-- only y counts
pub sum_at : (f : ℕ → ℕ) (y n : ℕ) → sum_below (λ x. cond (eqb y x) (f x) 0) n ≡ cond (ltb y n) (f y) 0
unfolding sum_below
sum_at f y zero = let l : ltb y 0 ≡ false = le-ltb y 0 (omega arith) in rw l
sum_at f y (suc n) =
    by_eq y n
    (λ e. rw (sum_at f y n, le-ltb y n (omega arith), lt-ltb y (suc n) (omega arith), eq-eqb y n e) (rw e (omega arith)))
    (λ d. by_lt y n
    (λ l. rw (sum_at f y n, lt-ltb y n l, lt-ltb y (suc n) (omega arith), ne_eqb y n d) (omega arith))
    (λ l. rw (sum_at f y n, le-ltb y n l, le-ltb y (suc n) (omega (arith, d)), ne_eqb y n d)))

pub sum_le : (f : ℕ → ℕ) (n : ℕ) → ((x : ℕ) → x < n → f x ≤ 1) → sum_below f n ≤ n
unfolding sum_below
sum_le f zero h = omega arith
sum_le f (suc n) h = omega (arith, sum_le f n (λ x l. h x (omega arith)), h n (omega arith))

-- n ones at most, and n together: each is one
pub sum_full : (f : ℕ → ℕ) (n : ℕ) → ((x : ℕ) → x < n → f x ≤ 1) → sum_below f n ≡ n → (x : ℕ) → x < n → f x ≡ 1
unfolding sum_below
sum_full f zero h e x l = absurd (omega arith)
sum_full f (suc n) h e x l =
    let most = sum_le f n (λ y k. h y (omega arith)) in
    let last = h n (omega arith) in
    by_eq x n (λ q. rw q (omega arith)) (λ d. sum_full f n (λ y k. h y (omega arith)) (omega arith) x (omega (arith, d)))
