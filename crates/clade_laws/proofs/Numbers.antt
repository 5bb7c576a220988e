-- A number stands for a set of leaves: leaf x is bit x. Main results: leaf_bit, bits_equal, same_number, ones_size.
use Rattle.std.specs.Prelude.{◌≡◌, ◌↔◌, Bool, true, false, cond, ℕ, zero, suc, ◌+◌, ◌*◌, ◌/◌, ◌%◌, ◌^◌, ◌≤◌, ◌<◌, eqb}
use Rattle.std.proofs.Math.Path.{refl}
use Rattle.std.proofs.Common.{sym, ap, ap₂, ◌∙◌, ⊎_elim, true≢false, arith, pow-suc, shr-shr, eqb-true, eq-eqb, ne_eqb}
use Rattle.std.proofs.lemmas.Nat.{shr_le}
use Rattle.std.specs.Int.Count.{ones, ones_step}
use Rattle.std.proofs.lemmas.Bool.{eqb-false}
use Rattle.rules.specs.Tree.{Tree, leaf, node, has, size, Distinct}
use Rattle.rules.specs.CladeTable.{leaf_set}
use Rattle.basics.proofs.Cases.{by_lt, by_test}
use Rattle.basics.specs.Sums.{one, sum_below}
use Rattle.basics.proofs.Sums.{one_le, sum_cong}
use Rattle.clades.proofs.Leaves.{has_cases}
use Rattle.clades.specs.Size.{sum_leaves}
use Rattle.clades.proofs.Size.{leaves_sum, size_sum}
use Rattle.clade_laws.specs.Numbers.{bit, Stands, set_number, top}

bit_first : (b : Bool) (k : ℕ) → bit (one b + 2 * k) 0 ≡ b
unfolding bit one
bit_first true k = eq-eqb ((1 + 2 * k) / 1 % 2) 1 (omega arith)
bit_first false k = ne_eqb ((0 + 2 * k) / 1 % 2) 1 (λ e. omega arith)

bit_suc : (m x : ℕ) → bit m (suc x) ≡ bit (m / 2) x
unfolding bit
bit_suc m x = let e : suc x ≡ 1 + x = omega arith in rw e (ap (λ (k : ℕ). eqb (k % 2) 1) (sym (shr-shr m 1 x)))

half : (b : Bool) (k : ℕ) → (one b + 2 * k) / 2 ≡ k
half b k = omega (arith, one_le b)

zero_bit : (x : ℕ) → bit 0 x ≡ false
unfolding bit
zero_bit x = ne_eqb (0 / 2 ^ x % 2) 1 (λ e. omega (arith, e, shr_le 0 x))

bit_next : (n : ℕ) (c : ℕ → Bool) (x : ℕ) → bit (set_number (suc n) c) (suc x) ≡ bit (set_number n (λ y. c (suc y))) x
unfolding set_number
bit_next n c x = bit_suc (set_number (suc n) c) x ∙ ap (λ (k : ℕ). bit k x) (half (c 0) (set_number n (λ y. c (suc y))))

bit_set : (n : ℕ) (c : ℕ → Bool) (x : ℕ) → x < n → bit (set_number n c) x ≡ c x
unfolding set_number
bit_set zero c x h = absurd (omega arith)
bit_set (suc n) c zero h = bit_first (c 0) (set_number n (λ y. c (suc y)))
bit_set (suc n) c (suc x) h = bit_next n c x ∙ bit_set n (λ y. c (suc y)) x (omega arith)

bit_over : (n : ℕ) (c : ℕ → Bool) (x : ℕ) → n ≤ x → bit (set_number n c) x ≡ false
unfolding set_number
bit_over zero c x h = zero_bit x
bit_over (suc n) c zero h = absurd (omega arith)
bit_over (suc n) c (suc x) h = bit_next n c x ∙ bit_over n (λ y. c (suc y)) x (omega arith)

sum_first : (f : ℕ → ℕ) (n : ℕ) → sum_below f (suc n) ≡ f 0 + sum_below (λ x. f (suc x)) n
unfolding sum_below
sum_first f zero = omega arith
sum_first f (suc n) = omega (arith, sum_first f n)

double : (f : ℕ → ℕ) (k : ℕ) → sum_below (λ x. 2 * f x) k ≡ 2 * sum_below f k
unfolding sum_below
double f zero = refl
double f (suc k) = omega (arith, double f k)

ones_set : (n : ℕ) (c : ℕ → Bool) → ones (set_number n c) ≡ sum_below (λ x. cond (c x) 1 0) n
unfolding set_number sum_below one ones
ones_set zero c = refl
ones_set (suc n) c =
    let k : ℕ = set_number n (λ x. c (suc x)) in
    let e = ones_step (one (c 0) + 2 * k) in
    let p : (one (c 0) + 2 * k) % 2 ≡ one (c 0) = omega (arith, one_le (c 0)) in
    e ∙ ap₂ ◌+◌ p (ap ones (half (c 0) k) ∙ ones_set n (λ x. c (suc x))) ∙ sym (sum_first (λ x. cond (c x) 1 0) n)

-- the same number as a sum of powers
number_sum : (n : ℕ) (c : ℕ → Bool) → sum_below (λ x. cond (c x) (2 ^ x) 0) n ≡ set_number n c
unfolding set_number
number_sum zero c = unfold sum_below in refl
number_sum (suc n) c =
    sum_first (λ x. cond (c x) (2 ^ x) 0) n
    ∙ ap₂ ◌+◌ (first (c 0)) (sum_cong (λ x. cond (c (suc x)) (2 ^ suc x) 0) (λ x. 2 * cond (c (suc x)) (2 ^ x) 0) n (λ x h. next (c (suc x)) x)
    ∙ double (λ x. cond (c (suc x)) (2 ^ x) 0) n ∙ ap (λ (k : ℕ). 2 * k) (number_sum n (λ x. c (suc x))))
  where
    first : (b : Bool) → cond b (2 ^ 0) 0 ≡ one b
    first b = unfold one in refl

    next : (b : Bool) (x : ℕ) → cond b (2 ^ suc x) 0 ≡ 2 * cond b (2 ^ x) 0
    next true x = omega (arith, pow-suc 2 x)
    next false x = refl

has_top : (t : Tree) (x : ℕ) → has t x ≡ true → x < top t
unfolding has top
has_top (leaf y) x e = omega (arith, eqb-true y x e)
has_top (node l r) x e = ⊎_elim (λ h. omega (arith, has_top l x h)) (λ h. omega (arith, has_top r x h)) (has_cases l r x e)

pub leaves_powers : (t : Tree) → leaf_set t ≡ sum_leaves (λ x. 2 ^ x) t
unfolding leaf_set sum_leaves
leaves_powers (leaf x) = refl
leaves_powers (node l r) = ap₂ ◌+◌ (leaves_powers l) (leaves_powers r)

set_number_lem : (t : Tree) → Distinct t → leaf_set t ≡ set_number (top t) (has t)
set_number_lem t D = leaves_powers t ∙ leaves_sum (λ x. 2 ^ x) (top t) t D (has_top t) ∙ number_sum (top t) (has t)

-- x is a leaf of the node exactly when bit x is set
pub leaf_bit : (t : Tree) → Distinct t → Stands (leaf_set t) (has t)
unfolding Stands
leaf_bit t D x =
    ap (λ (m : ℕ). bit m x) (set_number_lem t D)
    ∙ by_lt x (top t) (bit_set (top t) (has t) x)
    (λ h. bit_over (top t) (has t) x h ∙ by_test (has t x) (λ q. absurd (omega (arith, has_top t x q))) (λ q. sym q))

same_low : (m k : ℕ) → bit m 0 ≡ bit k 0 → m % 2 ≡ k % 2
unfolding bit
same_low m k e = go (eqb (m / 1 % 2) 1) refl (eqb (k / 1 % 2) 1) refl e
  where
    go : (b : Bool) → eqb (m / 1 % 2) 1 ≡ b → (d : Bool) → eqb (k / 1 % 2) 1 ≡ d → b ≡ d → m % 2 ≡ k % 2
    go true p true q r = omega (arith, eqb-true (m / 1 % 2) 1 p, eqb-true (k / 1 % 2) 1 q)
    go true p false q r = absurd (true≢false r)
    go false p true q r = absurd (true≢false (sym r))
    go false p false q r = omega (arith, eqb-false (m / 1 % 2) 1 p, eqb-false (k / 1 % 2) 1 q)

same_bits : (n m k : ℕ) → m ≤ n → k ≤ n → ((x : ℕ) → bit m x ≡ bit k x) → m ≡ k
same_bits zero m k g h e = omega arith
same_bits (suc n) m k g h e =
    let i : m / 2 ≡ k / 2 = same_bits n (m / 2) (k / 2) (omega arith) (omega arith) (λ x. sym (bit_suc m x) ∙ e (suc x) ∙ bit_suc k x) in
    omega (arith, i, same_low m k (e 0))

-- numbers with equal bits are equal: a set of leaves has one number
pub bits_equal : (m k : ℕ) → ((x : ℕ) → bit m x ≡ bit k x) → m ≡ k
bits_equal m k e = same_bits (m + k) m k (omega arith) (omega arith) e

pub stands_once : (m k : ℕ) (c d : ℕ → Bool) → Stands m c → Stands k d → (m ≡ k) ↔ ((x : ℕ) → c x ≡ d x)
unfolding Stands
stands_once m k c d p q =
    (λ e x. sym (p x) ∙ ap (λ (n : ℕ). bit n x) e ∙ q x, λ e. bits_equal m k (λ x. p x ∙ e x ∙ sym (q x)))

-- equal numbers exactly when equal sets
pub same_number : (t u : Tree) → Distinct t → Distinct u → (leaf_set t ≡ leaf_set u) ↔ ((x : ℕ) → has t x ≡ has u x)
same_number t u D E = stands_once (leaf_set t) (leaf_set u) (has t) (has u) (leaf_bit t D) (leaf_bit u E)

-- the number of bits set is the number of leaves
pub ones_size : (t : Tree) → Distinct t → ones (leaf_set t) ≡ size t
ones_size t D =
    ap ones (set_number_lem t D) ∙ ones_set (top t) (has t) ∙ sym (leaves_sum (λ x. 1) (top t) t D (has_top t)) ∙ size_sum t

-- with the leaves below n the number is below 2^n: for n up to 64 it fits 64 bits
set_lt : (n : ℕ) (c : ℕ → Bool) → set_number n c < 2 ^ n
unfolding set_number
set_lt zero c = omega arith
set_lt (suc n) c = omega (arith, set_lt n (λ x. c (suc x)), one_le (c 0), pow-suc 2 n)

pub number_lt : (n : ℕ) (t : Tree) → Distinct t → ((x : ℕ) → has t x ≡ true → x < n) → leaf_set t < 2 ^ n
number_lt n t D h =
    let e : leaf_set t ≡ set_number n (has t) = leaves_powers t ∙ leaves_sum (λ x. 2 ^ x) n t D h ∙ number_sum n (has t) in
    rw e (set_lt n (has t))
