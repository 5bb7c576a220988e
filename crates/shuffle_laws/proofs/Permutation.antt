-- Permutations: a list that has no fault of refusal 11 and n entries has each number below n once. Main results: permutes, no_fault, entry_below,
-- entry_injective, entry_onto, one_to_one.
use Rattle.std.specs.Prelude.{◌≡◌, refl, ◌≢◌, Bool, true, false, not, ◌&&◌, cond, List, [], ◌∷◌, ◌++◌, ℕ, zero, suc, ◌+◌, ◌≤◌, ◌<◌, ltb, length, get_or}
use Rattle.std.proofs.Common.{sym, ap, ◌∙◌, arith, eq-eqb, ne_eqb}
use Rattle.std.proofs.Math.Option.{none, none-ne-some}
use Rattle.rules.specs.Building.{member}
use Rattle.rules.specs.Vector.{entry}
use Rattle.rules.specs.Order.{listed}
use Rattle.rules.specs.Shuffle.{permutation_fault}
use Rattle.basics.proofs.Cases.{by_lt, by_eq, by_test}
use Rattle.basics.proofs.Listed.{length_listed}
use Rattle.basics.proofs.Names.{value_step}
use Rattle.basics.specs.Sums.{one, sum_below}
use Rattle.basics.proofs.Sums.{one_le, one_lt, one_ge, one_lt_below, sum_plus, sum_zero, sum_full}
use Rattle.merging.specs.Once.{hit}
use Rattle.merging.proofs.Once.{hit_same, hit_other}
use Rattle.shuffle_laws.proofs.Count.{hit_le, sum_hit}
use Rattle.shuffle_laws.specs.Permutation.{occurs, Permutes, room}

room_used : (n x : ℕ) (used : List ℕ) → room n (x ∷ used) x ≡ 0
unfolding room member one
room_used n x used = rw (eq-eqb x x refl) (go (ltb x n))
  where
    go : (b : Bool) → cond (b && false) 1 0 ≡ zero
    go true = refl
    go false = refl

room_other : (n x y : ℕ) (used : List ℕ) → y ≢ x → room n (x ∷ used) y ≡ room n used y
unfolding room member
room_other n x y used d = rw (ne_eqb y x d)

room_free : (n x : ℕ) (used : List ℕ) → ltb x n ≡ true → member x used ≡ false → room n used x ≡ 1
unfolding room one
room_free n x used e f = rw (e, f)

free_room : (n x : ℕ) (used : List ℕ) → 1 ≤ room n used x → (ltb x n ≡ true) × (member x used ≡ false)
unfolding room one
free_room n x used = go (ltb x n) (member x used)
  where
    go : (a b : Bool) → 1 ≤ cond (a && not b) 1 0 → (a ≡ true) × (b ≡ false)
    go true true h = absurd (omega arith)
    go true false h = (refl, refl)
    go false b h = absurd (omega arith)

fault_room : (n i : ℕ) (used p : List ℕ) → permutation_fault n i used p ≡ none → (y : ℕ) → occurs y p ≤ room n used y
unfolding occurs hit
fault_room n i used [] e y = omega arith
fault_room n i used (x ∷ p) e y =
    let first = sym (value_step n i used x p) ∙ e in
    by_test (ltb x n)
    (λ below. by_test (member x used)
    (λ q. absurd (none-ne-some i (sym (rw (below, q) at first))))
    (λ q. let rest = fault_room n (i + 1) (x ∷ used) p (rw (below, q) at first) in
    by_eq y x
    (λ s. let used_up : room n (x ∷ used) y ≡ 0 = rw s (room_used n x used) in
    let free : room n used y ≡ 1 = rw s (room_free n x used below q) in
    omega (arith, hit_le y x, rest y, used_up, free))
    (λ d. omega (arith, hit_other y x d, rest y, room_other n x y used d))))
    (λ q. absurd (none-ne-some i (sym (rw q at first))))

room_fault : (n i : ℕ) (used p : List ℕ) → ((y : ℕ) → occurs y p ≤ room n used y) → permutation_fault n i used p ≡ none
unfolding permutation_fault occurs
room_fault n i used [] h = refl
room_fault n i used (x ∷ p) h =
    let first = free_room n x used (omega (arith, h x, hit_same x x refl)) in
    value_step n i used x p ∙ rw (first.0, first.1)
    (room_fault n (i + 1) (x ∷ used) p (λ y.
    by_eq y x
    (λ s. rw s (omega (arith, h x, hit_same x x refl, room_free n x used first.0 first.1, room_used n x used)))
    (λ d. omega (arith, h y, hit_other y x d, room_other n x y used d))))

sum_occurs : (n : ℕ) (p : List ℕ) → ((y : ℕ) → n ≤ y → occurs y p ≡ 0) → sum_below (λ y. occurs y p) n ≡ length p
unfolding occurs
sum_occurs n [] h = sum_zero n
sum_occurs n (x ∷ p) h =
    by_lt x n
    (λ l. omega (
      arith,
      sum_plus (λ y. hit y x) (λ y. occurs y p) n,
      sum_hit n x,
      one_lt x n l,
      sum_occurs n p (λ y k. omega (arith, h y k)),
    ))
    (λ l. absurd (omega (arith, h x l, hit_same x x refl)))

room_all : (n y : ℕ) → room n [] y ≡ one (ltb y n)
unfolding room member one
room_all n y = go (ltb y n)
  where
    go : (b : Bool) → cond (b && true) 1 0 ≡ cond b (suc zero) 0
    go true = refl
    go false = refl

-- no fault of refusal 11, and n entries: each number below n stands once
pub permutes : (n : ℕ) (p : List ℕ) → length p ≡ n → permutation_fault n 0 [] p ≡ none → Permutes n p
permutes n p e f =
    let most : (y : ℕ) → occurs y p ≤ one (ltb y n) = λ y. omega (arith, fault_room n 0 [] p f y, room_all n y) in
    let all = sum_full (λ y. occurs y p) n (λ y l. omega (arith, most y, one_lt y n l))
    (sum_occurs n p (λ y k. omega (arith, most y, one_ge y n k)) ∙ e) in
    record {
      count = e;
      each = λ y. by_lt y n (λ l. omega (arith, all y l, one_lt y n l)) (λ k. omega (arith, most y, one_ge y n k));
    }

pub no_fault : {n : ℕ} {p : List ℕ} → Permutes n p → permutation_fault n 0 [] p ≡ none
no_fault {n} {p} P = room_fault n 0 [] p (λ y. omega (arith, P.each y, room_all n y))

occurs_at : (p : List ℕ) (x : ℕ) → x < length p → 1 ≤ occurs (get_or p x 0) p
unfolding occurs
occurs_at [] x h = absurd (omega arith)
occurs_at (a ∷ p) zero h = omega (arith, hit_same a a refl)
occurs_at (a ∷ p) (suc x) h = omega (arith, occurs_at p x (omega arith))

occurs_place : (y : ℕ) (p : List ℕ) → 1 ≤ occurs y p → (x : ℕ) × (x < length p) × (get_or p x 0 ≡ y)
unfolding occurs
occurs_place y [] h = absurd (omega arith)
occurs_place y (a ∷ p) h =
    by_eq y a (λ e. (0, omega arith, sym e))
    (λ d. let r = occurs_place y p (omega (arith, hit_other y a d)) in let l = r.1 in (suc r.0, omega arith, r.2))

same_place : (p : List ℕ) (x y : ℕ) → x < length p → y < length p → get_or p x 0 ≡ get_or p y 0 → occurs (get_or p x 0) p ≤ 1 → x ≡ y
unfolding occurs
same_place [] x y h k e o = absurd (omega arith)
same_place (a ∷ p) zero zero h k e o = refl
same_place (a ∷ p) zero (suc y) h k e o =
    let l : 1 ≤ occurs a p = rw e (occurs_at p y (omega arith)) in absurd (omega (arith, hit_same a a refl))
same_place (a ∷ p) (suc x) zero h k e o =
    let l : 1 ≤ occurs (get_or p x 0) p = occurs_at p x (omega arith) in absurd (omega (arith, hit_same (get_or p x 0) a e))
same_place (a ∷ p) (suc x) (suc y) h k e o = ap suc (same_place p x y (omega arith) (omega arith) e (omega arith))

-- the entries of a permutation are below n, no two are the same, and each number below n is one
pub entry_below : {n : ℕ} {p : List ℕ} → Permutes n p → (x : ℕ) → x < n → entry p x < n
unfolding entry
entry_below {n} {p} P x h =
    one_lt_below (get_or p x 0) n (omega (arith, P.each (get_or p x 0), occurs_at p x (omega (arith, P.count))))

pub entry_injective : {n : ℕ} {p : List ℕ} → Permutes n p → (x y : ℕ) → x < n → y < n → entry p x ≡ entry p y → x ≡ y
unfolding entry
entry_injective {n} {p} P x y h k e =
    same_place p x y (omega (arith, P.count)) (omega (arith, P.count)) e
    (omega (arith, P.each (get_or p x 0), one_le (ltb (get_or p x 0) n)))

pub entry_onto : {n : ℕ} {p : List ℕ} → Permutes n p → (y : ℕ) → y < n → (x : ℕ) × (x < n) × (entry p x ≡ y)
unfolding entry
entry_onto {n} {p} P y h =
    let r = occurs_place y p (omega (arith, P.each y, one_lt y n h)) in let l = r.1 in (r.0, omega (arith, P.count), r.2)

occurs_append : (y : ℕ) (p q : List ℕ) → occurs y (p ++ q) ≡ occurs y p + occurs y q
unfolding occurs
occurs_append y [] q = omega arith
occurs_append y (x ∷ p) q = omega (arith, occurs_append y p q)

occurs_never : (n : ℕ) (f : ℕ → ℕ) (y : ℕ) → ((x : ℕ) → x < n → y ≢ f x) → occurs y (listed n f) ≡ 0
unfolding listed occurs
occurs_never zero f y h = refl
occurs_never (suc n) f y h =
    omega (
      arith,
      occurs_append y (listed n f) (f n ∷ []),
      occurs_never n f y (λ x l. h x (omega arith)),
      hit_other y (f n) (h n (omega arith)),
    )

occurs_once : (n : ℕ) (f : ℕ → ℕ) (y : ℕ) → ((x z : ℕ) → x < n → z < n → f x ≡ f z → x ≡ z) → occurs y (listed n f) ≤ 1
unfolding listed occurs
occurs_once zero f y h = omega arith
occurs_once (suc n) f y h =
    let split = occurs_append y (listed n f) (f n ∷ []) in
    by_eq y (f n)
    (λ e. omega (
      arith,
      hit_le y (f n),
      occurs_never n f y (λ x l q. absurd (omega (arith, h x n (omega arith) (omega arith) (sym q ∙ e)))),
    ))
    (λ d. omega (arith, hit_other y (f n) d, occurs_once n f y (λ x z k l. h x z (omega arith) (omega arith))))

-- n values below n, no two the same, are a permutation
pub one_to_one : (n : ℕ) (f : ℕ → ℕ) → ((x : ℕ) → x < n → f x < n) → ((x z : ℕ) → x < n → z < n → f x ≡ f z → x ≡ z) → Permutes n (listed n f)
one_to_one n f b i =
    permutes n (listed n f) (length_listed n f)
    (room_fault n 0 [] (listed n f) (λ y.
    by_lt y n
    (λ l. omega (arith, occurs_once n f y i, room_all n y, one_lt y n l))
    (λ k. omega (arith, occurs_never n f y (λ x l q. absurd (omega (arith, b x l)))))))
