-- The greedy order of a list of merges: each is, of those that wait for nothing before them, the one with the greatest larger name. Main results:
-- under_pairs, greedy.
use Rattle.std.specs.Prelude.{◌≡◌, refl, false, not, List, [], ◌∷◌, ℕ, zero, suc, ◌-◌, ◌≤◌, ◌<◌, length}
use Rattle.std.proofs.Common.{sym, ◌∙◌, true≢false, arith, eq-eqb}
use Rattle.rules.specs.Building.{Merge}
use Rattle.basics.proofs.Bools.{and_left, and_right}
use Rattle.merging.specs.Insertion.{put, insert, pairs_of, Bounded}
use Rattle.merging.proofs.Insertion.{by_insert, pairs_length}
use Rattle.merging.specs.Greedy.{touch, free, Ahead, Greedy, Under, More}

under_ahead : (n : ℕ) (Q P : List Merge) → Under n P → Ahead n Q P
unfolding Under Ahead
under_ahead n Q [] u = tt
under_ahead n Q (p ∷ P) u = (λ _. u.0, under_ahead n (p ∷ Q) P u.1)

more_cons : (q : Merge) (Q Q' : List Merge) → More Q Q' → More (q ∷ Q) (q ∷ Q')
unfolding More free
more_cons q Q Q' h p e = rw (and_left (not (touch q p)) (free Q' p) e) (h p (and_right (not (touch q p)) (free Q' p) e))

more_skip : (q : Merge) (Q : List Merge) → More Q (q ∷ Q)
unfolding More free
more_skip q Q p e = and_right (not (touch q p)) (free Q p) e

ahead_more : (i : ℕ) (Q Q' P : List Merge) → More Q Q' → Ahead i Q P → Ahead i Q' P
unfolding Ahead More
ahead_more i Q Q' [] h A = tt
ahead_more i Q Q' (p ∷ P) h A = (λ e. A.0 (h p e), ahead_more i (p ∷ Q) (p ∷ Q') P (more_cons p Q Q' h) A.1)

-- the new pair waits for the one right before it
waits : (n : ℕ) (m : Merge) (Q : List Merge) → free (m ∷ Q) (m.0, n) ≡ false
unfolding free touch
waits n m Q = rw (eq-eqb m.0 m.0 refl)

-- ahead of P, and of P with the new pair put in
ahead_put : (i n d : ℕ) (Q P : List Merge) → d < length P → Ahead i Q P → Ahead i Q (put n d P)
unfolding Ahead put
ahead_put i n d Q [] h A = absurd (omega arith)
ahead_put i n zero Q (m ∷ P) h A =
    (A.0, (λ e. absurd (true≢false (sym e ∙ waits n m Q)), ahead_more i (m ∷ Q) ((m.0, n) ∷ m ∷ Q) P (more_skip (m.0, n) (m ∷ Q)) A.1))
ahead_put i n (suc d) Q (m ∷ P) h A = (A.0, ahead_put i n d (m ∷ Q) P (omega arith) A.1)

greedy_put : (n d : ℕ) (P : List Merge) → Under n P → d < length P → Greedy P → Greedy (put n d P)
unfolding Greedy put Under Ahead
greedy_put n d [] u h G = absurd (omega arith)
greedy_put n zero (m ∷ P) u h G = (
  (λ e. absurd (true≢false (sym e ∙ waits n m [])), ahead_more m.1 (m ∷ []) ((m.0, n) ∷ m ∷ []) P (more_skip (m.0, n) (m ∷ [])) G.0),
  (under_ahead n ((m.0, n) ∷ []) P u.1, G.1),
)
greedy_put n (suc d) (m ∷ P) u h G = (ahead_put m.1 n d (m ∷ []) P (omega arith) G.0, greedy_put n d P u.1 (omega arith) G.1)

under_up : (n : ℕ) (P : List Merge) → Under n P → Under (suc n) P
unfolding Under
under_up n [] u = tt
under_up n (m ∷ P) u = let l = u.0 in (omega arith, under_up n P u.1)

under_put : (n d : ℕ) (P : List Merge) → Under n P → Under (suc n) (put n d P)
unfolding Under put
under_put n d [] u = (omega arith, tt)
under_put n zero (m ∷ P) u = let l = u.0 in (omega arith, (omega arith, under_up n P u.1))
under_put n (suc d) (m ∷ P) u = let l = u.0 in (omega arith, under_put n d P u.1)

pub under_insert : (n x : ℕ) (P : List Merge) → Under n P → Under (suc n) (insert n x P)
unfolding Under
under_insert n x P u = by_insert n x P (Under (suc n)) (λ l. (omega arith, under_up n P u)) (λ l. under_put n (x - n) P u)

pub under_pairs : (v : ℕ → ℕ) (n : ℕ) → Under n (pairs_of v n)
unfolding pairs_of Under
under_pairs v zero = tt
under_pairs v (suc zero) = tt
under_pairs v (suc (suc m)) = under_insert (suc m) (v (suc m)) (pairs_of v (suc m)) (under_pairs v (suc m))

greedy_insert : (n x : ℕ) (P : List Merge) → Under n P → (n ≤ x → x - n < length P) → Greedy P → Greedy (insert n x P)
unfolding Greedy
greedy_insert n x P u h G = by_insert n x P Greedy (λ l. (under_ahead n ((x, n) ∷ []) P u, G)) (λ l. greedy_put n (x - n) P u (h l) G)

pub greedy : (v : ℕ → ℕ) (n : ℕ) → Bounded v n → Greedy (pairs_of v n)
unfolding pairs_of Greedy Bounded
greedy v zero ok = tt
greedy v (suc zero) ok = tt
greedy v (suc (suc m)) ok =
    greedy_insert (suc m) (v (suc m)) (pairs_of v (suc m)) (under_pairs v (suc m))
    (λ h. omega (arith, ok (suc m) (omega arith), pairs_length v m)) (greedy v (suc m) (λ i h. ok i (omega arith)))
