-- Each larger name occurs once among the merges of a vector; the last leaf's entry, and the merges without it, are read off the merges. Main results:
-- never, once, entry_in_insert, without_insert.
use Rattle.std.specs.Prelude.{◌≡◌, refl, ◌≢◌, Bool, true, false, cond, List, [], ◌∷◌, ◌++◌, ℕ, zero, suc, ◌+◌, ◌-◌, ◌≤◌, ◌<◌, eqb, length, take, drop, get_or}
use Rattle.std.proofs.Common.{ap, arith, take-append-drop, eqb-true, eq-eqb, ne_eqb}
use Rattle.std.proofs.lemmas.Bool.{eqb-false}
use Rattle.rules.specs.Building.{Merge}
use Rattle.merging.specs.Insertion.{put, insert, pairs_of, Bounded}
use Rattle.merging.proofs.Insertion.{by_insert, pairs_length}
use Rattle.merging.specs.Once.{hit, times, place, entry_in, without}

pub times_append : (i : ℕ) (P Q : List Merge) → times i (P ++ Q) ≡ times i P + times i Q
unfolding times
times_append i [] Q = omega arith
times_append i (m ∷ P) Q = omega (arith, times_append i P Q)

times_put : (i n d : ℕ) (P : List Merge) → times i (put n d P) ≡ hit i n + times i P
unfolding put times
times_put i n d P =
    omega (
      arith,
      times_append i (take (suc d) P) (((get_or P d (0, 0)).0, n) ∷ drop (suc d) P),
      times_append i (take (suc d) P) (drop (suc d) P),
      ap (times i) (take-append-drop (suc d) P),
    )

pub times_insert : (i n x : ℕ) (P : List Merge) → times i (insert n x P) ≡ hit i n + times i P
unfolding times
times_insert i n x P = by_insert n x P (λ R. times i R ≡ hit i n + times i P) (λ l. refl) (λ l. times_put i n (x - n) P)

pub hit_same : (i j : ℕ) → i ≡ j → hit i j ≡ 1
unfolding hit
hit_same i j e = rw (eq-eqb i j e)

pub hit_other : (i j : ℕ) → i ≢ j → hit i j ≡ 0
unfolding hit
hit_other i j h = rw (ne_eqb i j h)

-- i never joins from n on
pub never : (v : ℕ → ℕ) (n i : ℕ) → n ≤ i → times i (pairs_of v n) ≡ 0
unfolding pairs_of times
never v zero i h = refl
never v (suc zero) i h = refl
never v (suc (suc m)) i h = omega (arith, times_insert i (suc m) (v (suc m)) (pairs_of v (suc m)), hit_other i (suc m) (omega arith), never v (suc m) i (omega arith))

pub once : (v : ℕ → ℕ) (n i : ℕ) → 1 ≤ i → i < n → times i (pairs_of v n) ≡ 1
unfolding pairs_of times
once v zero i h l = absurd (omega arith)
once v (suc zero) i h l = absurd (omega arith)
once v (suc (suc m)) i h l = go (eqb i (suc m)) refl (once v (suc m) i h)
  where
    go : (b : Bool) → eqb i (suc m) ≡ b → (i < suc m → times i (pairs_of v (suc m)) ≡ 1) → times i (insert (suc m) (v (suc m)) (pairs_of v (suc m))) ≡ 1
    go true q ih = let e = eqb-true i (suc m) q in
        omega (arith, times_insert i (suc m) (v (suc m)) (pairs_of v (suc m)), hit_same i (suc m) e, never v (suc m) i (omega arith))
    go false q ih =
        omega (arith, times_insert i (suc m) (v (suc m)) (pairs_of v (suc m)), hit_other i (suc m) (eqb-false i (suc m) q), ih (omega (arith, eqb-false i (suc m) q)))

pub misses : (n : ℕ) (m : Merge) (P : List Merge) → times n (m ∷ P) ≡ 0 → (eqb n m.1 ≡ false) × (times n P ≡ 0)
unfolding times hit
misses n m P e = go (eqb n m.1) e
  where
    go : (b : Bool) → cond b 1 0 + times n P ≡ 0 → (b ≡ false) × (times n P ≡ 0)
    go true e' = absurd (omega arith)
    go false e' = (refl, omega arith)

place_put : (n d : ℕ) (P : List Merge) → times n P ≡ 0 → d < length P → place n (put n d P) ≡ suc d
unfolding put place
place_put n d [] z h = absurd (omega arith)
place_put n zero (m ∷ P) z h = rw ((misses n m P z).0, eq-eqb n n refl)
place_put n (suc d) (m ∷ P) z h = rw (misses n m P z).0 (ap suc (place_put n d P (misses n m P z).1 (omega arith)))

entry_in_put : (n d : ℕ) (P : List Merge) → times n P ≡ 0 → d < length P → entry_in n (put n d P) ≡ n + d
unfolding put place entry_in
entry_in_put n d [] z h = absurd (omega arith)
entry_in_put n zero (m ∷ P) z h = rw ((misses n m P z).0, eq-eqb n n refl)
entry_in_put n (suc d) (m ∷ P) z h = rw (misses n m P z).0 (ap (λ (k : ℕ). n + k) (place_put n d P (misses n m P z).1 (omega arith)))

without_put : (n d : ℕ) (P : List Merge) → times n P ≡ 0 → d < length P → without n (put n d P) ≡ P
unfolding put without
without_put n d [] z h = absurd (omega arith)
without_put n zero (m ∷ P) z h = rw ((misses n m P z).0, eq-eqb n n refl)
without_put n (suc d) (m ∷ P) z h = rw (misses n m P z).0 (ap (λ (Q : List Merge). m ∷ Q) (without_put n d P (misses n m P z).1 (omega arith)))

pub entry_in_insert : (n x : ℕ) (P : List Merge) → times n P ≡ 0 → (n ≤ x → x - n < length P) → entry_in n (insert n x P) ≡ x
unfolding entry_in
entry_in_insert n x P z h =
    by_insert n x P (λ R. entry_in n R ≡ x) (λ l. rw (eq-eqb n n refl)) (λ l. rw (entry_in_put n (x - n) P z (h l)) (omega arith))

pub without_insert : (n x : ℕ) (P : List Merge) → times n P ≡ 0 → (n ≤ x → x - n < length P) → without n (insert n x P) ≡ P
unfolding without
without_insert n x P z h = by_insert n x P (λ R. without n R ≡ P) (λ l. rw (eq-eqb n n refl)) (λ l. without_put n (x - n) P z (h l))

pub fits : (v : ℕ → ℕ) (m : ℕ) → Bounded v (suc (suc m)) → suc m ≤ v (suc m) → v (suc m) - suc m < length (pairs_of v (suc m))
unfolding Bounded
fits v m ok h = omega (arith, ok (suc m) (omega arith), pairs_length v m)
