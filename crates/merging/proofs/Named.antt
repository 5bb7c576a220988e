-- The names that a list of merges, read backwards, has brought in: each merge takes a cluster that is there into another. Main results:
-- smaller_named, larger_named, still_named, not_larger, named_times, named_all, under_unnamed, named_below, under_named, pairs_named, good, rising.
use Rattle.std.specs.Prelude.{◌≡◌, refl, Bool, true, false, ◌||◌, List, [], ◌∷◌, ℕ, zero, suc, ◌-◌, ◌≤◌, ◌<◌, eqb, ltb, length}
use Rattle.std.proofs.Common.{sym, ◌∙◌, true≢false, arith, ltb-true, ltb-false, eqb-true, eq-eqb, ne_eqb}
use Rattle.std.proofs.lemmas.Bool.{eqb-false}
use Rattle.rules.specs.Building.{Merge}
use Rattle.basics.proofs.Bools.{or_left, or_right, or_swap, or_no, or_false}
use Rattle.basics.proofs.Cases.{by_lt}
use Rattle.merging.specs.Once.{times}
use Rattle.merging.proofs.Once.{hit_same, hit_other}
use Rattle.merging.specs.Insertion.{put, insert, pairs_of, Bounded}
use Rattle.merging.proofs.Insertion.{by_insert, pairs_length}
use Rattle.merging.specs.Greedy.{Under}
use Rattle.merging.proofs.Greedy.{under_pairs}
use Rattle.merging.specs.Named.{named, Good, Rising}

-- the names of the first merge
pub smaller_named : (m : Merge) (P : List Merge) → Good (m ∷ P) → named (m ∷ P) m.0 ≡ true
unfolding Good named
smaller_named m P G = or_left (named P m.0) (eqb m.1 m.0) G.0

pub larger_named : (m : Merge) (P : List Merge) → named (m ∷ P) m.1 ≡ true
unfolding named
larger_named m P = or_right (named P m.1) (eqb m.1 m.1) (eq-eqb m.1 m.1 refl)

-- a name that is left after the first merge was there before it, and is not its larger name
pub still_named : (m : Merge) (P : List Merge) (x : ℕ) → named P x ≡ true → named (m ∷ P) x ≡ true
unfolding named
still_named m P x h = or_left (named P x) (eqb m.1 x) h

pub not_larger : (m : Merge) (P : List Merge) → Good (m ∷ P) → (x : ℕ) → named P x ≡ true → x ≡ m.1 → ⊥
unfolding Good
not_larger m P G x h e = true≢false (sym (rw e at h) ∙ G.1)

pub unnamed_times : (i : ℕ) (P : List Merge) → named P i ≡ false → times i P ≡ 0
unfolding named times
unnamed_times i [] e = refl
unnamed_times i (m ∷ P) e =
    let k = or_no (named P i) (eqb m.1 i) e in
    omega (arith, hit_other i m.1 (λ q. eqb-false m.1 i k.1 (sym q)), unnamed_times i P k.0)

-- a name other than 0 is the larger name of one merge
pub named_times : (i : ℕ) (P : List Merge) → Good P → 1 ≤ i → named P i ≡ true → times i P ≡ 1
unfolding named times Good
named_times i [] G h e = absurd (omega (arith, eqb-true 0 i e))
named_times i (m ∷ P) G h e = go (eqb m.1 i) refl (named_times i P G.2 h)
  where
    go : (b : Bool) → eqb m.1 i ≡ b → (named P i ≡ true → times i P ≡ 1) → times i (m ∷ P) ≡ 1
    go true q f = let s = eqb-true m.1 i q in omega (arith, hit_same i m.1 (sym s), unnamed_times i P (rw s at G.1))
    go false q f = let k : named P i ≡ true = sym (or_false (named P i)) ∙ (rw q at e) in
        omega (arith, hit_other i m.1 (λ s. eqb-false m.1 i q (sym s)), f k)

named_put : (n d : ℕ) (P : List Merge) (x : ℕ) → named (put n d P) x ≡ named P x || eqb n x
unfolding named put
named_put n d [] x = refl
named_put n zero (m ∷ P) x = or_swap (named P x) (eqb n x) (eqb m.1 x)
named_put n (suc d) (m ∷ P) x = rw (named_put n d P x) (or_swap (named P x) (eqb n x) (eqb m.1 x))

named_insert : (n y : ℕ) (P : List Merge) (x : ℕ) → named (insert n y P) x ≡ named P x || eqb n x
unfolding named
named_insert n y P x = by_insert n y P (λ R. named R x ≡ named P x || eqb n x) (λ l. refl) (λ l. named_put n (y - n) P x)

pub named_all : (v : ℕ → ℕ) (n x : ℕ) → x < n → named (pairs_of v n) x ≡ true
unfolding pairs_of named
named_all v zero x h = absurd (omega arith)
named_all v (suc zero) x h = eq-eqb 0 x (omega arith)
named_all v (suc (suc m)) x h = named_insert (suc m) (v (suc m)) (pairs_of v (suc m)) x ∙ go (eqb x (suc m)) refl (named_all v (suc m) x)
  where
    go : (b : Bool) → eqb x (suc m) ≡ b → (x < suc m → named (pairs_of v (suc m)) x ≡ true) → named (pairs_of v (suc m)) x || eqb (suc m) x ≡ true
    go true q ih = or_right (named (pairs_of v (suc m)) x) (eqb (suc m) x) (eq-eqb (suc m) x (sym (eqb-true x (suc m) q)))
    go false q ih = or_left (named (pairs_of v (suc m)) x) (eqb (suc m) x) (ih (omega (arith, eqb-false x (suc m) q)))

-- where all larger names are below n, so are all names
pub under_unnamed : (n : ℕ) (P : List Merge) → Under n P → (x : ℕ) → 1 ≤ x → n ≤ x → named P x ≡ false
unfolding named Under
under_unnamed n [] u x h l = ne_eqb 0 x (omega arith)
under_unnamed n (m ∷ P) u x h l = let a = u.0 in rw (under_unnamed n P u.1 x h l, ne_eqb m.1 x (omega arith))

-- a name is below n where all larger names are
pub named_below : (n : ℕ) (P : List Merge) → 0 < n → Under n P → (x : ℕ) → named P x ≡ true → x < n
named_below n P h u x e = by_lt x n (λ l. l) (λ l. absurd (true≢false (sym e ∙ under_unnamed n P u x (omega arith) l)))

pub under_named : (n : ℕ) (P : List Merge) → ((x : ℕ) → named P x ≡ true → x < n) → Under n P
unfolding named Under
under_named n [] h = tt
under_named n (m ∷ P) h =
    (h m.1 (or_right (named P m.1) (eqb m.1 m.1) (eq-eqb m.1 m.1 refl)), under_named n P (λ x e. h x (or_left (named P x) (eqb m.1 x) e)))

-- the names of a vector's merges are its leaves
pub pairs_named : (v : ℕ → ℕ) (n : ℕ) → 1 ≤ n → (x : ℕ) → named (pairs_of v n) x ≡ ltb x n
pairs_named v n h x = go (ltb x n) refl
  where
    go : (b : Bool) → ltb x n ≡ b → named (pairs_of v n) x ≡ b
    go true q = named_all v n x (ltb-true x n q)
    go false q = let l = ltb-false x n q in under_unnamed n (pairs_of v n) (under_pairs v n) x (omega arith) l

good_put : (n d : ℕ) (P : List Merge) → Good P → named P n ≡ false → d < length P → Good (put n d P)
unfolding Good put named
good_put n d [] G e h = absurd (omega arith)
good_put n zero (m ∷ P) G e h =
    let k = or_no (named P n) (eqb m.1 n) e in (
      or_left (named P m.0) (eqb n m.0) G.0,
      rw G.1 (ne_eqb n m.1 (λ q. eqb-false m.1 n k.1 (sym q))),
      (G.0, k.0, G.2),
    )
good_put n (suc d) (m ∷ P) G e h =
    let k = or_no (named P n) (eqb m.1 n) e in (
      named_put n d P m.0 ∙ or_left (named P m.0) (eqb n m.0) G.0,
      named_put n d P m.1 ∙ rw G.1 (ne_eqb n m.1 (λ q. eqb-false m.1 n k.1 (sym q))),
      good_put n d P G.2 k.0 (omega arith),
    )

good_insert : (n x : ℕ) (P : List Merge) → Good P → ((y : ℕ) → y < n → named P y ≡ true) → named P n ≡ false → (n ≤ x → x - n < length P) → Good (insert n x P)
unfolding Good
good_insert n x P G f e h = by_insert n x P Good (λ l. (f x l, e, G)) (λ l. good_put n (x - n) P G e (h l))

pub good : (v : ℕ → ℕ) (n : ℕ) → Bounded v n → Good (pairs_of v n)
unfolding pairs_of Good Bounded
good v zero ok = tt
good v (suc zero) ok = tt
good v (suc (suc m)) ok =
    good_insert (suc m) (v (suc m)) (pairs_of v (suc m)) (good v (suc m) (λ i h. ok i (omega arith))) (named_all v (suc m))
    (under_unnamed (suc m) (pairs_of v (suc m)) (under_pairs v (suc m)) (suc m) (omega arith) (omega arith))
    (λ h. omega (arith, ok (suc m) (omega arith), pairs_length v m))

rising_put : (n d : ℕ) (P : List Merge) → Under n P → Rising P → d < length P → Rising (put n d P)
unfolding Rising put Under
rising_put n d [] u g h = absurd (omega arith)
rising_put n zero (m ∷ P) u g h = let a = u.0 in let b = g.0 in (b, (omega arith, g.1))
rising_put n (suc d) (m ∷ P) u g h = (g.0, rising_put n d P u.1 g.1 (omega arith))

pub rising_insert : (n x : ℕ) (P : List Merge) → Under n P → Rising P → (n ≤ x → x - n < length P) → Rising (insert n x P)
unfolding Rising
rising_insert n x P u g h = by_insert n x P Rising (λ l. (l, g)) (λ l. rising_put n (x - n) P u g (h l))

pub rising : (v : ℕ → ℕ) (n : ℕ) → Bounded v n → Rising (pairs_of v n)
unfolding pairs_of Rising Bounded
rising v zero ok = tt
rising v (suc zero) ok = tt
rising v (suc (suc m)) ok =
    rising_insert (suc m) (v (suc m)) (pairs_of v (suc m)) (under_pairs v (suc m)) (rising v (suc m) (λ i h. ok i (omega arith)))
    (λ h. omega (arith, ok (suc m) (omega arith), pairs_length v m))
