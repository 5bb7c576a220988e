-- A list of merges without that of leaf n: what it keeps, the greedy order too where that merge stood right behind one with its smaller name. Main
-- results: times_without, rising_without, under_without, good_without, greedy_unput.
use Rattle.std.specs.Prelude.{◌≡◌, refl, ◌≢◌, Bool, true, false, not, ◌&&◌, ◌||◌, cond, List, [], ◌∷◌, ℕ, zero, suc, ◌+◌, ◌<◌, eqb, length}
use Rattle.std.proofs.Common.{sym, ◌∙◌, arith, eqb-true, ne_eqb}
use Rattle.std.proofs.lemmas.Bool.{eqb-false}
use Rattle.rules.specs.Building.{Merge}
use Rattle.basics.proofs.Bools.{or_false, and_left, and_right}
use Rattle.merging.specs.Insertion.{put}
use Rattle.merging.specs.Once.{hit, times, place, without}
use Rattle.merging.proofs.Once.{misses, hit_other}
use Rattle.merging.specs.Greedy.{touch, free, Ahead, Greedy, Under}
use Rattle.merging.specs.Named.{named, Good, Rising}
use Rattle.merging.specs.Without.{Freer}

pub times_without : (n i : ℕ) (P : List Merge) → i ≢ n → times i (without n P) ≡ times i P
unfolding times without
times_without n i [] h = refl
times_without n i (m ∷ P) h = go (eqb n m.1) refl (times_without n i P h)
  where
    go : (b : Bool) → eqb n m.1 ≡ b → times i (without n P) ≡ times i P → times i (cond b P (m ∷ without n P)) ≡ hit i m.1 + times i P
    go true q ih = let p : n ≡ m.1 = eqb-true n m.1 q in rw (hit_other i m.1 (λ e. h (omega arith))) (omega arith)
    go false q ih = rw ih

pub rising_without : (n : ℕ) (P : List Merge) → Rising P → Rising (without n P)
unfolding Rising without
rising_without n [] g = tt
rising_without n (m ∷ P) g = go (eqb n m.1) (rising_without n P g.1)
  where
    go : (b : Bool) → Rising (without n P) → Rising (cond b P (m ∷ without n P))
    go true ih = g.1
    go false ih = (g.0, ih)

under_none : (n : ℕ) (P : List Merge) → Under (suc n) P → times n P ≡ 0 → Under n P
unfolding Under
under_none n [] u z = tt
under_none n (m ∷ P) u z = let l = u.0 in let k = misses n m P z in (omega (arith, eqb-false n m.1 k.0), under_none n P u.1 k.1)

-- the one merge of n stands first, or in the rest
pub once_at : (n : ℕ) (m : Merge) (P : List Merge) → times n (m ∷ P) ≡ 1 → (b : Bool) → eqb n m.1 ≡ b → times n P ≡ cond b 0 1
unfolding times hit
once_at n m P z true q = let e : 1 + times n P ≡ 1 = rw q at z in omega arith
once_at n m P z false q = let e : 0 + times n P ≡ 1 = rw q at z in omega arith

pub under_without : (n : ℕ) (P : List Merge) → Under (suc n) P → times n P ≡ 1 → Under n (without n P)
unfolding Under without
under_without n [] u z = tt
under_without n (m ∷ P) u z = go (eqb n m.1) refl (under_without n P u.1)
  where
    go : (b : Bool) → eqb n m.1 ≡ b → (times n P ≡ 1 → Under n (without n P)) → Under n (cond b P (m ∷ without n P))
    go true q ih = under_none n P u.1 (once_at n m P z true q)
    go false q ih = let l = u.0 in (omega (arith, eqb-false n m.1 q), ih (once_at n m P z false q))

named_without : (n x : ℕ) (P : List Merge) → x ≢ n → named (without n P) x ≡ named P x
unfolding named without
named_without n x [] h = refl
named_without n x (m ∷ P) h = go (eqb n m.1) refl (named_without n x P h)
  where
    go : (b : Bool) → eqb n m.1 ≡ b → named (without n P) x ≡ named P x → named (cond b P (m ∷ without n P)) x ≡ named P x || eqb m.1 x
    go true q ih = let p : n ≡ m.1 = eqb-true n m.1 q in rw (ne_eqb m.1 x (λ e. h (omega arith))) (sym (or_false (named P x)))
    go false q ih = rw ih

pub good_without : (n : ℕ) (P : List Merge) → Rising P → Under (suc n) P → Good P → Good (without n P)
unfolding Rising Under Good without
good_without n [] g u G = tt
good_without n (m ∷ P) g u G = go (eqb n m.1) refl (good_without n P g.1 u.1 G.2)
  where
    go : (b : Bool) → eqb n m.1 ≡ b → Good (without n P) → Good (cond b P (m ∷ without n P))
    go true q ih = G.2
    go false q ih =
        let l = u.0 in
        let k = g.0 in
        let e = eqb-false n m.1 q in
        (named_without n m.0 P (omega arith) ∙ G.0, named_without n m.1 P (λ p. e (sym p)) ∙ G.1, ih)

-- The merge of n right behind m, with m's smaller name, touches no more of the names below n than m does.
behind_free : (n : ℕ) (m p : Merge) (Q : List Merge) → p.0 < n → p.1 < n → free (m ∷ Q) p ≡ true → free ((m.0, n) ∷ m ∷ Q) p ≡ true
unfolding free touch
behind_free n m p Q h l e = rw (ne_eqb n p.0 (omega arith), ne_eqb n p.1 (omega arith)) (go (eqb m.0 p.0) (eqb m.0 p.1) e)
  where
    go : (a b : Bool) → not (a || b || eqb m.1 p.0 || eqb m.1 p.1) && free Q p ≡ true
        → not (a || b || false || false) && (not (a || b || eqb m.1 p.0 || eqb m.1 p.1) && free Q p) ≡ true
    go true b e' = e'
    go false true e' = e'
    go false false e' = e'

freer_cons : (n : ℕ) (q : Merge) (Q Q' : List Merge) → Freer n Q Q' → Freer n (q ∷ Q) (q ∷ Q')
unfolding Freer free
freer_cons n q Q Q' h p l k e = rw (and_left (not (touch q p)) (free Q' p) e) (h p l k (and_right (not (touch q p)) (free Q' p) e))

ahead_freer : (n i : ℕ) (Q Q' P : List Merge) → Freer n Q Q' → Rising P → Under n P → Ahead i Q P → Ahead i Q' P
unfolding Freer Ahead Rising Under
ahead_freer n i Q Q' [] h g u A = tt
ahead_freer n i Q Q' (p ∷ P) h g u A =
    let a = g.0 in
    let b = u.0 in
    (λ e. A.0 (h p (omega arith) b e), ahead_freer n i (p ∷ Q) (p ∷ Q') P (freer_cons n p Q Q' h) g.1 u.1 A.1)

-- so nothing else changes in the greedy order where that merge is taken out again
behind_ahead : (n i : ℕ) (m : Merge) (Q P : List Merge) → Rising P → Under n P → Ahead i ((m.0, n) ∷ m ∷ Q) P → Ahead i (m ∷ Q) P
unfolding Freer
behind_ahead n i m Q P g u A = ahead_freer n i ((m.0, n) ∷ m ∷ Q) (m ∷ Q) P (λ p. behind_free n m p Q) g u A

ahead_unput : (n d i : ℕ) (Q P : List Merge) → Rising P → Under n P → d < length P → Ahead i Q (put n d P) → Ahead i Q P
unfolding Ahead put Rising Under
ahead_unput n d i Q [] g u h A = absurd (omega arith)
ahead_unput n zero i Q (m ∷ P) g u h A = (A.0, behind_ahead n i m Q P g.1 u.1 A.1.1)
ahead_unput n (suc d) i Q (m ∷ P) g u h A = (A.0, ahead_unput n d i (m ∷ Q) P g.1 u.1 (omega arith) A.1)

pub greedy_unput : (n d : ℕ) (P : List Merge) → Rising P → Under n P → d < length P → Greedy (put n d P) → Greedy P
unfolding Greedy Ahead put Rising Under
greedy_unput n d [] g u h G = absurd (omega arith)
greedy_unput n zero (m ∷ P) g u h G = (behind_ahead n m.1 m [] P g.1 u.1 G.0.1, G.1.1)
greedy_unput n (suc d) (m ∷ P) g u h G = (ahead_unput n d m.1 (m ∷ []) P g.1 u.1 (omega arith) G.0, greedy_unput n d P g.1 u.1 (omega arith) G.1)

pub place_below : (n : ℕ) (P : List Merge) → times n P ≡ 1 → place n P < length P
unfolding place
place_below n [] z = absurd (unfold times in omega arith)
place_below n (m ∷ P) z = go (eqb n m.1) refl (place_below n P)
  where
    go : (b : Bool) → eqb n m.1 ≡ b → (times n P ≡ 1 → place n P < length P) → cond b 0 (suc (place n P)) < suc (length P)
    go true q ih = omega arith
    go false q ih = omega (arith, ih (once_at n m P z false q))

pub length_without : (n : ℕ) (P : List Merge) → times n P ≡ 1 → suc (length (without n P)) ≡ length P
unfolding without
length_without n [] z = absurd (unfold times in omega arith)
length_without n (m ∷ P) z = go (eqb n m.1) refl (length_without n P)
  where
    go : (b : Bool) → eqb n m.1 ≡ b → (times n P ≡ 1 → suc (length (without n P)) ≡ length P)
        → suc (length (cond b P (m ∷ without n P))) ≡ suc (length P)
    go true q ih = refl
    go false q ih = omega (arith, ih (once_at n m P z false q))
