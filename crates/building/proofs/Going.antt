-- The building rule always goes on: while two clusters are left some leaf can merge, and after n-1 steps one is left, named 0. Main results: goes_on,
-- one_left, reached_after, two_left_go_on, stops.
use Rattle.std.specs.Prelude.{◌≡◌, refl, Bool, true, not, cond, List, [], ◌∷◌, ℕ, zero, suc, ◌+◌, ◌-◌, ◌≤◌, ◌<◌, eqb, ltb, length, take, get_or}
use Rattle.std.proofs.Common.{ap, ◌∙◌, arith, ltb-true, eqb-true, lt-ltb}
use Rattle.std.proofs.Math.Bool.{false}
use Rattle.std.proofs.Math.Option.{Option, none, some}
use Rattle.std.proofs.lemmas.Bool.{eqb-false}
use Rattle.rules.specs.Vector.{entry, Valid}
use Rattle.rules.specs.Building.{Merge, State, start, next, merge, steps, merges}
use Rattle.basics.proofs.Bools.{and_false}
use Rattle.merging.specs.Insertion.{pairs_of, pairs}
use Rattle.merging.specs.Once.{hit, times}
use Rattle.merging.proofs.Once.{once, times_insert, hit_other}
use Rattle.building.specs.Labels.{Reached, starts, goes}
use Rattle.building.proofs.Built.{steps_some, steps_none, merges_are_pairs, merges_length}
use Rattle.building.specs.Going.{after}

-- where k steps make k merges, each step finds its merge
steps_go : (v : ℕ → ℕ) (n k : ℕ) (s : State) → length (steps v n k s) ≡ k → (t : ℕ) → t < k
    → next v (after (take t (steps v n k s)) s) n ≡ some (get_or (steps v n k s) t (0, 0))
unfolding after
steps_go v n zero s l t h = absurd (omega arith)
steps_go v n (suc k) s l t h = go (next v s n) refl (λ m. steps_go v n k (merge s m))
  where
    go : (o : Option Merge) → next v s n ≡ o
        → ((m : Merge) → length (steps v n k (merge s m)) ≡ k → (t : ℕ) → t < k
        → next v (after (take t (steps v n k (merge s m))) (merge s m)) n ≡ some (get_or (steps v n k (merge s m)) t (0, 0)))
        → next v (after (take t (steps v n (suc k) s)) s) n ≡ some (get_or (steps v n (suc k) s) t (0, 0))
    go none q ih = absurd (omega (arith, ap length (steps_none v n k s q)))
    go (some m) q ih = rw (steps_some v n k s m q) (at t h)
      where
        tail : length (steps v n k (merge s m)) ≡ k
        tail = omega (arith, ap length (steps_some v n k s m q))

        at : (t : ℕ) → t < suc k
            → next v (after (take t (m ∷ steps v n k (merge s m))) s) n ≡ some (get_or (m ∷ steps v n k (merge s m)) t (0, 0))
        at zero h' = q
        at (suc t') h' = ih m tail t' (omega arith)

-- the rule finds a merge in each of its n-1 steps
pub goes_on : (v : List ℕ) → Valid v → (k : ℕ) → suc k < length v
    → next (entry v) (after (take k (merges v)) (start (length v))) (length v) ≡ some (get_or (merges v) k (0, 0))
unfolding merges
goes_on v ok k h = steps_go (entry v) (length v) (length v - 1) (start (length v)) (merges_length v ok) k (omega arith)

-- a cluster keeps its name where no merge takes it away, and loses it for good where one does
kept : (P : List Merge) (s : State) (c : ℕ) → times c P ≡ 0 → (after P s).names c ≡ s.names c
unfolding after times hit
kept [] s c z = refl
kept (m ∷ P) s c z = go (eqb c m.1) refl z (kept P (merge s m) c)
  where
    go : (b : Bool) → eqb c m.1 ≡ b → cond b 1 0 + times c P ≡ 0 → (times c P ≡ 0 → (after P (merge s m)).names c ≡ (merge s m).names c)
        → (after P (merge s m)).names c ≡ s.names c
    go true q z' ih = absurd (omega arith)
    go false q z' ih = ih (omega arith) ∙ unfold merge in rw q

stays_gone : (P : List Merge) (s : State) (c : ℕ) → s.names c ≡ false → (after P s).names c ≡ false
unfolding after merge
stays_gone [] s c e = e
stays_gone (m ∷ P) s c e = stays_gone P (merge s m) c (rw e (and_false (not (eqb c m.1))))

gone : (P : List Merge) (s : State) (c : ℕ) → times c P ≡ 1 → (after P s).names c ≡ false
unfolding after times hit
gone [] s c z = absurd (omega arith)
gone (m ∷ P) s c z = go (eqb c m.1) refl z (gone P (merge s m) c)
  where
    go : (b : Bool) → eqb c m.1 ≡ b → cond b 1 0 + times c P ≡ 1 → (times c P ≡ 1 → (after P (merge s m)).names c ≡ false)
        → (after P (merge s m)).names c ≡ false
    go true q z' ih = stays_gone P (merge s m) c (unfold merge in rw q)
    go false q z' ih = ih (omega arith)

zero_stays : (v : ℕ → ℕ) (n : ℕ) → times 0 (pairs_of v n) ≡ 0
unfolding pairs_of times
zero_stays v zero = refl
zero_stays v (suc zero) = refl
zero_stays v (suc (suc m)) = omega (arith, times_insert 0 (suc m) (v (suc m)) (pairs_of v (suc m)), hit_other 0 (suc m) (omega arith), zero_stays v (suc m))

-- "After n-1 steps one cluster is left", named 0
pub one_left : (v : List ℕ) → Valid v → (c : ℕ) → (after (merges v) (start (length v))).names c ≡ eqb c 0
unfolding start pairs
one_left v ok c = rw (merges_are_pairs v ok) (go (eqb c 0) refl)
  where
    P : List Merge
    P = pairs_of (entry v) (length v)

    merged : (b : Bool) → ltb c (length v) ≡ b → 1 ≤ c → (after P (start (length v))).names c ≡ false
    merged true q h = gone P (start (length v)) c (once (entry v) (length v) c h (ltb-true c (length v) q))
    merged false q h = stays_gone P (start (length v)) c q

    go : (b : Bool) → eqb c 0 ≡ b → (after P (start (length v))).names c ≡ b
    go true q = rw (eqb-true c 0 q) (kept P (start (length v)) 0 (zero_stays (entry v) (length v)) ∙ lt-ltb 0 (length v) ok.some_leaf)
    go false q = merged (ltb c (length v)) refl (omega (arith, eqb-false c 0 q))

pub after_next : (P : List Merge) (s : State) (k : ℕ) → k < length P → after (take (suc k) P) s ≡ merge (after (take k P) s) (get_or P k (0, 0))
unfolding after
after_next [] s k h = absurd (omega arith)
after_next (m ∷ P) s zero h = refl
after_next (m ∷ P) s (suc k) h = after_next P (merge s m) k (omega arith)

-- the states that the rule reaches are those after its first k merges, k from 0 to n-1
pub after_reached : (v : List ℕ) → Valid v → (k : ℕ) → k < length v → Reached (entry v) (length v) (after (take k (merges v)) (start (length v)))
unfolding after
after_reached v ok zero h = starts
after_reached v ok (suc k) h =
    rw (after_next (merges v) (start (length v)) k (omega (arith, merges_length v ok))) (goes (after_reached v ok k (omega arith)) (goes_on v ok k h))
