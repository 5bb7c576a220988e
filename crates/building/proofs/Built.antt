-- The merges of the building rule are those that insertion makes: the last leaf's own merge is seen by none of the others. Main results: built,
-- merges_are_pairs, merges_length.
use Rattle.std.specs.Prelude.{◌≡◌, refl, Bool, true, false, cond, List, [], ◌∷◌, ℕ, zero, suc, ◌+◌, ◌-◌, ◌≤◌, ◌<◌, eqb, ltb, length}
use Rattle.std.proofs.Common.{sym, ap, ap₂, ◌∙◌, arith, ltb-true, ltb-false, lt-ltb, le-ltb, eq-eqb, ne_eqb}
use Rattle.std.proofs.Math.Option.{Option, none, some}
use Rattle.rules.specs.Vector.{entry, Valid}
use Rattle.rules.specs.Building.{Merge, State, start, below, sees, next, merge, follow, steps, merges}
use Rattle.basics.proofs.Bools.{and_false}
use Rattle.merging.specs.Insertion.{Bounded, put, insert, pairs_of, pairs}
use Rattle.merging.proofs.Insertion.{valid_bounded, put_zero, put_suc, pairs_length, pairs_count}
use Rattle.building.proofs.Labels.{used_merge, unused_below}
use Rattle.building.specs.Next.{CanMerge, Agree}
use Rattle.building.proofs.Next.{sees_none, sees_at, next_can_merge, next_dead, next_blind, next_takes, next_cong, merge_cong}
use Rattle.building.specs.Built.{Room}

pub steps_some : (v : ℕ → ℕ) (n k : ℕ) (s : State) (m : Merge) → next v s n ≡ some m → steps v n (suc k) s ≡ m ∷ steps v n k (merge s m)
unfolding steps
steps_some v n k s m e = rw e

pub steps_none : (v : ℕ → ℕ) (n k : ℕ) (s : State) → next v s n ≡ none → steps v n (suc k) s ≡ []
unfolding steps
steps_none v n k s e = rw e

follow_cong : (o p : Option Merge) (f g : Merge → List Merge) → o ≡ p → ((m : Merge) → f m ≡ g m) → follow o f ≡ follow p g
follow_cong o p f g e h = ap₂ follow e (λ j m. h m j)

-- the steps of the leaves below n are the same where the states agree on them
agree_steps : (v : ℕ → ℕ) (n k : ℕ) (s t : State) → Agree n s t → steps v n k s ≡ steps v n k t
unfolding steps
agree_steps v n zero s t A = refl
agree_steps v n (suc k) s t A =
    follow_cong _ _ _ _ (next_cong v n s t A) (λ m. agree_steps v n k (merge s m) (merge t m) (merge_cong n s t A m))

-- a leaf that names no cluster any more plays no part
dead_steps : (v : ℕ → ℕ) (n k : ℕ) (s : State) → s.names n ≡ false → steps v (suc n) k s ≡ steps v n k s
unfolding steps merge
dead_steps v n zero s d = refl
dead_steps v n (suc k) s d = follow_cong _ _ _ _ (next_dead v s n d) (λ m. dead_steps v n k (merge s m) (rw (d, and_false)))

-- the merge of leaf n is seen by none of the leaves below it
own_agree : (n : ℕ) (s : State) (a : ℕ) → Agree n s (merge s (a, n))
unfolding merge
own_agree n s a = record {
  names_same = λ c h. rw (ne_eqb c n (omega arith));
  label_same = λ j c h. rw (le-ltb n j (omega arith));
  used_same = λ j h. rw (le-ltb n j (omega arith));
}

own_dead : (n : ℕ) (s : State) (a : ℕ) → (merge s (a, n)).names n ≡ false
unfolding merge
own_dead n s a = rw (eq-eqb n n refl)

-- once leaf n has merged, the steps are those of the leaves below it
own_steps : (v : ℕ → ℕ) (n k : ℕ) (s : State) (a : ℕ) → steps v (suc n) k (merge s (a, n)) ≡ steps v n k s
own_steps v n k s a = dead_steps v n k (merge s (a, n)) (own_dead n s a) ∙ sym (agree_steps v n k s (merge s (a, n)) (own_agree n s a))

room_merge : (n t : ℕ) (s : State) → Room n t s → (m : Merge) → m.1 < n → Room n (suc t) (merge s m)
unfolding merge
room_merge n t s R m h = record {
  has_used = used_merge s m n (n + t) R.has_used ∙ rw (lt-ltb m.1 n h) (ap below (let e : suc (n + t) ≡ n + suc t = omega arith in e));
  labels = λ c hc. rw (lt-ltb m.1 n h, R.has_used, unused_below (n + t)) (go c hc (eqb c m.0));
  own = rw (R.own, ne_eqb n m.1 (omega arith));
}
  where
    go : (c : ℕ) → c < n → (b : Bool) → cond b (n + t) (s.label n c) < n + suc t
    go c hc true = omega arith
    go c hc false = omega (arith, R.labels c hc)

-- leaf n gives no cluster its entry as a label yet: the step is that of the others
blind : (v : ℕ → ℕ) (n t : ℕ) (s : State) → Room n t s → n + t ≤ v n → next v s (suc n) ≡ next v s n
blind v n t s R h = next_blind v s n (sees_none s n (v n) (λ c hc. omega (arith, R.labels c hc)))

-- the cluster just merged is the one that leaf n labels n + t
gets : (v : ℕ → ℕ) (n t : ℕ) (s : State) → Room n t s → v n ≡ n + (t + 0) → (m : Merge) → CanMerge v s n m → sees (merge s m) n (v n) ≡ some m.0
unfolding merge
gets v n t s R e m F =
    let l : m.1 < n = F.leaf_below in
    let k : m.0 < m.1 = F.seen in
    sees_at (merge s m) n (v n) m.0 (omega arith) (rw (ne_eqb m.0 m.1 (omega arith)) F.smaller_names)
    (rw (lt-ltb m.1 n l, eq-eqb m.0 m.0 refl, R.has_used, unused_below (n + t)) (omega arith))
    (λ c hc ne. rw (lt-ltb m.1 n l, ne_eqb c m.0 ne) (omega (arith, R.labels c hc)))

now : (v : ℕ → ℕ) (n t k : ℕ) (s : State) → Room n t s → v n ≡ n + (t + 0) → length (steps v n (suc k) s) ≡ suc k
    → (o : Option Merge) → next v s n ≡ o → steps v (suc n) (suc (suc k)) s ≡ put n 0 (steps v n (suc k) s)
now v n t k s R e l none q = absurd (omega (arith, ap length (steps_none v n k s q)))
now v n t k s R e l (some m) q =
    let F = next_can_merge v s n m q in
    let s₁ = merge s m in
    let b : next v s (suc n) ≡ some m = blind v n t s R (omega arith) ∙ q in
    let g : next v s₁ (suc n) ≡ some (m.0, n) = next_takes v s₁ n m.0 (room_merge n t s R m F.leaf_below).own (gets v n t s R e m F) in
    rw (
      steps_some v (suc n) (suc k) s m b,
      steps_some v (suc n) k s₁ (m.0, n) g,
      own_steps v n k s₁ m.0,
      steps_some v n k s m q,
    ) (sym (put_zero n m (steps v n k s₁)))

later : (v : ℕ → ℕ) (n d t k : ℕ) (s : State) → Room n t s → v n ≡ n + (t + suc d) → length (steps v n (suc k) s) ≡ suc k
    → (o : Option Merge) → next v s n ≡ o
    → ((s' : State) → Room n (suc t) s' → length (steps v n k s') ≡ k → steps v (suc n) (suc k) s' ≡ put n d (steps v n k s'))
    → steps v (suc n) (suc (suc k)) s ≡ put n (suc d) (steps v n (suc k) s)
later v n d t k s R e l none q ih = absurd (omega (arith, ap length (steps_none v n k s q)))
later v n d t k s R e l (some m) q ih =
    let F = next_can_merge v s n m q in
    let s₁ = merge s m in
    let b : next v s (suc n) ≡ some m = blind v n t s R (omega arith) ∙ q in
    let w : steps v n (suc k) s ≡ m ∷ steps v n k s₁ = steps_some v n k s m q in
    rw (steps_some v (suc n) (suc k) s m b, w)
    (ap (λ (P : List Merge). m ∷ P) (ih s₁ (room_merge n t s R m F.leaf_below) (omega (arith, ap length w))) ∙ sym (put_suc n d m (steps v n k s₁)))

-- leaf n with the entry n + d merges right behind the step number d of the others
late : (v : ℕ → ℕ) (n d t k : ℕ) (s : State) → Room n t s → v n ≡ n + (t + d) → d < k → length (steps v n k s) ≡ k
    → steps v (suc n) (suc k) s ≡ put n d (steps v n k s)
late v n d t zero s R e h l = absurd (omega arith)
late v n zero t (suc k) s R e h l = now v n t k s R e l (next v s n) refl
late v n (suc d) t (suc k) s R e h l =
    later v n d t k s R e l (next v s n) refl (λ s' R' l'. late v n d (suc t) k s' R' (omega arith) (omega arith) l')

start_room : (n : ℕ) → Room n 0 (start (suc n))
unfolding start
start_room n = record { has_used = ap below (let e : n ≡ n + 0 = omega arith in e); labels = λ c h. omega arith; own = lt-ltb n (suc n) (omega arith) }

start_sees : (n x : ℕ) → x < n → sees (start (suc n)) n x ≡ some x
unfolding start
start_sees n x h = sees_at (start (suc n)) n x x h (lt-ltb x (suc n) (omega arith)) refl (λ c hc ne. ne)

-- that leaf n is there at the start is seen by none of the leaves below it
start_steps : (v : ℕ → ℕ) (n k : ℕ) → steps v n k (start (suc n)) ≡ steps v n k (start n)
unfolding start
start_steps v n k = agree_steps v n k (start (suc n)) (start n) (record {
  names_same = λ c h. rw (lt-ltb c n h, lt-ltb c (suc n) (omega arith));
  label_same = λ j c h. refl;
  used_same = λ j h. refl;
})

-- leaf n with an entry below n merges at once
early : (v : ℕ → ℕ) (n k : ℕ) → v n < n → steps v (suc n) (suc k) (start (suc n)) ≡ (v n, n) ∷ steps v n k (start n)
early v n k h =
    steps_some v (suc n) k (start (suc n)) (v n, n) (next_takes v (start (suc n)) n (v n) (start_room n).own (start_sees n (v n) h))
    ∙ ap (λ (P : List Merge). (v n, n) ∷ P) (own_steps v n k (start (suc n)) (v n) ∙ start_steps v n k)

built_suc : (v : ℕ → ℕ) (m : ℕ) → Bounded v (suc m) → steps v (suc m) m (start (suc m)) ≡ pairs_of v (suc m)
unfolding steps pairs_of Bounded insert
built_suc v zero ok = refl
built_suc v (suc m) ok = go (ltb (v (suc m)) (suc m)) refl (built_suc v m (λ i h. ok i (omega arith)))
  where
    go : (b : Bool) → ltb (v (suc m)) (suc m) ≡ b → steps v (suc m) m (start (suc m)) ≡ pairs_of v (suc m)
        → steps v (suc (suc m)) (suc m) (start (suc (suc m)))
        ≡ cond b ((v (suc m), suc m) ∷ pairs_of v (suc m)) (put (suc m) (v (suc m) - suc m) (pairs_of v (suc m)))
    go true q ih = rw (early v (suc m) m (ltb-true (v (suc m)) (suc m) q), ih)
    go false q ih =
        let l : suc m ≤ v (suc m) = ltb-false (v (suc m)) (suc m) q in
        let ih' : steps v (suc m) m (start (suc (suc m))) ≡ pairs_of v (suc m) = start_steps v (suc m) m ∙ ih in
        rw (
          late v (suc m) (v (suc m) - suc m) 0 m (start (suc (suc m))) (start_room (suc m)) (omega arith)
              (omega (arith, ok (suc m) (omega arith))) (ap length ih' ∙ pairs_length v m),
          ih',
        )

-- the steps of the rule are what insertion makes
pub built : (v : ℕ → ℕ) (n : ℕ) → Bounded v n → steps v n (n - 1) (start n) ≡ pairs_of v n
unfolding steps pairs_of
built v zero ok = refl
built v (suc m) ok = rw (let e : suc m - 1 ≡ m = omega arith in e) (built_suc v m ok)

pub merges_are_pairs : (v : List ℕ) → Valid v → merges v ≡ pairs v
unfolding merges pairs
merges_are_pairs v ok = built (entry v) (length v) (valid_bounded v ok)

pub merges_length : (v : List ℕ) → Valid v → length (merges v) ≡ length v - 1
unfolding pairs
merges_length v ok = ap length (merges_are_pairs v ok) ∙ pairs_count (entry v) (length v)
