-- One step of the building rule: what a leaf sees, and that the next merge is the one that 01 says. Main results: next_can_merge, next_largest,
-- next_none, next_cong.
use Rattle.std.specs.Prelude.{◌≡◌, refl, ◌≢◌, Bool, true, false, ◌&&◌, cond, ℕ, suc, ◌≤◌, ◌<◌, eqb, ltb}
use Rattle.std.proofs.Common.{sym, subst, arith, ltb-true, ltb-false, eqb-true, eq-eqb, ne_eqb}
use Rattle.std.proofs.Math.Option.{none, some, map, map-eq-none_iff, map-eq-some_iff, none-ne-some, some-injective}
use Rattle.rules.specs.Building.{Merge, State, sees, merge_of, next, merge}
use Rattle.basics.proofs.Bools.{and_left, and_right, and_false}
use Rattle.building.proofs.LastBelow.{Last, last_top, last_skip, last_some, last_none, is_last, none_last, last_cong}
use Rattle.building.specs.Next.{CanMerge, Agree}

-- a leaf sees no cluster labelled x where it gives none that label
pub sees_none : (s : State) (i x : ℕ) → ((c : ℕ) → c < i → s.label i c ≢ x) → sees s i x ≡ none
unfolding sees
sees_none s i x h = none_last _ i (λ c l. rw (ne_eqb (s.label i c) x (h c l), and_false (s.names c)))

pub sees_at : (s : State) (i x a : ℕ) → a < i → s.names a ≡ true → s.label i a ≡ x → ((c : ℕ) → c < i → c ≢ a → s.label i c ≢ x)
    → sees s i x ≡ some a
unfolding sees
sees_at s i x a l al la h = is_last _ i a a (record {
  within = l;
  found = rw (al, eq-eqb (s.label i a) x la);
  none_behind = λ c k m. rw (ne_eqb (s.label i c) x (h c m (omega arith)), and_false (s.names c));
})

-- what a leaf sees labelled x is a cluster named below it that it labels so
sees_facts : (s : State) (i x a : ℕ) → sees s i x ≡ some a → (a < i) × (s.names a ≡ true) × (s.label i a ≡ x)
unfolding sees
sees_facts s i x a e = let w = last_some _ i a e in go w.0 w.1 (s.names w.0 && eqb (s.label i w.0) x) refl w.1.found
  where
    go : (c : ℕ) → Last (λ c. cond (s.names c && eqb (s.label i c) x) (some c) none) i c a
        → (b : Bool) → (s.names c && eqb (s.label i c) x) ≡ b → cond b (some c) none ≡ some a → (a < i) × (s.names a ≡ true) × (s.label i a ≡ x)
    go c L false q f = absurd (none-ne-some a f)
    go c L true q f =
        let p : c ≡ a = some-injective c a f in (
          omega (arith, L.within),
          rw (← p) (and_left (s.names c) (eqb (s.label i c) x) q),
          rw (← p) (eqb-true (s.label i c) x (and_right (s.names c) (eqb (s.label i c) x) q)),
        )

-- a leaf that sees nothing labelled x gives no cluster that label
sees_nothing : (s : State) (i x : ℕ) → sees s i x ≡ none → (c : ℕ) → c < i → s.names c ≡ true → s.label i c ≡ x → ⊥
unfolding sees
sees_nothing s i x e c h al la = none-ne-some c (sym (rw (al, eq-eqb (s.label i c) x la) at (last_none _ i e c h)))

-- a leaf's merge is one that it can make
own_can_merge : (v : ℕ → ℕ) (s : State) (n i : ℕ) (m : Merge) → i < n → merge_of v s i ≡ some m → (m.1 ≡ i) × CanMerge v s n m
unfolding merge_of
own_can_merge v s n i m l e = go (s.names i) refl e
  where
    go : (b : Bool) → s.names i ≡ b → cond b (map {B = Merge} (λ a. (a, i)) (sees s i (v i))) none ≡ some m → (m.1 ≡ i) × CanMerge v s n m
    go false q e' = absurd (none-ne-some m e')
    go true q e' =
        let w = (map-eq-some_iff {B = Merge} (λ a. (a, i)) (sees s i (v i))).0 e' in
        let g = sees_facts s i (v i) w.0 w.1 in
        subst (λ (p : Merge). (p.1 ≡ i) × CanMerge v s n p) w.2
        (refl, record { leaf_below = l; seen = g.0; smaller_names = g.1; larger_names = q; labelled = g.2 })

-- a leaf that can merge has a merge
can_merge_own : (v : ℕ → ℕ) (s : State) (n : ℕ) (m : Merge) → CanMerge v s n m → merge_of v s m.1 ≡ none → ⊥
unfolding merge_of
can_merge_own v s n m R e =
    sees_nothing s m.1 (v m.1) ((map-eq-none_iff {B = Merge} (λ a. (a, m.1)) (sees s m.1 (v m.1))).0 (rw R.larger_names at e))
    m.0 R.seen R.smaller_names R.labelled

-- the next merge is of a leaf that "still names a cluster and sees one labelled v(i)", with that one
pub next_can_merge : (v : ℕ → ℕ) (s : State) (n : ℕ) (m : Merge) → next v s n ≡ some m → CanMerge v s n m
unfolding next
next_can_merge v s n m e = let w = last_some (merge_of v s) n m e in (own_can_merge v s n w.0 m w.1.within w.1.found).1

-- "the largest i"
pub next_largest : (v : ℕ → ℕ) (s : State) (n : ℕ) (m : Merge) → next v s n ≡ some m → (p : Merge) → CanMerge v s n p → p.1 ≤ m.1
unfolding next
next_largest v s n m e p R =
    let w = last_some (merge_of v s) n m e in
    let i : m.1 ≡ w.0 = (own_can_merge v s n w.0 m w.1.within w.1.found).0 in
    go w.0 i w.1 (ltb m.1 p.1) refl
  where
    go : (j : ℕ) → m.1 ≡ j → Last (merge_of v s) n j m → (b : Bool) → ltb m.1 p.1 ≡ b → p.1 ≤ m.1
    go j i L true q = absurd (can_merge_own v s n p R (L.none_behind p.1 (omega (arith, ltb-true m.1 p.1 q)) R.leaf_below))
    go j i L false q = ltb-false m.1 p.1 q

-- there is a next merge where some leaf can merge
pub next_none : (v : ℕ → ℕ) (s : State) (n : ℕ) → next v s n ≡ none → (p : Merge) → CanMerge v s n p → ⊥
unfolding next
next_none v s n e p R = can_merge_own v s n p R (last_none (merge_of v s) n e p.1 R.leaf_below)

-- leaf n passed over, where it names no cluster or sees none labelled v(n); and leaf n taken
pub next_dead : (v : ℕ → ℕ) (s : State) (n : ℕ) → s.names n ≡ false → next v s (suc n) ≡ next v s n
unfolding next merge_of
next_dead v s n e = last_skip (merge_of v s) n (rw e)

pub next_blind : (v : ℕ → ℕ) (s : State) (n : ℕ) → sees s n (v n) ≡ none → next v s (suc n) ≡ next v s n
unfolding next merge_of
next_blind v s n h = last_skip (merge_of v s) n (go (s.names n))
  where
    go : (b : Bool) → cond b (map {B = Merge} (λ a. (a, n)) (sees s n (v n))) none ≡ none
    go true = rw h
    go false = refl

pub next_takes : (v : ℕ → ℕ) (s : State) (n a : ℕ) → s.names n ≡ true → sees s n (v n) ≡ some a → next v s (suc n) ≡ some (a, n)
unfolding next merge_of
next_takes v s n a e h = last_top (merge_of v s) n (a, n) (rw (e, h))

sees_cong : (n : ℕ) (s t : State) → Agree n s t → (i x : ℕ) → i < n → sees s i x ≡ sees t i x
unfolding sees
sees_cong n s t A i x h = last_cong _ _ i (λ c l. rw (A.names_same c (omega arith), A.label_same i c h))

pub next_cong : (v : ℕ → ℕ) (n : ℕ) (s t : State) → Agree n s t → next v s n ≡ next v t n
unfolding next merge_of
next_cong v n s t A = last_cong (merge_of v s) (merge_of v t) n (λ i h. rw (A.names_same i h, sees_cong n s t A i (v i) h))

pub merge_cong : (n : ℕ) (s t : State) → Agree n s t → (m : Merge) → Agree n (merge s m) (merge t m)
unfolding merge
merge_cong n s t A m = record {
  names_same = λ c h. rw (A.names_same c h);
  label_same = λ j c h. rw (A.label_same j c h, A.used_same j h);
  used_same = λ j h. rw (A.used_same j h);
}
