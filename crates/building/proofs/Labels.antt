-- What a leaf calls the clusters it sees: the next label is the smallest it has not used, and no two clusters have the same. Main results:
-- smallest_is_unused, smaller_are_used, unused_below, used_below, labels_apart.
use Rattle.std.specs.Prelude.{◌≡◌, refl, Bool, true, false, ◌&&◌, ◌||◌, cond, List, [], ◌∷◌, ℕ, zero, suc, ◌+◌, ◌≤◌, ◌<◌, eqb, ltb, length}
use Rattle.std.proofs.Common.{sym, ap, ◌∙◌, true≢false, arith, ltb-true, ltb-false, eqb-true, lt-ltb, le-ltb, eq-eqb}
use Rattle.std.proofs.lemmas.Bool.{eqb-false}
use Rattle.rules.specs.Building.{Merge, State, start, below, member, smallest_from, smallest_unused, merge}
use Rattle.basics.proofs.Bools.{or_right}
use Rattle.building.specs.Labels.{at_least, Reached, starts, goes, Apart}

at_least_length : (ys : List ℕ) → at_least 0 ys ≤ length ys
unfolding at_least
at_least_length [] = omega arith
at_least_length (y ∷ ys) = rw (le-ltb y 0 (omega arith)) (omega (arith, at_least_length ys))

at_least_falls : (x : ℕ) (ys : List ℕ) → at_least (x + 1) ys ≤ at_least x ys
unfolding at_least
at_least_falls x [] = omega arith
at_least_falls x (y ∷ ys) = go (ltb y x) refl (at_least_falls x ys)
  where
    go : (b : Bool) → ltb y x ≡ b → at_least (x + 1) ys ≤ at_least x ys → cond (ltb y (x + 1)) 0 1 + at_least (x + 1) ys ≤ cond b 0 1 + at_least x ys
    go true q h = rw (lt-ltb y (x + 1) (omega (arith, ltb-true y x q))) (omega arith)
    go false q h = low (ltb y (x + 1))
      where
        low : (c : Bool) → cond c 0 1 + at_least (x + 1) ys ≤ 1 + at_least x ys
        low true = omega arith
        low false = omega arith

-- a number of the list is counted from it on, and not from the next one on
at_least_member : (x : ℕ) (ys : List ℕ) → member x ys ≡ true → at_least (x + 1) ys < at_least x ys
unfolding at_least member
at_least_member x [] e = absurd (true≢false (sym e))
at_least_member x (y ∷ ys) e = go (eqb x y) refl e (at_least_member x ys)
  where
    go : (b : Bool) → eqb x y ≡ b → b || member x ys ≡ true → (member x ys ≡ true → at_least (x + 1) ys < at_least x ys)
        → cond (ltb y (x + 1)) 0 1 + at_least (x + 1) ys < cond (ltb y x) 0 1 + at_least x ys
    go true q e' ih = let p : x ≡ y = eqb-true x y q in rw (lt-ltb y (x + 1) (omega arith), le-ltb y x (omega arith)) (omega (arith, at_least_falls x ys))
    go false q e' ih = low (ltb y x) refl (ih e')
      where
        low : (c : Bool) → ltb y x ≡ c → at_least (x + 1) ys < at_least x ys → cond (ltb y (x + 1)) 0 1 + at_least (x + 1) ys < cond c 0 1 + at_least x ys
        low true r h = rw (lt-ltb y (x + 1) (omega (arith, ltb-true y x r))) (omega arith)
        low false r h = rw (le-ltb y (x + 1) (omega (arith, ltb-false y x r, eqb-false x y q))) (omega arith)

none_at_least : (x : ℕ) (ys : List ℕ) → at_least x ys ≡ 0 → member x ys ≡ false
none_at_least x ys e = go (member x ys) refl
  where
    go : (b : Bool) → member x ys ≡ b → b ≡ false
    go true q = absurd (omega (arith, at_least_member x ys q))
    go false q = refl

-- k steps do when at most k numbers of the list are left
smallest_not_member : (k x : ℕ) (ys : List ℕ) → at_least x ys ≤ k → member (smallest_from k x ys) ys ≡ false
unfolding smallest_from
smallest_not_member zero x ys h = none_at_least x ys (omega arith)
smallest_not_member (suc k) x ys h = go (member x ys) refl (smallest_not_member k (x + 1) ys)
  where
    go : (b : Bool) → member x ys ≡ b → (at_least (x + 1) ys ≤ k → member (smallest_from k (x + 1) ys) ys ≡ false)
        → member (cond b (smallest_from k (x + 1) ys) x) ys ≡ false
    go true q ih = ih (omega (arith, at_least_member x ys q))
    go false q ih = q

smallest_members_below : (k x y : ℕ) (ys : List ℕ) → x ≤ y → y < smallest_from k x ys → member y ys ≡ true
unfolding smallest_from
smallest_members_below zero x y ys l h = absurd (omega arith)
smallest_members_below (suc k) x y ys l h = go (member x ys) refl h (smallest_members_below k (x + 1) y ys)
  where
    go : (b : Bool) → member x ys ≡ b → y < cond b (smallest_from k (x + 1) ys) x
        → (x + 1 ≤ y → y < smallest_from k (x + 1) ys → member y ys ≡ true) → member y ys ≡ true
    go true q h' ih = same (eqb x y) refl
      where
        same : (c : Bool) → eqb x y ≡ c → member y ys ≡ true
        same true r = rw (eqb-true x y r) at q
        same false r = ih (omega (arith, eqb-false x y r)) h'
    go false q h' ih = absurd (omega arith)

-- the smallest number that is not in a list is not in it, and all below it are
pub smallest_is_unused : (ys : List ℕ) → member (smallest_unused ys) ys ≡ false
unfolding smallest_unused
smallest_is_unused ys = smallest_not_member (length ys) 0 ys (at_least_length ys)

pub smaller_are_used : (ys : List ℕ) (x : ℕ) → x < smallest_unused ys → member x ys ≡ true
unfolding smallest_unused
smaller_are_used ys x h = smallest_members_below (length ys) 0 x ys (omega arith) h

-- every number below n is in the list, and no other
member_below : (x n : ℕ) → member x (below n) ≡ ltb x n
unfolding member below
member_below x zero = sym (le-ltb x 0 (omega arith))
member_below x (suc n) = rw (member_below x n) (go (eqb x n) refl)
  where
    go : (b : Bool) → eqb x n ≡ b → b || ltb x n ≡ ltb x (suc n)
    go true q = sym (lt-ltb x (suc n) (omega (arith, eqb-true x n q)))
    go false q = low (ltb x n) refl
      where
        low : (c : Bool) → ltb x n ≡ c → c ≡ ltb x (suc n)
        low true r = sym (lt-ltb x (suc n) (omega (arith, ltb-true x n r)))
        low false r = sym (le-ltb x (suc n) (omega (arith, ltb-false x n r, eqb-false x n q)))

length_below : (n : ℕ) → length (below n) ≡ n
unfolding below
length_below zero = refl
length_below (suc n) = ap suc (length_below n)

pub unused_below : (n : ℕ) → smallest_unused (below n) ≡ n
unused_below n = go (sym (member_below (smallest_unused (below n)) n) ∙ smallest_is_unused (below n)) (ltb n (smallest_unused (below n))) refl
  where
    go : ltb (smallest_unused (below n)) n ≡ false → (c : Bool) → ltb n (smallest_unused (below n)) ≡ c → smallest_unused (below n) ≡ n
    go e true q = absurd (true≢false (sym (smaller_are_used (below n) n (ltb-true n (smallest_unused (below n)) q)) ∙ member_below n n ∙ le-ltb n n (omega arith)))
    go e false q = omega (arith, ltb-false n (smallest_unused (below n)) q, ltb-false (smallest_unused (below n)) n e)

-- the labels that a leaf has used are the numbers below some number
pub used_merge : (s : State) (m : Merge) (j k : ℕ) → s.used j ≡ below k → (merge s m).used j ≡ cond (ltb m.1 j) (below (suc k)) (below k)
unfolding merge below
used_merge s m j k e = rw (e, unused_below k)

used_some_below : {v : ℕ → ℕ} {n : ℕ} {s : State} → Reached v n s → (j : ℕ) → (k : ℕ) × (s.used j ≡ below k)
unfolding start
used_some_below starts j = (j, refl)
used_some_below (goes {s} {m} r e) j = go (ltb m.1 j) refl (used_some_below r j)
  where
    go : (b : Bool) → ltb m.1 j ≡ b → (k : ℕ) × (s.used j ≡ below k) → (k : ℕ) × ((merge s m).used j ≡ below k)
    go true q w = (suc w.0, used_merge s m j w.0 w.1 ∙ rw q)
    go false q w = (w.0, used_merge s m j w.0 w.1 ∙ rw q)

pub used_below : {v : ℕ → ℕ} {n : ℕ} {s : State} → Reached v n s → (j : ℕ) → s.used j ≡ below (length (s.used j))
used_below r j = let w = used_some_below r j in w.1 ∙ ap below (sym (ap length w.1 ∙ length_below w.0))

start_apart : (n : ℕ) → Apart (start n)
unfolding start
start_apart n = record {
  known = λ j c h. member_below c j ∙ lt-ltb c j h;
  apart = λ j b c hb hc e. e;
}

merge_apart : (s : State) → Apart s → (m : Merge) → Apart (merge s m)
unfolding merge member
merge_apart s A m = record {
  known = λ j c h. old (ltb m.1 j) (eqb c m.0) j c h;
  apart = λ j b c hb hc e. two (ltb m.1 j) (eqb b m.0) (eqb c m.0) j b c refl refl hb hc e;
}
  where
    old : (p q : Bool) (j c : ℕ) → c < j
        → member (cond (p && q) (smallest_unused (s.used j)) (s.label j c)) (cond p (smallest_unused (s.used j) ∷ s.used j) (s.used j)) ≡ true
    old true true j c h = rw (eq-eqb (smallest_unused (s.used j)) (smallest_unused (s.used j)) refl)
    old true false j c h = or_right (eqb (s.label j c) (smallest_unused (s.used j))) (member (s.label j c) (s.used j)) (A.known j c h)
    old false q j c h = A.known j c h

    fresh : (j c : ℕ) → c < j → smallest_unused (s.used j) ≡ s.label j c → ⊥
    fresh j c h e = true≢false (sym (A.known j c h) ∙ rw (← e) (smallest_is_unused (s.used j)))

    two : (p q r : Bool) (j b c : ℕ) → eqb b m.0 ≡ q → eqb c m.0 ≡ r → b < j → c < j
        → cond (p && q) (smallest_unused (s.used j)) (s.label j b) ≡ cond (p && r) (smallest_unused (s.used j)) (s.label j c) → b ≡ c
    two false q r j b c hq hr hb hc e = A.apart j b c hb hc e
    two true true true j b c hq hr hb hc e = eqb-true b m.0 hq ∙ sym (eqb-true c m.0 hr)
    two true true false j b c hq hr hb hc e = absurd (fresh j c hc e)
    two true false true j b c hq hr hb hc e = absurd (fresh j b hb (sym e))
    two true false false j b c hq hr hb hc e = A.apart j b c hb hc e

reached_apart : {v : ℕ → ℕ} {n : ℕ} {s : State} → Reached v n s → Apart s
reached_apart {v} {n} starts = start_apart n
reached_apart (goes {s} {m} r e) = merge_apart s (reached_apart r) m

-- at most one of the clusters that leaf j sees has a given label
pub labels_apart : {v : ℕ → ℕ} {n : ℕ} {s : State} → Reached v n s → (j b c : ℕ) → b < j → c < j → s.label j b ≡ s.label j c → b ≡ c
labels_apart r = (reached_apart r).apart
