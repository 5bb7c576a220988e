-- When one cluster is left: no step before the last ends the building.
-- Main results: reached_after, two_left_go_on, stops.
use Rattle.std.specs.Prelude.{◌≡◌, refl, Bool, true, List, ℕ, suc, ◌≤◌, ◌<◌, eqb, ltb, length, take, get_or}
use Rattle.std.proofs.Common.{sym, ap₂, ◌∙◌, arith, take_all, ltb-true, ltb-false, eqb-true}
use Rattle.std.proofs.Math.Bool.{false}
use Rattle.std.proofs.Math.Option.{Option, none, some, some-injective}
use Rattle.rules.specs.Vector.{entry, Valid}
use Rattle.rules.specs.Building.{Merge, State, start, next, merge, merges}
use Rattle.building.specs.Labels.{Reached, starts, goes}
use Rattle.building.proofs.Next.{next_can_merge}
use Rattle.building.proofs.Built.{merges_length}
use Rattle.building.specs.Going.{after}
use Rattle.building.proofs.Going.{goes_on, one_left, after_next}

-- no cluster but 0 is left where all merges are made
alone : (v : List ℕ) → Valid v → (k : ℕ) → length v ≤ suc k → (c : ℕ) → 0 < c → (after (take k (merges v)) (start (length v))).names c ≡ true → ⊥
alone v ok k l c h e =
    let p : take k (merges v) ≡ merges v = take_all k (merges v) (omega (arith, merges_length v ok)) in
    let z : eqb c 0 ≡ true = sym (one_left v ok c) ∙ rw p at e in
    omega (arith, eqb-true c 0 z)

pub reached_after : (v : List ℕ) → Valid v → {s : State} → Reached (entry v) (length v) s
    → (k : ℕ) × (k < length v) × (s ≡ after (take k (merges v)) (start (length v)))
unfolding after
reached_after v ok starts = (0, ok.some_leaf, refl)
reached_after v ok (goes {s} {m} r e) = go (reached_after v ok r)
  where
    go : (k : ℕ) × (k < length v) × (s ≡ after (take k (merges v)) (start (length v))) → (k : ℕ) × (k < length v) × (merge s m ≡ after (take k (merges v)) (start (length v)))
    go w = more (ltb (suc w.0) (length v)) refl
      where
        more : (b : Bool) → ltb (suc w.0) (length v) ≡ b → (k : ℕ) × (k < length v) × (merge s m ≡ after (take k (merges v)) (start (length v)))
        more true q =
            let l : suc w.0 < length v = ltb-true (suc w.0) (length v) q in
            let p : some m ≡ some (get_or (merges v) w.0 (0, 0)) = sym e ∙ rw w.2 (goes_on v ok w.0 l) in
            (suc w.0, l, ap₂ merge w.2 (some-injective m (get_or (merges v) w.0 (0, 0)) p) ∙ sym (after_next (merges v) (start (length v)) w.0 (omega (arith, merges_length v ok))))
        more false q =
            let R = next_can_merge (entry v) s (length v) m e in
            absurd (alone v ok w.0 (ltb-false (suc w.0) (length v) q) m.1 (omega (arith, R.seen)) (rw w.2 at R.larger_names))

-- while two clusters are left some leaf can merge
pub two_left_go_on : (v : List ℕ) → Valid v → {s : State} → Reached (entry v) (length v) s → (b c : ℕ) → b < c
    → s.names b ≡ true → s.names c ≡ true
    → (m : Merge) × (next (entry v) s (length v) ≡ some m)
two_left_go_on v ok {s} r b c lb nb nc = go (reached_after v ok r)
  where
    go : (k : ℕ) × (k < length v) × (s ≡ after (take k (merges v)) (start (length v))) → (m : Merge) × (next (entry v) s (length v) ≡ some m)
    go w = more (ltb (suc w.0) (length v)) refl
      where
        more : (b : Bool) → ltb (suc w.0) (length v) ≡ b → (m : Merge) × (next (entry v) s (length v) ≡ some m)
        more true q = (get_or (merges v) w.0 (0, 0), rw w.2 (goes_on v ok w.0 (ltb-true (suc w.0) (length v) q)))
        more false q = absurd (alone v ok w.0 (ltb-false (suc w.0) (length v) q) c (omega arith) (rw w.2 at nc))

-- after n-1 steps no leaf can merge
pub stops : (v : List ℕ) → Valid v → next (entry v) (after (merges v) (start (length v))) (length v) ≡ none
stops v ok = go (next (entry v) (after (merges v) (start (length v))) (length v)) refl
  where
    go : (o : Option Merge) → next (entry v) (after (merges v) (start (length v))) (length v) ≡ o → o ≡ none
    go none q = refl
    go (some m) q =
        let R = next_can_merge (entry v) (after (merges v) (start (length v))) (length v) m q in
        let z : eqb m.1 0 ≡ true = sym (one_left v ok m.1) ∙ R.larger_names in
        absurd (omega (arith, eqb-true m.1 0 z, R.seen))
