-- Every list of merges in the greedy order, with each larger name once, is that of a vector: the one that fact 2 reads from it. Main results:
-- last_put, greedy_is_pairs, merges_in_order, in_order_is_merges.
use Rattle.std.specs.Prelude.{◌≡◌, refl, ◌≢◌, Bool, true, false, cond, List, [], ◌∷◌, ℕ, zero, suc, ◌+◌, ◌-◌, ◌*◌, ◌≤◌, ◌<◌, eqb, ltb, length}
use Rattle.std.proofs.Common.{sym, ap, ap₂, ◌∙◌, subst, true≢false, arith, ltb-true, ltb-false, eqb-true, lt-ltb, le-ltb, ne_eqb}
use Rattle.std.proofs.lemmas.Bool.{eqb-false}
use Rattle.rules.specs.Vector.{entry, bound, Valid}
use Rattle.rules.specs.Building.{Merge, merges}
use Rattle.rules.specs.Order.{entry_at, listed}
use Rattle.basics.proofs.Bools.{or_no}
use Rattle.basics.proofs.Listed.{length_listed, entry_listed}
use Rattle.merging.specs.Insertion.{put, insert, pairs_of, pairs, Bounded}
use Rattle.merging.proofs.Insertion.{put_zero, put_suc, pairs_length, pairs_cong, valid_bounded}
use Rattle.merging.specs.Once.{times, place, entry_in, without}
use Rattle.merging.proofs.Once.{once}
use Rattle.merging.specs.Greedy.{touch, free, Ahead, Greedy, Under}
use Rattle.merging.proofs.Greedy.{under_pairs, greedy}
use Rattle.merging.specs.Named.{named, Good, Rising}
use Rattle.merging.proofs.Named.{good, rising}
use Rattle.merging.proofs.Without.{once_at, times_without, rising_without, under_without, good_without, greedy_unput, place_below, length_without}
use Rattle.building.proofs.Built.{merges_are_pairs}
use Rattle.building.proofs.Entry.{entry_last, entry_without}
use Rattle.building.specs.InOrder.{LastPut, InOrder}

-- The merge of the last leaf n comes first, or right behind one that it waits for; they have the smaller name in common.
waits_for : (n : ℕ) (m p : Merge) (P : List Merge) → m.0 < m.1 → m.1 < n → p.1 ≡ n → Good (m ∷ p ∷ P) → free (m ∷ []) p ≡ false → m.0 ≡ p.0
unfolding free touch Good named
waits_for n m p P g l e G f = go (eqb m.0 p.0) refl
  where
    go : (b : Bool) → eqb m.0 p.0 ≡ b → m.0 ≡ p.0
    go true q = eqb-true m.0 p.0 q
    go false q = absurd (true≢false (rw (q, ne_eqb m.0 p.1 (omega arith), ne_eqb m.1 p.0 apart, ne_eqb m.1 p.1 (omega arith)) at f))
      where
        apart : m.1 ≡ p.0 → ⊥
        apart k = true≢false (sym G.2.0 ∙ rw (← k) (or_no (named P m.1) (eqb p.1 m.1) G.1).0)

-- leaf n's merge taken out and put in again right behind the merge that it waits for
put_back : (n : ℕ) (m : Merge) (P : List Merge) → Rising (m ∷ P) → Under (suc n) (m ∷ P) → Good (m ∷ P) → Greedy (m ∷ P) → n ≢ m.1 → times n P ≡ 1
    → m ∷ P ≡ put n (place n P) (m ∷ without n P)
unfolding Rising Under Good Greedy Ahead place without
put_back n m [] g u G W ne z = absurd (unfold times in omega arith)
put_back n m (p ∷ P) g u G W ne z = go (eqb n p.1) refl (λ ne'. put_back n p P g.1 u.1 G.2 W.1 ne')
  where
    go : (b : Bool) → eqb n p.1 ≡ b → (n ≢ p.1 → times n P ≡ 1 → p ∷ P ≡ put n (place n P) (p ∷ without n P))
        → m ∷ p ∷ P ≡ put n (cond b 0 (suc (place n P))) (m ∷ cond b P (p ∷ without n P))
    go true q ih =
        let e : n ≡ p.1 = eqb-true n p.1 q in
        let a = g.0 in
        let b = u.0 in
        sym (put_zero n m P ∙ ap (λ (r : Merge). m ∷ r ∷ P) (ap₂ (λ (x y : ℕ). (x, y)) (waits_for n m p P a (omega arith) (sym e) G (waits (free (m ∷ []) p) refl)) e))
      where
        waits : (b : Bool) → free (m ∷ []) p ≡ b → b ≡ false
        waits true f = let a = u.0 in absurd (omega (arith, W.0.0 f, eqb-true n p.1 q))
        waits false f = refl
    go false q ih =
        let ne' = eqb-false n p.1 q in
        ap (λ (Q : List Merge). m ∷ Q) (ih ne' (once_at n p P z false q)) ∙ sym (put_suc n (place n P) m (p ∷ without n P))

pub last_put : (n : ℕ) (P : List Merge) → 1 ≤ n → Rising P → Good P → Greedy P → Under (suc n) P → times n P ≡ 1 → LastPut n P
unfolding without entry_in Rising Under Greedy insert
last_put n [] h g G W u z = absurd (unfold times in omega arith)
last_put n (m ∷ P) h g G W u z = go (eqb n m.1) refl
  where
    x : entry_at (m ∷ P) n ≡ cond (eqb n m.1) m.0 (n + place n P)
    x = entry_last n (m ∷ P) h g u

    go : (b : Bool) → eqb n m.1 ≡ b → LastPut n (m ∷ P)
    go true q =
        let e : n ≡ m.1 = eqb-true n m.1 q in
        let y : entry_at (m ∷ P) n ≡ m.0 = rw q at x in
        let a = g.0 in
        let l : m.0 < n = omega arith in
        record {
          put_in = rw (q, y, lt-ltb m.0 n l) (ap (λ (k : ℕ). (m.0, k) ∷ P) e);
          still_greedy = rw q W.1;
          within = λ k. absurd (omega arith);
        }
    go false q =
        let y : entry_at (m ∷ P) n ≡ n + place n P = rw q at x in
        let z' : times n P ≡ 1 = once_at n m P z false q in
        let b : m ∷ P ≡ put n (place n P) (m ∷ without n P) = put_back n m P g u G W (eqb-false n m.1 q) z' in
        let c = place_below n P z' in
        let k = length_without n P z' in
        let d : n + place n P - n ≡ place n P = omega arith in
        let r : Rising (m ∷ without n P) = (g.0, rising_without n P g.1) in
        let a = u.0 in
        let t : Under n (m ∷ without n P) = (omega (arith, eqb-false n m.1 q), under_without n P u.1 z') in
        record {
          put_in = rw (q, y, le-ltb (n + place n P) n (omega arith), d) (sym b);
          still_greedy = rw q (greedy_unput n (place n P) (m ∷ without n P) r t (omega arith) (subst Greedy b W));
          within = λ f. rw (q, y) (omega arith);
        }

-- Every such list of n-1 merges is that of the vector whose entries fact 2 reads from it.
pub greedy_is_pairs : (n : ℕ) (P : List Merge) → 1 ≤ n → Rising P → Good P → Greedy P → Under n P → ((i : ℕ) → 1 ≤ i → i < n → times i P ≡ 1)
    → Bounded (entry_at P) n × (pairs_of (entry_at P) n ≡ P)
unfolding Bounded pairs_of Rising Under entry_at
greedy_is_pairs zero P h g G W u o = absurd (omega arith)
greedy_is_pairs (suc zero) [] h g G W u o = (λ i l. omega arith, refl)
greedy_is_pairs (suc zero) (m ∷ P) h g G W u o = let a = g.0 in let b = u.0 in absurd (omega arith)
greedy_is_pairs (suc (suc m)) P h g G W u o =
    let z = o (suc m) (omega arith) (omega arith) in
    let L = last_put (suc m) P (omega arith) g G W u z in
    go L (greedy_is_pairs (suc m) (without (suc m) P) (omega arith) (rising_without (suc m) P g) (good_without (suc m) P g u G) L.still_greedy (under_without (suc m) P u z)
    (λ i k l. times_without (suc m) i P (omega arith) ∙ o i k (omega arith)))
  where
    go : LastPut (suc m) P → Bounded (entry_at (without (suc m) P)) (suc m) × (pairs_of (entry_at (without (suc m) P)) (suc m) ≡ without (suc m) P)
        → Bounded (entry_at P) (suc (suc m)) × (insert (suc m) (entry_at P (suc m)) (pairs_of (entry_at P) (suc m)) ≡ P)
    go L ih = (
      λ i l. bounds i l (eqb i (suc m)) refl,
      ap (insert (suc m) (entry_at P (suc m))) (pairs_cong (entry_at P) (entry_at (without (suc m) P)) (suc m) (λ i l. sym (entry_without (suc m) i P l)) ∙ ih.1) ∙ L.put_in,
    )
      where
        bounds : (i : ℕ) → i < suc (suc m) → (b : Bool) → eqb i (suc m) ≡ b → entry_at P i ≤ 2 * (i - 1)
        bounds i l true q = rw (eqb-true i (suc m) q) (last (ltb (entry_at P (suc m)) (suc m)) refl)
          where
            last : (b : Bool) → ltb (entry_at P (suc m)) (suc m) ≡ b → entry_at P (suc m) ≤ 2 * (suc m - 1)
            last true r = omega (arith, ltb-true (entry_at P (suc m)) (suc m) r)
            last false r =
                let s = ltb-false (entry_at P (suc m)) (suc m) r in
                omega (arith, L.within s, pairs_length (entry_at (without (suc m) P)) m, ap length ih.1)
        bounds i l false q =
            let k : i < suc m = omega (arith, eqb-false i (suc m) q) in
            omega (arith, entry_without (suc m) i P k, ih.0 i k)

pairs_in_order : (v : ℕ → ℕ) (n : ℕ) → Bounded v n → InOrder n (pairs_of v n)
pairs_in_order v n ok = record {
  smaller_first = rising v n ok;
  of_clusters = good v n ok;
  greatest_first = greedy v n ok;
  of_leaves = under_pairs v n;
  each_once = once v n;
}

-- The merges of a vector stand in order, and every list in order is that of a vector.
pub merges_in_order : (v : List ℕ) → Valid v → InOrder (length v) (merges v)
unfolding pairs
merges_in_order v ok = rw (merges_are_pairs v ok) (pairs_in_order (entry v) (length v) (valid_bounded v ok))

pub in_order_is_merges : (n : ℕ) (P : List Merge) → 1 ≤ n → InOrder n P → Valid (listed n (entry_at P)) × (merges (listed n (entry_at P)) ≡ P)
unfolding pairs Bounded bound
in_order_is_merges n P h O = go (greedy_is_pairs n P h O.smaller_first O.of_clusters O.greatest_first O.of_leaves O.each_once)
  where
    go : Bounded (entry_at P) n × (pairs_of (entry_at P) n ≡ P) → Valid (listed n (entry_at P)) × (merges (listed n (entry_at P)) ≡ P)
    go w =
        let l : length (listed n (entry_at P)) ≡ n = length_listed n (entry_at P) in
        let ok : Valid (listed n (entry_at P)) = record {
          some_leaf = omega arith;
          bounded = λ i k. omega (arith, entry_listed n (entry_at P) i (omega arith), w.0 i (omega arith));
        } in
        (ok, merges_are_pairs (listed n (entry_at P)) ok ∙ rw l (pairs_cong (entry (listed n (entry_at P))) (entry_at P) n (entry_listed n (entry_at P)) ∙ w.1))
