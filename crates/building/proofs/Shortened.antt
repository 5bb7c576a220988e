-- A vector cut short: it is valid, and its merges are those of the whole vector whose larger name is left. Main results: valid_take, only_pairs,
-- pairs_take.
use Rattle.std.specs.Prelude.{◌≡◌, refl, Bool, true, false, cond, List, [], ◌∷◌, ℕ, zero, suc, ◌-◌, ◌≤◌, eqb, ltb, length, take}
use Rattle.std.proofs.Common.{sym, ap, ◌∙◌, arith, get_or-take, length-take-le, eqb-true, lt-ltb, le-ltb}
use Rattle.std.proofs.lemmas.Bool.{eqb-false}
use Rattle.rules.specs.Vector.{entry, Valid}
use Rattle.rules.specs.Building.{Merge}
use Rattle.merging.specs.Insertion.{put, insert, pairs_of, pairs}
use Rattle.merging.proofs.Insertion.{pairs_cong}
use Rattle.merging.specs.Greedy.{Under}
use Rattle.merging.proofs.Greedy.{under_pairs}
use Rattle.building.specs.Shortened.{only_below}

-- the first m entries of a valid vector are a valid vector
pub valid_take : (v : List ℕ) → Valid v → (m : ℕ) → 1 ≤ m → m ≤ length v → Valid (take m v)
unfolding entry
valid_take v ok m h l =
    let e : length (take m v) ≡ m = length-take-le m v l in
    record {
      some_leaf = omega arith;
      bounded = λ i k. rw (get_or-take m v i 0 (omega arith)) (ok.bounded i (omega arith));
    }

only_all : (n : ℕ) (P : List Merge) → Under n P → only_below n P ≡ P
unfolding only_below Under
only_all n [] u = refl
only_all n (m ∷ P) u = rw (lt-ltb m.1 n u.0) (ap (λ (Q : List Merge). m ∷ Q) (only_all n P u.1))

only_put : (n k d : ℕ) (P : List Merge) → n ≤ k → only_below n (put k d P) ≡ only_below n P
unfolding only_below put
only_put n k d [] h = rw (le-ltb k n h)
only_put n k zero (m ∷ P) h = rw (le-ltb k n h)
only_put n k (suc d) (m ∷ P) h = rw (only_put n k d P h)

only_insert : (n k x : ℕ) (P : List Merge) → n ≤ k → only_below n (insert k x P) ≡ only_below n P
unfolding insert only_below
only_insert n k x P h = go (ltb x k)
  where
    go : (b : Bool) → only_below n (cond b ((x, k) ∷ P) (put k (x - k) P)) ≡ only_below n P
    go true = rw (le-ltb k n h)
    go false = only_put n k (x - k) P h

only_same : (v : ℕ → ℕ) (m n : ℕ) → m ≡ n → only_below m (pairs_of v n) ≡ pairs_of v m
only_same v m n e = rw e (only_all n (pairs_of v n) (under_pairs v n))

pub only_pairs : (v : ℕ → ℕ) (m n : ℕ) → 1 ≤ m → m ≤ n → only_below m (pairs_of v n) ≡ pairs_of v m
unfolding pairs_of
only_pairs v m zero h l = absurd (omega arith)
only_pairs v m (suc zero) h l = only_same v m 1 (omega arith)
only_pairs v m (suc (suc n)) h l = go (eqb m (suc (suc n))) refl (only_pairs v m (suc n) h)
  where
    go : (b : Bool) → eqb m (suc (suc n)) ≡ b → (m ≤ suc n → only_below m (pairs_of v (suc n)) ≡ pairs_of v m)
        → only_below m (insert (suc n) (v (suc n)) (pairs_of v (suc n))) ≡ pairs_of v m
    go true q ih = only_same v m (suc (suc n)) (eqb-true m (suc (suc n)) q)
    go false q ih =
        let k : m ≤ suc n = omega (arith, eqb-false m (suc (suc n)) q) in
        only_insert m (suc n) (v (suc n)) (pairs_of v (suc n)) k ∙ ih k

pub pairs_take : (v : List ℕ) (m : ℕ) → 1 ≤ m → m ≤ length v → pairs (take m v) ≡ only_below m (pairs v)
unfolding pairs entry
pairs_take v m h l =
    rw (length-take-le m v l) (pairs_cong (entry (take m v)) (entry v) m (λ i k. get_or-take m v i 0 k) ∙ sym (only_pairs (entry v) m (length v) h l))
