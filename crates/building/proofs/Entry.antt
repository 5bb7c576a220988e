-- Fact 2 of 01: each entry of a vector from the merges that came before its leaf's own.
-- Main results: fact_two, entries_of_merges, entry_split, merges_injective.
use Rattle.std.specs.Prelude.{◌≡◌, refl, Bool, true, false, ◌&&◌, cond, List, [], ◌∷◌, ◌++◌, ℕ, zero, suc, ◌+◌, ◌-◌, ◌≤◌, ◌<◌, eqb, ltb, length}
use Rattle.std.proofs.Common.{sym, ap, ap₂, ◌∙◌, arith, eqb-true, lt-ltb, le-ltb, eq-eqb, ne_eqb}
use Rattle.std.proofs.Math.Seq.{take-length}
use Rattle.std.proofs.lemmas.Bool.{eqb-false}
use Rattle.rules.specs.Vector.{entry, Valid}
use Rattle.rules.specs.Building.{Merge, merges}
use Rattle.rules.specs.Order.{earlier, partner, entry_from, entry_at, listed}
use Rattle.basics.proofs.Bools.{and_false}
use Rattle.basics.proofs.Listed.{listed_cong, listed_entries}
use Rattle.merging.specs.Insertion.{insert, pairs_of, pairs, Bounded}
use Rattle.merging.proofs.Insertion.{valid_bounded}
use Rattle.merging.specs.Once.{times, place, entry_in, without}
use Rattle.merging.proofs.Once.{misses, never, fits, entry_in_insert, without_insert}
use Rattle.merging.specs.Greedy.{Under}
use Rattle.merging.proofs.Greedy.{under_insert, under_pairs}
use Rattle.merging.specs.Named.{Rising}
use Rattle.merging.proofs.Named.{rising_insert, rising}
use Rattle.building.proofs.Built.{merges_are_pairs, merges_length}

-- the last leaf sees all merges before its own
earlier_last : (n : ℕ) (P : List Merge) → Rising P → Under (suc n) P → earlier n P ≡ place n P
unfolding earlier place Rising Under
earlier_last n [] g u = refl
earlier_last n (m ∷ P) g u = go (eqb n m.1) refl (earlier_last n P g.1 u.1)
  where
    go : (b : Bool) → eqb n m.1 ≡ b → earlier n P ≡ place n P
        → cond b 0 (cond (ltb m.0 n && ltb m.1 n) 1 0 + earlier n P) ≡ cond b 0 (suc (place n P))
    go true q ih = refl
    go false q ih =
        let a = g.0 in
        let b = u.0 in
        let l : m.1 < n = omega (arith, eqb-false n m.1 q) in
        rw (lt-ltb m.0 n (omega arith), lt-ltb m.1 n l) (omega arith)

-- so the entry of the last leaf n is its partner where its merge stands first, and else n and the merges between
pub entry_last : (n : ℕ) (P : List Merge) → 1 ≤ n → Rising P → Under (suc n) P → entry_at P n ≡ entry_in n P
unfolding entry_at entry_in Rising Under
entry_last n [] h g u = refl
entry_last n (m ∷ P) h g u = go (eqb n m.1) refl
  where
    go : (b : Bool) → eqb n m.1 ≡ b
        → entry_from n (cond b m.0 (partner n P)) (cond b 0 (cond (ltb m.0 n && ltb m.1 n) 1 0 + earlier n P)) ≡ cond b m.0 (n + place n P)
    go true q = refl
    go false q =
        let a = g.0 in
        let b = u.0 in
        let l : m.1 < n = omega (arith, eqb-false n m.1 q) in
        rw (lt-ltb m.0 n (omega arith), lt-ltb m.1 n l, earlier_last n P g.1 u.1, ne_eqb (1 + place n P) 0 (omega arith)) (omega arith)

-- the merge of leaf n tells nothing of the leaves below it
earlier_without : (n i : ℕ) (P : List Merge) → i < n → earlier i (without n P) ≡ earlier i P
unfolding earlier without
earlier_without n i [] h = refl
earlier_without n i (m ∷ P) h = go (eqb n m.1) refl (earlier_without n i P h)
  where
    go : (b : Bool) → eqb n m.1 ≡ b → earlier i (without n P) ≡ earlier i P
        → earlier i (cond b P (m ∷ without n P)) ≡ cond (eqb i m.1) 0 (cond (ltb m.0 i && ltb m.1 i) 1 0 + earlier i P)
    go true q ih = let p : n ≡ m.1 = eqb-true n m.1 q in rw (ne_eqb i m.1 (omega arith), le-ltb m.1 i (omega arith), and_false) (omega arith)
    go false q ih = rw ih

partner_without : (n i : ℕ) (P : List Merge) → i < n → partner i (without n P) ≡ partner i P
unfolding partner without
partner_without n i [] h = refl
partner_without n i (m ∷ P) h = go (eqb n m.1) refl (partner_without n i P h)
  where
    go : (b : Bool) → eqb n m.1 ≡ b → partner i (without n P) ≡ partner i P
        → partner i (cond b P (m ∷ without n P)) ≡ cond (eqb i m.1) m.0 (partner i P)
    go true q ih = let p : n ≡ m.1 = eqb-true n m.1 q in rw (ne_eqb i m.1 (omega arith))
    go false q ih = rw ih

pub entry_without : (n i : ℕ) (P : List Merge) → i < n → entry_at (without n P) i ≡ entry_at P i
unfolding entry_at
entry_without n i P h = ap₂ (entry_from i) (partner_without n i P h) (earlier_without n i P h)

-- a merge put in gives its leaf's entry back, and leaves those of the leaves below it
entry_inserted : (n x : ℕ) (P : List Merge) → 1 ≤ n → Rising P → Under n P → times n P ≡ 0 → (n ≤ x → x - n < length P)
    → entry_at (insert n x P) n ≡ x
entry_inserted n x P h g u z f = entry_last n (insert n x P) h (rising_insert n x P u g f) (under_insert n x P u) ∙ entry_in_insert n x P z f

entry_kept : (n x i : ℕ) (P : List Merge) → i < n → times n P ≡ 0 → (n ≤ x → x - n < length P) → entry_at (insert n x P) i ≡ entry_at P i
entry_kept n x i P h z f = sym (entry_without n i (insert n x P) h) ∙ ap (λ (Q : List Merge). entry_at Q i) (without_insert n x P z f)

-- fact 2 for the merges that insertion makes
entry_of_pairs : (v : ℕ → ℕ) (n : ℕ) → Bounded v n → (i : ℕ) → i < n → v i ≡ entry_at (pairs_of v n) i
unfolding pairs_of Bounded entry_at
entry_of_pairs v zero ok i h = absurd (omega arith)
entry_of_pairs v (suc zero) ok i h = omega (arith, ok i h)
entry_of_pairs v (suc (suc m)) ok i h =
    go (pairs_of v (suc m)) (rising v (suc m) less) (under_pairs v (suc m)) (never v (suc m) (suc m) (omega arith)) (fits v m ok)
    (entry_of_pairs v (suc m) less i) (eqb i (suc m)) refl
  where
    less : Bounded v (suc m)
    less j l = ok j (omega arith)

    go : (P : List Merge) → Rising P → Under (suc m) P → times (suc m) P ≡ 0 → (suc m ≤ v (suc m) → v (suc m) - suc m < length P)
        → (i < suc m → v i ≡ entry_at P i)
        → (b : Bool) → eqb i (suc m) ≡ b → v i ≡ entry_at (insert (suc m) (v (suc m)) P) i
    go P g u z f ih true q = rw (eqb-true i (suc m) q) (sym (entry_inserted (suc m) (v (suc m)) P (omega arith) g u z f))
    go P g u z f ih false q =
        let l : i < suc m = omega (arith, eqb-false i (suc m) q) in
        ih l ∙ sym (entry_kept (suc m) (v (suc m)) i P l z f)

-- "if s merges of two clusters both named below i came before i merged with cluster a, then v(i) = a when s = 0, else v(i) = i-1+s"
pub fact_two : (v : List ℕ) → Valid v → (i : ℕ) → i < length v → entry v i ≡ entry_at (merges v) i
unfolding pairs
fact_two v ok i h = rw (merges_are_pairs v ok) (entry_of_pairs (entry v) (length v) (valid_bounded v ok) i h)

-- the merges of a vector give it back
pub entries_of_merges : (v : List ℕ) → Valid v → listed (length v) (entry_at (merges v)) ≡ v
entries_of_merges v ok =
    listed_cong (length v) (entry_at (merges v)) (entry v) (λ i h. sym (fact_two v ok i h)) ∙ listed_entries v (length v) (omega arith) ∙ take-length v

-- the same for one merge of the list: s counts the merges before it
earlier_split : (i a : ℕ) (L R : List Merge) → times i L ≡ 0 → earlier i (L ++ ((a, i) ∷ R)) ≡ earlier i L
unfolding earlier
earlier_split i a [] R z = rw (eq-eqb i i refl)
earlier_split i a (m ∷ L) R z = rw (misses i m L z).0 (ap (λ (k : ℕ). cond (ltb m.0 i && ltb m.1 i) 1 0 + k) (earlier_split i a L R (misses i m L z).1))

partner_split : (i a : ℕ) (L R : List Merge) → times i L ≡ 0 → partner i (L ++ ((a, i) ∷ R)) ≡ a
unfolding partner
partner_split i a [] R z = rw (eq-eqb i i refl)
partner_split i a (m ∷ L) R z = rw (misses i m L z).0 (partner_split i a L R (misses i m L z).1)

pub entry_split : (i a : ℕ) (L R : List Merge) → times i L ≡ 0 → entry_at (L ++ ((a, i) ∷ R)) i ≡ entry_from i a (earlier i L)
unfolding entry_at
entry_split i a L R z = ap₂ (entry_from i) (partner_split i a L R z) (earlier_split i a L R z)

-- vectors with the same merges are equal
pub merges_injective : (v w : List ℕ) → Valid v → Valid w → merges v ≡ merges w → v ≡ w
merges_injective v w ok ok' e =
    let l : length v ≡ length w = omega (arith, merges_length v ok, merges_length w ok', ap length e, ok.some_leaf, ok'.some_leaf) in
    sym (entries_of_merges v ok) ∙ ap₂ (λ (n : ℕ) (P : List Merge). listed n (entry_at P)) l e ∙ entries_of_merges w ok'
