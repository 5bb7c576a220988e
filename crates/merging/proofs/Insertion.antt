-- The merges of a vector by insertion: each entry puts its leaf's merge into the merges of the entries before it. Main results: valid_bounded,
-- by_insert, pairs_length, pairs_count, pairs_cong.
use Rattle.std.specs.Prelude.{◌≡◌, refl, Bool, true, false, cond, List, ◌∷◌, ℕ, zero, suc, ◌-◌, ◌≤◌, ◌<◌, ltb, length, take, drop, get_or}
use Rattle.std.proofs.Common.{ap₂, arith, length-append, length-take, length-drop, ltb-true, ltb-false}
use Rattle.rules.specs.Vector.{entry, bound, Valid}
use Rattle.rules.specs.Building.{Merge}
use Rattle.merging.specs.Insertion.{Bounded, put, insert, pairs_of}

pub valid_bounded : (v : List ℕ) → Valid v → Bounded (entry v) (length v)
unfolding Bounded bound
valid_bounded v ok = ok.bounded

pub put_zero : (n : ℕ) (m : Merge) (P : List Merge) → put n 0 (m ∷ P) ≡ m ∷ (m.0, n) ∷ P
unfolding put
put_zero n m P = refl

pub put_suc : (n d : ℕ) (m : Merge) (P : List Merge) → put n (suc d) (m ∷ P) ≡ m ∷ put n d P
unfolding put
put_suc n d m P = refl

put_length : (i d : ℕ) (P : List Merge) → length (put i d P) ≡ suc (length P)
unfolding put
put_length i d P = omega (arith, length-append (take (suc d) P) (((get_or P d (0, 0)).0, i) ∷ drop (suc d) P), length-take (suc d) P, length-drop (suc d) P)

-- by cases: the leaf merges at once, or right after a merge
pub by_insert : (i x : ℕ) (P : List Merge) (Q : List Merge → Type 0) → (x < i → Q ((x, i) ∷ P)) → (i ≤ x → Q (put i (x - i) P)) → Q (insert i x P)
unfolding insert
by_insert i x P Q at_once later = go (ltb x i) refl
  where
    go : (b : Bool) → ltb x i ≡ b → Q (cond b ((x, i) ∷ P) (put i (x - i) P))
    go true e = at_once (ltb-true x i e)
    go false e = later (ltb-false x i e)

insert_length : (i x : ℕ) (P : List Merge) → length (insert i x P) ≡ suc (length P)
insert_length i x P = by_insert i x P (λ R. length R ≡ suc (length P)) (λ l. refl) (λ l. put_length i (x - i) P)

pub pairs_length : (v : ℕ → ℕ) (m : ℕ) → length (pairs_of v (suc m)) ≡ m
unfolding pairs_of
pairs_length v zero = refl
pairs_length v (suc m) = omega (arith, insert_length (suc m) (v (suc m)) (pairs_of v (suc m)), pairs_length v m)

pub pairs_count : (v : ℕ → ℕ) (n : ℕ) → length (pairs_of v n) ≡ n - 1
unfolding pairs_of
pairs_count v zero = refl
pairs_count v (suc m) = omega (arith, pairs_length v m)

pub pairs_cong : (u v : ℕ → ℕ) (n : ℕ) → ((i : ℕ) → i < n → u i ≡ v i) → pairs_of u n ≡ pairs_of v n
unfolding pairs_of
pairs_cong u v zero h = refl
pairs_cong u v (suc zero) h = refl
pairs_cong u v (suc (suc m)) h = ap₂ (insert (suc m)) (h (suc m) (omega arith)) (pairs_cong u v (suc m) (λ i l. h i (omega arith)))
