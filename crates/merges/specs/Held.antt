-- Merges held by a list of their larger names and, for each larger name, its smaller name;
-- and the merge that an entry puts into the merges of the entries before it.
-- Main definitions: held, place, name_at. Main results: pairs_next, same_name, held_next.
use Rattle.std.specs.Prelude.{◌≡◌, refl, Bool, true, false, cond, List, [], ◌∷◌, map, ℕ, zero, suc, ◌+◌, ◌-◌, ◌≤◌, ◌<◌, ltb, length, take, drop, get_or, set}
use Rattle.std.proofs.Common.{sym, ap, ap₂, ◌∙◌, add-one, arith, get_or-take, get_or-drop, get_or-set_same, get_or-set_other, ltb-false}
use Rattle.rules.specs.Building.{Merge}
use Rattle.merging.specs.Insertion.{put, insert, pairs_of}
use Rattle.merging.specs.Greedy.{Under}
use Rattle.insertion.specs.Moved.{ins}

-- the merge of the larger name i
abbrev pub held : List ℕ → ℕ → Merge
held small i = (get_or small i 0, i)

-- before how many of the merges leaf i's merge stands, where its entry is x
unfoldable pub place : ℕ → ℕ → ℕ
place x i = cond (ltb x i) 0 (x - i + 1)

-- its smaller name, where the larger names of the merges stand in list from lo on
unfoldable pub name_at : List ℕ → List ℕ → ℕ → ℕ → ℕ → ℕ
name_at list small lo x i = cond (ltb x i) x (get_or small (get_or list (lo + (x - i)) 0) 0)

-- its smaller name
unfoldable pub name_in : List Merge → ℕ → ℕ → ℕ
name_in P x i = cond (ltb x i) x (get_or P (x - i) (0, 0)).0

insert_ins : (i x : ℕ) (P : List Merge) → insert i x P ≡ ins (place x i) (name_in P x i, i) P
unfolding insert put ins place name_in
insert_ins i x P = go (ltb x i)
  where
    go : (b : Bool) → cond b ((x, i) ∷ P) (put i (x - i) P) ≡ ins (cond b 0 (x - i + 1)) (cond b x (get_or P (x - i) (0, 0)).0, i) P
    go true = refl
    go false = rw add-one

-- the merges with leaf i
pub pairs_next : (v : ℕ → ℕ) (i : ℕ) → 1 ≤ i → pairs_of v (i + 1) ≡ ins (place (v i) i) (name_in (pairs_of v i) (v i) i, i) (pairs_of v i)
unfolding pairs_of
pairs_next v zero h = absurd (omega arith)
pairs_next v (suc m) h = rw add-one (insert_ins (suc m) (v (suc m)) (pairs_of v (suc m)))

-- all larger names are below n
pub larger_below : (n : ℕ) (P : List Merge) → Under n P → (t : ℕ) → t < length P → (get_or P t (0, 0)).1 < n
unfolding Under
larger_below n [] u t h = absurd (omega arith)
larger_below n (m ∷ P) u zero h = u.0
larger_below n (m ∷ P) u (suc t) h = larger_below n P u.1 t (omega arith)

-- a merge is read by its number
held_at : (small names : List ℕ) (t : ℕ) → t < length names → get_or (map (held small) names) t (0, 0) ≡ held small (get_or names t 0)
held_at small [] t h = absurd (omega arith)
held_at small (x ∷ names) zero h = refl
held_at small (x ∷ names) (suc t) h = held_at small names t (omega arith)

pub window_at : (list : List ℕ) (lo m t : ℕ) → t < m → get_or (take m (drop lo list)) t 0 ≡ get_or list (lo + t) 0
window_at list lo m t h = get_or-take m (drop lo list) t 0 h ∙ get_or-drop lo list t 0

-- a merge of those that stand in the list from lo on
pub merge_at : (list small : List ℕ) (lo m : ℕ) (P : List Merge) → map (held small) (take m (drop lo list)) ≡ P → (t : ℕ) → t < m → t < length (take m (drop lo list)) → get_or P t (0, 0) ≡ held small (get_or list (lo + t) 0)
merge_at list small lo m P e t h g =
    ap (λ (Q : List Merge). get_or Q t (0, 0)) (sym e) ∙ held_at small (take m (drop lo list)) t g ∙ ap (held small) (window_at list lo m t h)

-- the smaller name is found where the code looks
pub same_name : (list small : List ℕ) (lo x i : ℕ) (P : List Merge) → (i ≤ x → get_or P (x - i) (0, 0) ≡ held small (get_or list (lo + (x - i)) 0)) → name_at list small lo x i ≡ name_in P x i
unfolding name_at name_in
same_name list small lo x i P e = go (ltb x i) refl
  where
    go : (b : Bool) → ltb x i ≡ b → cond b x (get_or small (get_or list (lo + (x - i)) 0) 0) ≡ cond b x (get_or P (x - i) (0, 0)).0
    go true q = refl
    go false q = sym (ap (λ (m : Merge). m.0) (e (ltb-false x i q)))

-- a store at a larger name that is not there changes no merge
held_store : (small names : List ℕ) (i a : ℕ) → Under i (map (held small) names) → map (held (set small i a)) names ≡ map (held small) names
unfolding Under
held_store small [] i a u = refl
held_store small (x ∷ names) i a u =
    let l = u.0 in
    ap₂ (λ (m : Merge) (P : List Merge). m ∷ P) (ap (λ (y : ℕ). (y, x)) (get_or-set_other small i x a 0 (λ q. omega arith))) (held_store small names i a u.1)

map_ins : (f : ℕ → Merge) (s x : ℕ) (l : List ℕ) → map f (ins s x l) ≡ ins s (f x) (map f l)
unfolding ins
map_ins f zero x l = refl
map_ins f (suc s) x [] = refl
map_ins f (suc s) x (y ∷ l) = ap (λ r. f y ∷ r) (map_ins f s x l)

-- the larger name i goes in, with its smaller name a
pub held_next : (small names : List ℕ) (s i a : ℕ) → i < length small → Under i (map (held small) names) → map (held (set small i a)) (ins s i names) ≡ ins s (a, i) (map (held small) names)
held_next small names s i a h u =
    map_ins (held (set small i a)) s i names
    ∙ ap₂ (ins s) (ap (λ (y : ℕ). (y, i)) (get_or-set_same small i a 0 h)) (held_store small names i a u)
