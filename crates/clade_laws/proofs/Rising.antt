-- Strictly rising lists of numbers: what a list rises to, and that its members fix it. Main results: from_unique, rising_from, rising_member,
-- from_rises, from_different.
use Rattle.std.specs.Prelude.{◌≡◌, refl, ◌⊎◌, Bool, true, false, cond, ◌||◌, List, [], ◌∷◌, ℕ, zero, suc, ◌+◌, ◌≤◌, ◌<◌, eqb, ltb, length, get_or}
use Rattle.std.proofs.Common.{sym, ap, ap₂, ◌∙◌, inl, inr, ⊎_elim, true≢false, arith, ltb-true, ltb-false, eqb-true}
use Rattle.std.proofs.lemmas.Bool.{eqb-false}
use Rattle.rules.specs.Building.{member}
use Rattle.rules.specs.CladeTable.{put, rising}
use Rattle.basics.proofs.Bools.{both}
use Rattle.basics.proofs.Cases.{by_test}
use Rattle.clade_laws.specs.Inner.{Different}
use Rattle.clade_laws.proofs.Inner.{member_head, member_tail, member_cases}
use Rattle.clade_laws.specs.Rising.{From, Rises}

pub from_ge : (b : ℕ) (l : List ℕ) → From b l → (m : ℕ) → member m l ≡ true → b ≤ m
unfolding From member
from_ge b [] f m e = absurd (true≢false (sym e))
from_ge b (k ∷ l) f m e = go (from_ge (k + 1) l f.1 m) (member_cases m k l e)
  where
    go : (member m l ≡ true → k + 1 ≤ m) → (m ≡ k) ⊎ (member m l ≡ true) → b ≤ m
    go g (inl p) = omega (arith, p, f.0)
    go g (inr p) = omega (arith, g p, f.0)

pub from_lower : (b c : ℕ) (l : List ℕ) → c ≤ b → From b l → From c l
unfolding From
from_lower b c [] h f = tt
from_lower b c (m ∷ l) h f = (omega (arith, f.0), f.1)

from_at : (b : ℕ) (l : List ℕ) → From b l → (j : ℕ) → j < length l → b ≤ get_or l j 0
unfolding From
from_at b [] f j h = absurd (omega arith)
from_at b (m ∷ l) f zero h = f.0
from_at b (m ∷ l) f (suc j) h = omega (arith, f.0, from_at (m + 1) l f.1 j (omega arith))

pub from_rises : (b : ℕ) (l : List ℕ) → From b l → Rises l
unfolding From Rises
from_rises b [] f i j g h = absurd (omega arith)
from_rises b (m ∷ l) f i zero g h = absurd (omega arith)
from_rises b (m ∷ l) f zero (suc j) g h = omega (arith, from_at (m + 1) l f.1 j (omega arith))
from_rises b (m ∷ l) f (suc i) (suc j) g h = from_rises (m + 1) l f.1 i j (omega arith) (omega arith)

pub from_different : (b : ℕ) (l : List ℕ) → From b l → Different l
unfolding From Different
from_different b [] f = tt
from_different b (m ∷ l) f = (by_test (member m l) (λ e. absurd (omega (arith, from_ge (m + 1) l f.1 m e))) (λ e. e), from_different (m + 1) l f.1)

-- the head of a rising list is no later member
tail_same : (m : ℕ) (a c : List ℕ) → From (m + 1) a → ((x : ℕ) → member x (m ∷ a) ≡ true → member x (m ∷ c) ≡ true) → (x : ℕ) → member x a ≡ true → member x c ≡ true
tail_same m a c f h x e = ⊎_elim (λ p. absurd (omega (arith, p, from_ge (m + 1) a f x e))) (λ p. p) (member_cases x m c (h x (member_tail x m a e)))

head_le : (j k : ℕ) (c : List ℕ) → From (j + 1) c → member k (j ∷ c) ≡ true → j ≤ k
head_le j k c f e = ⊎_elim (λ p. omega (arith, p)) (λ p. omega (arith, from_ge (j + 1) c f k p)) (member_cases k j c e)

-- two strictly rising lists with the same members are equal
pub from_unique : (a c : List ℕ) (b d : ℕ) → From b a → From d c → ((x : ℕ) → member x a ≡ member x c) → a ≡ c
unfolding From member
from_unique [] [] b d f g h = refl
from_unique [] (k ∷ c) b d f g h = absurd (true≢false (sym (member_head k c) ∙ sym (h k)))
from_unique (k ∷ a) [] b d f g h = absurd (true≢false (sym (member_head k a) ∙ h k))
from_unique (k ∷ a) (j ∷ c) b d f g h =
    let e : k ≡ j = omega (arith, head_le j k c g.1 (sym (h k) ∙ member_head k a), head_le k j a f.1 (h j ∙ member_head j c)) in
    ap₂ (λ (x : ℕ) (l : List ℕ). x ∷ l) e
    (from_unique a c (k + 1) (j + 1) f.1 g.1 (λ x. both (member x a) (member x c)
    (tail_same k a c f.1 (λ y p. ap (λ (z : ℕ). member y (z ∷ c)) e ∙ sym (h y) ∙ p) x)
    (tail_same j c a g.1 (λ y p. ap (λ (z : ℕ). member y (z ∷ a)) (sym e) ∙ h y ∙ p) x)))

-- ---- the different numbers of a list, rising
pub put_from : (m b : ℕ) (l : List ℕ) → b ≤ m → From b l → From b (put m l)
unfolding From put
put_from m b [] h f = (h, tt)
put_from m b (k ∷ l) h f = go (ltb m k) refl (eqb m k) refl (λ g. put_from m (k + 1) l g f.1)
  where
    go : (s : Bool) → ltb m k ≡ s → (t : Bool) → eqb m k ≡ t → (k + 1 ≤ m → From (k + 1) (put m l))
        → From b (cond s (m ∷ k ∷ l) (cond t (k ∷ l) (k ∷ put m l)))
    go true p t q g = (h, (omega (arith, ltb-true m k p), f.1))
    go false p true q g = f
    go false p false q g = (f.0, g (omega (arith, ltb-false m k p, eqb-false m k q)))

pub put_member : (x m : ℕ) (l : List ℕ) → member x (put m l) ≡ eqb x m || member x l
unfolding put member
put_member x m [] = refl
put_member x m (k ∷ l) = go (ltb m k) (eqb m k) refl (put_member x m l)
  where
    same : (p q : Bool) → p || q ≡ p || (p || q)
    same true q = refl
    same false q = refl

    turn : (p q r : Bool) → p || (q || r) ≡ q || (p || r)
    turn true true r = refl
    turn true false r = refl
    turn false q r = refl

    go : (s t : Bool) → eqb m k ≡ t → member x (put m l) ≡ eqb x m || member x l
        → member x (cond s (m ∷ k ∷ l) (cond t (k ∷ l) (k ∷ put m l))) ≡ eqb x m || (eqb x k || member x l)
    go true t q ih = refl
    go false true q ih = rw (eqb-true m k q) (same (eqb x k) (member x l))
    go false false q ih = rw ih (turn (eqb x k) (eqb x m) (member x l))

pub rising_from : (l : List ℕ) → From 0 (rising l)
unfolding rising From
rising_from [] = tt
rising_from (m ∷ l) = put_from m 0 (rising l) (omega arith) (rising_from l)

pub rising_member : (x : ℕ) (l : List ℕ) → member x (rising l) ≡ member x l
unfolding rising member
rising_member x [] = refl
rising_member x (m ∷ l) = put_member x m (rising l) ∙ ap (λ (b : Bool). eqb x m || b) (rising_member x l)
