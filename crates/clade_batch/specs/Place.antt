-- The place of a leaf set in a batch: below it are smaller ones, from it on none.
-- Main definitions: Rises, Place, stands_at, Bracket. Main results: words_rise, stands, guessed, bracket_up, bracket_down.
use Rattle.std.specs.Prelude.{◌≡◌, refl, Bool, true, false, cond, List, [], ◌∷◌, ℕ, zero, suc, ◌+◌, ◌*◌, ◌≤◌, ◌<◌, eqb, ltb, length, get_or}
use Rattle.std.proofs.Common.{sym, ap, ◌∙◌, subst, true≢false, arith, ltb-true, eqb-true, lt-ltb}
use Rattle.std.proofs.lemmas.Bool.{eqb-false}
use Rattle.rules.specs.declared.Clade.{Clade as Entry}
use Rattle.basics.proofs.Cases.{by_lt}
use Rattle.clade_laws.specs.Rising.{From}
use Rattle.clade_laws.specs.Entries.{leaves_of}
use Rattle.clade_batch.specs.Held.{entry_at, held_in, none, held_length, held_at}

-- the leaf sets of the first k clades rise
unfoldable pub Rises : List ℕ → ℕ → Type 0
Rises words k = (i j : ℕ) → i < j → j < k → get_or words (2 * i) 0 < get_or words (2 * j) 0

-- r is the place of the leaf set m among the first k
pub record Place (words : List ℕ) (k m r : ℕ) : Type 0 where
  pub inside : r ≤ k
  pub below : (i : ℕ) → i < r → get_or words (2 * i) 0 < m
  pub above : (i : ℕ) → r ≤ i → i < k → m ≤ get_or words (2 * i) 0

-- m stands at place p of the first k
abbrev pub stands_at : List ℕ → ℕ → ℕ → ℕ → Bool
stands_at words k p m = cond (ltb p k) (eqb (get_or words (2 * p) 0) m) false

pub stands : (words : List ℕ) (k p m : ℕ) → stands_at words k p m ≡ true → (p < k) × (get_or words (2 * p) 0 ≡ m)
stands words k p m e = go (ltb p k) refl e
  where
    go : (t : Bool) → ltb p k ≡ t → cond t (eqb (get_or words (2 * p) 0) m) false ≡ true → (p < k) × (get_or words (2 * p) 0 ≡ m)
    go true s d = (ltb-true p k s, eqb-true (get_or words (2 * p) 0) m d)
    go false s d = absurd (true≢false (sym d))

pub stands_not : {words : List ℕ} {k m p : ℕ} → Place words k m p → stands_at words k p m ≡ false → p < k → m < get_or words (2 * p) 0
stands_not {words} {k} {m} {p} P e h =
    let ne : get_or words (2 * p) 0 ≡ m → ⊥ = eqb-false (get_or words (2 * p) 0) m (ap (λ (b : Bool). cond b (eqb (get_or words (2 * p) 0) m) false) (sym (lt-ltb p k h)) ∙ e) in
    omega (arith, P.above p (omega arith) h, ne)

-- a guess at which it stands is its place
pub guessed : {words : List ℕ} {k m p : ℕ} → Rises words k → stands_at words k p m ≡ true → Place words k m p
unfolding Rises
guessed {words} {k} {m} {p} up e =
    let s = stands words k p m e in
    record {
      inside = omega (arith, s.0);
      below = λ i h. omega (arith, up i p h s.0, s.1);
      above = λ i h l. by_lt p i (λ g. omega (arith, up p i g l, s.1)) (λ g. let q : p ≡ i = omega arith in omega (arith, s.1, ap (λ (x : ℕ). get_or words (2 * x) 0) q));
    }

-- ---- the bracket of the search
pub record Bracket (words : List ℕ) (k m lo hi : ℕ) : Type 0 where
  pub le : lo ≤ hi
  pub top : hi ≤ k
  pub below : (i : ℕ) → i < lo → get_or words (2 * i) 0 < m
  pub above : (i : ℕ) → hi ≤ i → i < k → m ≤ get_or words (2 * i) 0

pub bracket_up : {words : List ℕ} {k m lo hi : ℕ} (mid : ℕ) → Rises words k → Bracket words k m lo hi → mid < hi → get_or words (2 * mid) 0 < m → Bracket words k m (mid + 1) hi
unfolding Rises
bracket_up {words} {k} {m} {lo} {hi} mid up B h g = record {
  le = omega arith;
  top = B.top;
  below = λ i l. by_lt i mid (λ q. omega (arith, up i mid q (omega (arith, B.top)), g)) (λ q. let e : mid ≡ i = omega arith in subst (λ (j : ℕ). get_or words (2 * j) 0 < m) e g);
  above = B.above;
}

pub bracket_down : {words : List ℕ} {k m lo hi : ℕ} (mid : ℕ) → Rises words k → Bracket words k m lo hi → lo ≤ mid → mid < hi → m ≤ get_or words (2 * mid) 0 → Bracket words k m lo mid
unfolding Rises
bracket_down {words} {k} {m} {lo} {hi} mid up B a h g = record {
  le = a;
  top = omega (arith, B.top);
  below = B.below;
  above = λ i l n. by_lt mid i (λ q. omega (arith, up mid i q n, g)) (λ q. let e : mid ≡ i = omega arith in subst (λ (j : ℕ). m ≤ get_or words (2 * j) 0) e g);
}

-- ---- what rises as a list rises by places
from_le : (b : ℕ) (l : List ℕ) → From b l → (j : ℕ) → j < length l → b ≤ get_or l j 0
unfolding From
from_le b [] f j h = absurd (omega arith)
from_le b (x ∷ l) f zero h = f.0
from_le b (x ∷ l) f (suc j) h = omega (arith, f.0, from_le (x + 1) l f.1 j (omega arith))

from_lt : (b : ℕ) (l : List ℕ) → From b l → (i j : ℕ) → i < j → j < length l → get_or l i 0 < get_or l j 0
unfolding From
from_lt b [] f i j g h = absurd (omega arith)
from_lt b (x ∷ l) f i zero g h = absurd (omega arith)
from_lt b (x ∷ l) f zero (suc j) g h = omega (arith, from_le (x + 1) l f.1 j (omega arith))
from_lt b (x ∷ l) f (suc i) (suc j) g h = from_lt (x + 1) l f.1 i j (omega arith) (omega arith)

leaves_length : (es : List Entry) → length (leaves_of es) ≡ length es
unfolding leaves_of
leaves_length [] = refl
leaves_length (e ∷ es) = ap suc (leaves_length es)

leaves_at : (es : List Entry) (i : ℕ) → get_or (leaves_of es) i 0 ≡ (get_or es i none).leaves
unfolding leaves_of
leaves_at [] zero = refl
leaves_at [] (suc i) = refl
leaves_at (e ∷ es) zero = refl
leaves_at (e ∷ es) (suc i) = leaves_at es i

word_leaves : (words : List ℕ) (i : ℕ) → i < get_or words 8192 0 → get_or (leaves_of (held_in words)) i 0 ≡ get_or words (2 * i) 0
unfolding entry_at
word_leaves words i h = leaves_at (held_in words) i ∙ ap (λ (e : Entry). e.leaves) (held_at words i h)

pub words_rise : (words : List ℕ) → From 0 (leaves_of (held_in words)) → Rises words (get_or words 8192 0)
unfolding Rises
words_rise words f i j h l =
    let n : length (leaves_of (held_in words)) ≡ get_or words 8192 0 = leaves_length (held_in words) ∙ held_length words in
    omega (arith, word_leaves words i (omega arith), word_leaves words j l, from_lt 0 (leaves_of (held_in words)) f i j h (omega (arith, n)))
