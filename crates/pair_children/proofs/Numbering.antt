-- Children numbered pair by pair, both lists filled from the front.
-- Main definition: Numbering. Main results: number_leaf, number_pair, numbering_start, numbering_next, numbering_end.
use mathlib.Core.Path.{◌≡◌, refl, ap, sym, ◌∙◌}
use mathlib.Core.List.{List, [], ◌∷◌, ◌++◌, map}
use Prim.Native.Nat.{ℕ, zero, suc, ◌+◌, ◌-◌, ◌≤◌, ◌<◌}
use native.Mathlib.Omega.{arith}
use lib.ListN.{length, get_or, take, drop, set, length-take, length-map}
use lib.Seq.{take_all, get_or-take}
use borrow.Author.Tests.{lt-ltb, le-ltb}
use Rattle.grammar.specs.Closed.{child_number}
use Rattle.text_laws.specs.Numbered.{first_number, second_number}
use Rattle.lists.specs.Front.{Copied, copied_start, copied_next, copied_end}

pub number_leaf : (n c : ℕ) → c < 16384 → c ≡ child_number n c
unfolding child_number
number_leaf n c h = rw (lt-ltb c 16384 h)

pub number_pair : (n c : ℕ) → 16384 ≤ c → n + (c - 16384) ≡ child_number n c
unfolding child_number
number_pair n c h = rw (le-ltb c 16384 h)

map_at : (f : ℕ → ℕ) (l : List ℕ) (k : ℕ) → k < length l → get_or (map f l) k 0 ≡ f (get_or l k 0)
map_at f [] k h = absurd (omega arith)
map_at f (x ∷ l) zero h = refl
map_at f (x ∷ l) (suc k) h = map_at f l k (omega arith)

-- the first m pairs, each by a number
module _ (f : ℕ → ℕ) (pairs : List ℕ) (m : ℕ) (h : m ≤ length pairs) where
  numbers_length : length (map f (take m pairs)) ≡ m
  numbers_length = omega (arith, length-map (take m pairs) f, length-take m pairs)

  numbers_at : (k : ℕ) → k < m → get_or (map f (take m pairs)) k 0 ≡ f (get_or pairs k 0)
  numbers_at k g = map_at f (take m pairs) k (omega (arith, length-take m pairs)) ∙ ap f (get_or-take m pairs k 0 g)

  numbers_start : {old : List ℕ} → m ≤ length old → Copied (map f (take m pairs)) old old m 0
  numbers_start g = copied_start (omega (arith, numbers_length)) g

  numbers_next : {old xs : List ℕ} {k x : ℕ} → Copied (map f (take m pairs)) old xs m k → k < m → x ≡ f (get_or pairs k 0) → Copied (map f (take m pairs)) old (set xs k x) m (k + 1)
  numbers_next {old} {xs} {k} C g e = rw (e ∙ sym (numbers_at k g)) (copied_next C g)

  numbers_end : {old xs : List ℕ} {k : ℕ} → Copied (map f (take m pairs)) old xs m k → m ≤ k → xs ≡ map f (take m pairs) ++ drop m old
  numbers_end {old} C g = copied_end C g ∙ ap (λ (r : List ℕ). r ++ drop m old) (take_all m (map f (take m pairs)) (omega (arith, numbers_length)))

-- the children of the first k pairs stand in left and right
pub record Numbering (pairs : List ℕ) (n : ℕ) (left₀ left right₀ right : List ℕ) (k : ℕ) : Type 0 where
  pub few : n ≤ 1024
  pub pairs_there : n - 1 ≤ length pairs
  pub firsts : Copied (map (first_number n) (take (n - 1) pairs)) left₀ left (n - 1) k
  pub seconds : Copied (map (second_number n) (take (n - 1) pairs)) right₀ right (n - 1) k

pub numbering_start : {pairs : List ℕ} {n : ℕ} {left right : List ℕ} → n ≤ 1024 → n - 1 ≤ length pairs → n - 1 ≤ length left → n - 1 ≤ length right → Numbering pairs n left left right right 0
numbering_start {pairs} {n} h g l r = record {
  few = h;
  pairs_there = g;
  firsts = numbers_start (first_number n) pairs (n - 1) g l;
  seconds = numbers_start (second_number n) pairs (n - 1) g r;
}

module _ {pairs : List ℕ} {n : ℕ} {left₀ left right₀ right : List ℕ} {k : ℕ} (N : Numbering pairs n left₀ left right₀ right k) where
  pub numbering_next : {x y : ℕ} → k < n - 1 → x ≡ first_number n (get_or pairs k 0) → y ≡ second_number n (get_or pairs k 0) → Numbering pairs n left₀ (set left k x) right₀ (set right k y) (k + 1)
  numbering_next h p q = record {
    few = N.few;
    pairs_there = N.pairs_there;
    firsts = numbers_next (first_number n) pairs (n - 1) N.pairs_there N.firsts (omega arith) p;
    seconds = numbers_next (second_number n) pairs (n - 1) N.pairs_there N.seconds (omega arith) q;
  }

  pub numbering_end : n - 1 ≤ k → (left ≡ map (first_number n) (take (n - 1) pairs) ++ drop (n - 1) left₀) × (right ≡ map (second_number n) (take (n - 1) pairs) ++ drop (n - 1) right₀)
  numbering_end h = (
    numbers_end (first_number n) pairs (n - 1) N.pairs_there N.firsts (omega arith),
    numbers_end (second_number n) pairs (n - 1) N.pairs_there N.seconds (omega arith),
  )
