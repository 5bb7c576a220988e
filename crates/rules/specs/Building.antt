-- The building rule of a vector, word for word: what each leaf sees, how it labels, and which merge comes next.
-- Main definitions: State, start, last_below, sees, next, merge, merges.
use Rattle.std.specs.Prelude.{Bool, false, not, ◌&&◌, ◌||◌, cond, List, [], ◌∷◌, ℕ, zero, suc, ◌+◌, ◌-◌, eqb, ltb, length}
use Rattle.std.proofs.Math.Option.{Option, none, some, or_else, map}
use Rattle.rules.specs.Vector.{entry}

-- A merge: the smaller name, then the larger name of its two clusters.
abbrev pub Merge : Type 0
Merge = ℕ × ℕ

-- names c: some cluster is named c. label j c: what leaf j calls the cluster named c. used j: the labels that leaf j has used
pub record State : Type 0 where
  pub names : ℕ → Bool
  pub label : ℕ → ℕ → ℕ
  pub used : ℕ → List ℕ

-- the numbers below n
unfoldable pub below : ℕ → List ℕ
below zero = []
below (suc n) = n ∷ below n

-- "Every leaf starts as a cluster named by itself", leaves 0 to n-1, "first labelled by name", so leaf j has used the labels below j
unfoldable pub start : ℕ → State
unfolding below
start n = record { names = λ c. ltb c n; label = λ j c. c; used = below }

unfoldable pub member : ℕ → List ℕ → Bool
member x [] = false
member x (y ∷ ys) = eqb x y || member x ys

-- the smallest number from x on that is not in the list, found within k steps
unfoldable pub smallest_from : ℕ → ℕ → List ℕ → ℕ
unfolding member
smallest_from zero x ys = x
smallest_from (suc k) x ys = cond (member x ys) (smallest_from k (x + 1) ys) x

-- "the smallest label j has not used"
unfoldable pub smallest_unused : List ℕ → ℕ
unfolding smallest_from
smallest_unused ys = smallest_from (length ys) 0 ys

-- what is found at the greatest number below k at which something is found
unfoldable pub last_below : {A : Type 0} → (ℕ → Option A) → ℕ → Option A
unfolding or_else
last_below find zero = none
last_below find (suc k) = or_else (find k) (last_below find k)

-- "Leaf i sees only clusters named below i": the one that it sees labelled x
unfoldable pub sees : State → ℕ → ℕ → Option ℕ
unfolding last_below
sees s i x = last_below (λ c. cond (s.names c && eqb (s.label i c) x) (some c) none) i

-- leaf i, where it "still names a cluster and sees one labelled v(i), merges with that one"
unfoldable pub merge_of : (ℕ → ℕ) → State → ℕ → Option Merge
unfolding sees
merge_of v s i = cond (s.names i) (map (λ a. (a, i)) (sees s i (v i))) none

-- "At each step the largest i": the merge of the largest leaf below n that has one
unfoldable pub next : (ℕ → ℕ) → State → ℕ → Option Merge
unfolding last_below merge_of
next v s n = last_below (merge_of v s) n

-- "The merged cluster keeps the smaller name. Each leaf j > i gives it the smallest label j has not used;
-- others go on calling it by the label they had."
unfoldable pub merge : State → Merge → State
unfolding smallest_unused
merge s m = record {
  names = λ c. not (eqb c m.1) && s.names c;
  label = λ j c. cond (ltb m.1 j && eqb c m.0) (smallest_unused (s.used j)) (s.label j c);
  used = λ j. cond (ltb m.1 j) (smallest_unused (s.used j) ∷ s.used j) (s.used j);
}

-- a merge, if there is one, and what follows it
unfoldable pub follow : Option Merge → (Merge → List Merge) → List Merge
follow none rest = []
follow (some m) rest = m ∷ rest m

-- the merges of k steps of n leaves, from a state
unfoldable pub steps : (ℕ → ℕ) → ℕ → ℕ → State → List Merge
unfolding next merge follow
steps v n zero s = []
steps v n (suc k) s = follow (next v s n) (λ m. steps v n k (merge s m))

-- "After n-1 steps one cluster is left": the merges of a vector, in their order
unfoldable pub merges : List ℕ → List Merge
unfolding steps start entry
merges v = steps (entry v) (length v) (length v - 1) (start (length v))
