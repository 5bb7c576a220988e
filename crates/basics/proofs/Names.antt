-- The search for the first name at fault, step by step. Main results: name_fine, name_large, name_used; first_fine, first_wrong, first_step;
-- value_fine, value_wrong, value_step.
use Rattle.std.specs.Prelude.{Bool, not, ◌||◌, List, ◌∷◌, ◌≡◌, ℕ, ◌+◌, ◌≤◌, ◌<◌, ltb}
use Rattle.std.proofs.Math.Bool.{true, false, cond}
use Rattle.std.proofs.Math.Option.{Option, none, some}
use Rattle.std.proofs.Math.Path.{refl, ap}
use Rattle.std.proofs.Common.{◌∙◌, lt-ltb, le-ltb}
use Rattle.rules.specs.Building.{member}
use Rattle.rules.specs.Names.{NameFault, not_below, used_before, name_fault, Placed, PlacedFault, fault_or, first_fault, fault_place}
use Rattle.rules.specs.Shuffle.{placed_from, permutation_fault}
use Rattle.basics.specs.Names.{fault_of}

-- what is wrong with a name, by cases
pub name_large : (n : ℕ) (used : List ℕ) (x : ℕ) → n ≤ x → name_fault n used x ≡ some not_below
unfolding name_fault
name_large n used x h = rw (le-ltb x n h)

pub name_used : (n : ℕ) (used : List ℕ) (x : ℕ) → x < n → member x used ≡ true → name_fault n used x ≡ some used_before
unfolding name_fault
name_used n used x h e = rw (lt-ltb x n h, e)

pub name_fine : (n : ℕ) (used : List ℕ) (x : ℕ) → x < n → member x used ≡ false → name_fault n used x ≡ none
unfolding name_fault
name_fine n used x h e = rw (lt-ltb x n h, e)

pub fault_large : (n x : ℕ) → n ≤ x → fault_of n x ≡ not_below
unfolding fault_of
fault_large n x h = rw (le-ltb x n h)

pub fault_small : (n x : ℕ) → x < n → fault_of n x ≡ used_before
unfolding fault_of
fault_small n x h = rw (lt-ltb x n h)

-- one step of the search: the first name has no fault, or is the one at fault
module _ (n : ℕ) (used : List ℕ) (l : Placed) (ls : List Placed) where
  pub first_fine : name_fault n used l.1 ≡ none → first_fault n used (l ∷ ls) ≡ first_fault n (l.1 ∷ used) ls
  unfolding first_fault
  first_fine e = rw e

  pub first_wrong : (wrong : NameFault) → name_fault n used l.1 ≡ some wrong → first_fault n used (l ∷ ls) ≡ some (wrong, l.0)
  unfolding first_fault
  first_wrong wrong e = rw e

  -- as one test
  pub first_step : first_fault n used (l ∷ ls)
      ≡ cond (not (ltb l.1 n) || member l.1 used) (some (fault_of n l.1, l.0)) (first_fault n (l.1 ∷ used) ls)
  unfolding first_fault fault_of
  first_step = go (ltb l.1 n) (member l.1 used)
    where
      go : (a b : Bool) → fault_or l.0 (cond a (cond b (some used_before) none) (some not_below)) (first_fault n (l.1 ∷ used) ls)
          ≡ cond (not a || b) (some (cond a used_before not_below, l.0)) (first_fault n (l.1 ∷ used) ls)
      go true true = refl
      go true false = refl
      go false b = refl

-- the same of the values of a permutation, by their places alone
module _ (n i : ℕ) (used : List ℕ) (x : ℕ) (p : List ℕ) where
  pub value_fine : name_fault n used x ≡ none → permutation_fault n i used (x ∷ p) ≡ permutation_fault n (i + 1) (x ∷ used) p
  unfolding permutation_fault
  value_fine e = ap fault_place (first_fine n used (i, x) (placed_from (i + 1) p) e)

  pub value_wrong : (wrong : NameFault) → name_fault n used x ≡ some wrong → permutation_fault n i used (x ∷ p) ≡ some i
  unfolding permutation_fault
  value_wrong wrong e = ap fault_place (first_wrong n used (i, x) (placed_from (i + 1) p) wrong e)

  pub value_step : permutation_fault n i used (x ∷ p) ≡ cond (not (ltb x n) || member x used) (some i) (permutation_fault n (i + 1) (x ∷ used) p)
  unfolding permutation_fault
  value_step =
      ap fault_place (first_step n used (i, x) (placed_from (i + 1) p))
      ∙ go (not (ltb x n) || member x used) (first_fault n (x ∷ used) (placed_from (i + 1) p))
    where
      go : (b : Bool) (behind : Option PlacedFault) → fault_place (cond b (some (fault_of n x, i)) behind) ≡ cond b (some i) (fault_place behind)
      go true behind = refl
      go false behind = refl
