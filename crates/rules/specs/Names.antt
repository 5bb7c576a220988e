-- What is wrong with a name among names 0 to n-1, each of which may stand once: "not below n, or used before".
-- Main definitions: NameFault, name_fault, Placed, first_fault, fault_place.
use Rattle.std.specs.Prelude.{cond, List, [], ◌∷◌, ℕ, ltb}
use Rattle.std.proofs.Math.Option.{Option, none, some}
use Rattle.rules.specs.Building.{member}

-- "not below n", "used before"
pub data NameFault : Type 0 where
  not_below : NameFault
  used_before : NameFault

-- what is wrong with a name, behind the names used before it; "9 before 13 at the same label": not below n counts first
unfoldable pub name_fault : ℕ → List ℕ → ℕ → Option NameFault
unfolding member
name_fault n used x = cond (ltb x n) (cond (member x used) (some used_before) none) (some not_below)

-- A name with its place: the place, then the name.
abbrev pub Placed : Type 0
Placed = ℕ × ℕ

-- A fault: what is wrong, and the place.
abbrev pub PlacedFault : Type 0
PlacedFault = NameFault × ℕ

-- what is wrong at a place, or else the fault behind it
unfoldable pub fault_or : ℕ → Option NameFault → Option PlacedFault → Option PlacedFault
fault_or place none behind = behind
fault_or place (some wrong) behind = some (wrong, place)

-- the first fault of names, behind the names used before them
unfoldable pub first_fault : ℕ → List ℕ → List Placed → Option PlacedFault
unfolding name_fault fault_or
first_fault n used [] = none
first_fault n used (l ∷ ls) = fault_or l.0 (name_fault n used l.1) (first_fault n (l.1 ∷ used) ls)

-- its place
unfoldable pub fault_place : Option PlacedFault → Option ℕ
fault_place none = none
fault_place (some fault) = some fault.1
