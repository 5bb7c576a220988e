-- What comes back, in the paper's numbers, and what a call makes of its input. Promise says how the two hang together.
-- Main definitions: Outcome, number_of, reads, Making, Made.
use Rattle.std.specs.Prelude.{List, ℕ}
use Rattle.rules.specs.declared.Kind.{Kind}
use Rattle.rules.specs.declared.Kind.TheVariants.{LeafCount, InputLength, Room, Entry, Parent, Child, NamedBefore, Grammar, StrayLabel, Padding, Permutation, TreeNumber, DoubleLabel, CladeLeaves, CladeRoom, TreeCount}
use Rattle.rules.specs.declared.Answer.{Answer}
use Rattle.rules.specs.declared.Answer.TheVariants.{Done, Refused}

-- "Every answer is one record: done with the number of elements written .. or refused with a kind and a place."
pub data Outcome : Type 0 where
  done : ℕ → Outcome
  refused : ℕ → ℕ → Outcome

-- the number of each kind in the table of refusals
unfoldable pub number_of : Kind → ℕ
number_of LeafCount = 1
number_of InputLength = 2
number_of Room = 3
number_of Entry = 4
number_of Parent = 5
number_of Child = 6
number_of NamedBefore = 7
number_of Grammar = 8
number_of StrayLabel = 9
number_of Padding = 10
number_of Permutation = 11
number_of TreeNumber = 12
number_of DoubleLabel = 13
number_of CladeLeaves = 14
number_of CladeRoom = 15
number_of TreeCount = 21

-- the outcome that an answer stands for
unfoldable pub reads : Answer → Outcome
unfolding number_of
reads (Done k) = done k
reads (Refused r) = refused (number_of r.kind) r.place

-- What a call makes of its input before room is looked at: what goes into the lent buffers, or a refusal's number and place.
pub data Making (Written : Type 0) : Type 0 where
  made : Written → Making Written
  refuses : ℕ → ℕ → Making Written

-- most calls write one list of numbers
abbrev pub Made : Type 0
Made = Making (List ℕ)
