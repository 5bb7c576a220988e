-- Demand 1: "Every input gets a finished answer; a refusal carries its number and place from the table, and every lent buffer then holds
-- what it held." Law has the proofs, for any call; here are the statements, for all public calls.
-- Main definitions: InputRefused, wanted, Right, RefusedWith. Main results: every_input_answered, refused_exactly, done_exactly, room_exactly,
-- one_refusal, refusal_writes_nothing, promise_unique, done_or_refused.
use Rattle.std.specs.Prelude.{◌⊎◌, ◌↔◌, ◌≡◌, refl, ℕ, ◌≤◌, ◌<◌}
use Rattle.std.proofs.Common.{inl, inr}
use Rattle.rules.specs.declared.Answer.{Answer}
use Rattle.rules.specs.declared.Answer.TheVariants.{Done, Refused}
use Rattle.rules.specs.Answer.{done, refused, number_of, reads}
use Rattle.demands.proofs.Law as law
use Rattle.demands.specs.Law.{Accepted}
use Rattle.demands.proofs.Law.{OneAnswer}
use Rattle.demands.specs.Calls.{Public}
use Rattle.demands.proofs.Calls.{the}
use Rattle.demands.proofs.Keeping.{Lent, Kept}

-- a refusal of a call's input, with its number and its place, before room is looked at: each call's table stands in its file Law*
abbrev pub InputRefused : Public → ℕ → ℕ → Type 0
InputRefused c = (the c).Wrong

-- the number of elements that a call writes into each lent buffer: "0 for check, n per buffer for shuffle"
abbrev pub wanted : Public → ℕ
wanted c = (the c).wanted

-- the room of the lent buffers: of two the lesser counts
abbrev pub room : (c : Public) → Lent c → ℕ
room c = (the c).call.buffers.room

-- the number of the refusal for too little room
abbrev pub short : Public → ℕ
short c = (the c).call.short

-- nothing is wrong with a call's input
abbrev pub Right : Public → Type 0
Right c = Accepted (InputRefused c)

-- when a call refuses with a number and a place: one of its input, and last "an output has too few elements", with "elements needed"
abbrev pub RefusedWith : (c : Public) → Lent c → ℕ → ℕ → Type 0
RefusedWith c old number place = InputRefused c number place ⊎ ((number ≡ short c) × (place ≡ wanted c) × (room c old < wanted c) × Right c)

-- "Every input gets a finished answer": for every input and all lent buffers there is one answer, and one thing that the buffers then hold,
-- that meet the promise
pub every_input_answered : (c : Public) (old : Lent c) → OneAnswer (the c).call (the c).Wrong (the c).wanted (the c).law old
every_input_answered c = law.every_input_answered (the c).call (the c).Wrong (the c).wanted (the c).law

-- it is done, or refused
pub done_or_refused : (a : Answer) → ((count : ℕ) × (reads a ≡ done count)) ⊎ ((number : ℕ) × (place : ℕ) × (reads a ≡ refused number place))
unfolding reads
done_or_refused (Done k) = inl (k, refl)
done_or_refused (Refused r) = inr (number_of r.kind, r.place, refl)

-- "a refusal carries its number and place from the table": it is given exactly when its condition holds
pub refused_exactly : (c : Public) (old : Lent c) (a : Answer) (new : Lent c) → Kept c old a new
    → (number place : ℕ) → (reads a ≡ refused number place) ↔ RefusedWith c old number place
refused_exactly c = law.refused_exactly (the c).call (the c).Wrong (the c).wanted (the c).law

-- a call is done exactly when nothing is wrong with its input and there is room, and it says how many elements it wrote
pub done_exactly : (c : Public) (old : Lent c) (a : Answer) (new : Lent c) → Kept c old a new
    → (count : ℕ) → (reads a ≡ done count) ↔ (Right c × (count ≡ wanted c) × (wanted c ≤ room c old))
done_exactly c = law.done_exactly (the c).call (the c).Wrong (the c).wanted (the c).law

-- the refusal for room is given exactly when nothing is wrong with the input and an output has too few elements
pub room_exactly : (c : Public) (old : Lent c) (a : Answer) (new : Lent c) → Kept c old a new
    → (place : ℕ) → (reads a ≡ refused (short c) place) ↔ ((place ≡ wanted c) × (room c old < wanted c) × Right c)
room_exactly c = law.room_exactly (the c).call (the c).Wrong (the c).wanted (the c).law

-- of the conditions of a call's refusals one holds at most, with one place: 01's order is settled
pub one_refusal : (c : Public) (k p l q : ℕ) → InputRefused c k p → InputRefused c l q → (k ≡ l) × (p ≡ q)
one_refusal c = law.one_refusal (the c).call (the c).Wrong (the c).wanted (the c).law

-- "every lent buffer then holds what it held"
pub refusal_writes_nothing : (c : Public) (old : Lent c) (a : Answer) (new : Lent c) → Kept c old a new
    → (number place : ℕ) → reads a ≡ refused number place → new ≡ old
refusal_writes_nothing c = law.refusal_writes_nothing (the c).call (the c).Wrong (the c).wanted (the c).law

-- "That two results satisfying it are equal is itself proved"
pub promise_unique : (c : Public) (old : Lent c) (a b : Answer) (new new' : Lent c) → Kept c old a new → Kept c old b new' → (a ≡ b) × (new ≡ new')
promise_unique c = law.promise_unique (the c).call (the c).Wrong (the c).wanted (the c).law
