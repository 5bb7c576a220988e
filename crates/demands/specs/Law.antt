-- Demand 1 for any call: what follows once it is known when the call refuses. One proof for all calls. Main definitions: Settled, Lawful.
use Rattle.std.specs.Prelude.{◌≢◌, ◌⊎◌, ◌≡◌, ℕ}
use Rattle.rules.specs.declared.Kind.{Kind}
use Rattle.rules.specs.Answer.{number_of, Making, made, refuses}
use Rattle.rules.specs.Promise.{Call}

-- nothing is wrong with the input
abbrev pub Accepted : (ℕ → ℕ → Type 0) → Type 0
Accepted Refusal = (k p : ℕ) → Refusal k p → ⊥

-- the number of a kind of refusal, and not that for room, which is looked at last
abbrev pub OfInput : ℕ → ℕ → Type 0
OfInput short k = (x : Kind) × (number_of x ≡ k) × (k ≢ short)

-- where a condition holds the call refuses so, and where none holds it makes as many elements as are wanted
pub record Settled {W : Type 0} (count : W → ℕ) (short : ℕ) (Refusal : ℕ → ℕ → Type 0) (wanted : ℕ) (m : Making W) : Type 0 where
  pub of_input : (k p : ℕ) → Refusal k p → OfInput short k
  pub given : (k p : ℕ) → Refusal k p → m ≡ refuses k p
  pub total : ((k : ℕ) × (p : ℕ) × Refusal k p) ⊎ ((x : W) × (m ≡ made x) × (count x ≡ wanted))

-- Wrong says when a call refuses its input, with which number and place; wanted, how many elements it writes. What it makes is one thing, and
-- settled by these.
pub record Lawful {L W : Type 0} (c : Call L W) (Wrong : ℕ → ℕ → Type 0) (wanted : ℕ) : Type 0 where
  pub total : (m : Making W) × c.Makes m
  pub only : (m n : Making W) → c.Makes m → c.Makes n → m ≡ n
  pub settled : (m : Making W) → c.Makes m → Settled c.buffers.count c.short Wrong wanted m
  pub room_kind : (x : Kind) × (number_of x ≡ c.short)
