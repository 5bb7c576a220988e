-- For every vector an input of each call that is done, and what a library that keeps its promises answers to it.
-- Main results: asks_call, asked_done.
use Rattle.std.specs.Prelude.{List, ◌≡◌, ℕ, replicate}
use Rattle.std.proofs.Math.Path.{ap}
use Rattle.std.proofs.Common.{arith}
use Rattle.std.proofs.Math.ListN.{length-replicate}
use Rattle.rules.specs.declared.Answer.TheVariants.{Done}
use Rattle.rules.specs.Answer.{reads}
use Rattle.accepting.proofs.Answers.{reads_unique}
use Rattle.demands.specs.Calls.{Name}
use Rattle.demands.specs.Calls.{Public}
use Rattle.demands.proofs.Calls.{the}
use Rattle.demands.proofs.Keeping.{Lent}
use Rattle.demands.proofs.DemandTwo.{writes}
use Rattle.demands.specs.EachCall.{Try}
use Rattle.demands.proofs.EachCall.{buffer_of, counts, Library, KeepsAll, Asked, asked}

module _ (k : Name) (t : Try) where
  -- the call is asked with it
  abbrev A : Asked k
  A = asked k t.0 t.1 (λ e. t.2)

  abbrev pub asks : Public
  asks = A.input

  pub asks_call : (the asks).name ≡ k
  asks_call = A.called

  -- how many elements the call writes
  abbrev pub counted : ℕ
  counted = counts asks A.gives

  -- buffers of that many elements are lent, each 7
  abbrev pub lent : Lent asks
  lent = (the asks).shape.lend (replicate counted 7)

  -- what buffer j holds before and after
  abbrev pub before : ℕ → List ℕ
  before j = buffer_of j asks lent

  abbrev pub after : ℕ → List ℕ
  after j = buffer_of j asks ((the asks).call.buffers.write A.gives lent)

  -- a library that keeps its promises is done there, and leaves that
  pub asked_done : (library : Library) → KeepsAll library → ((library asks lent).0 ≡ Done counted) × ((j : ℕ) → buffer_of j asks (library asks lent).1 ≡ after j)
  unfolding reads
  asked_done library keeps =
      let e = writes asks A.gives A.makes lent (library asks lent).1 (library asks lent).0 (keeps asks lent)
      ((the asks).shape.fits A.gives (replicate counted 7) (omega (arith, length-replicate {A = ℕ} counted 7))) in
      (reads_unique (library asks lent).0 (Done counted) e.0, λ j. ap (buffer_of j asks) e.1)
