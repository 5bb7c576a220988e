-- `archive_faults::first_fault_in` meets its contract: the vectors are searched one by one.
use native.Mathlib.Omega.{arith}
use mathlib.Core.Path.{◌≡◌}
use mathlib.Core.List.{List}
use mathlib.Core.Option.{Option}
use Prim.Native.Nat.{ℕ, ◌+◌, ◌-◌}
use lib.ListN.{take, drop}
use Rattle.rules.specs.Vector.{fault}
use Rattle.archive_faults.specs.FaultIn.{none_numbered, some_numbered, searched_end, searched_next, searched_here}
use Rattle.archive_faults.proofs.first_fault_in.Goals as goal

-- the fault of the vector at an index
fault_here : (n at : ℕ) (xs : List ℕ) {o : Option ℕ} → fault 0 (take (at + n - at) (drop at xs)) ≡ o → fault 0 (take n (drop at xs)) ≡ o
fault_here n at xs h = let e : at + n - at ≡ n = omega arith in rw e at h

pub overflow_add-result : goal.overflow_add-result
overflow_add-result c = omega (arith, (searched_here c.loop-at.invariant c.loop-at-test.true (fault_here c.args.n c.loop-at.at c.args.entries.now c.in-Some.ensures.fault)).0)

pub returns-in-Some : goal.returns-in-Some
returns-in-Some c =
    let e = (searched_here c.loop-at.invariant c.loop-at-test.true (fault_here c.args.n c.loop-at.at c.args.entries.now c.in-Some.ensures.fault)).1 in
    record { fault = e; number = some_numbered c.args.n c.args.entries.now _ e }

pub loop-at-preserved : goal.loop-at-preserved
loop-at-preserved c = searched_next c.loop-at.invariant c.loop-at-test.true (fault_here c.args.n c.loop-at.at c.args.entries.now c.in_default.ensures.fault)

pub returns : goal.returns
returns c =
    let e = searched_end c.loop-at.invariant c.loop-at-test.false in
    record { fault = e; number = none_numbered c.args.n c.args.entries.now e }

pub returns-in_default : goal.returns-in_default
returns-in_default c =
    let S = searched_next c.loop-at.invariant c.loop-at-test.true (fault_here c.args.n c.loop-at.at c.args.entries.now c.in_default.ensures.fault) in
    let e = searched_end S (omega arith) in
    record { fault = e; number = none_numbered c.args.n c.args.entries.now e }
