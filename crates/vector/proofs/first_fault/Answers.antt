-- `first_fault` meets its contract: before entry i the loop has met no entry above its bound.
use native.Mathlib.Omega.{arith}
use Rattle.vector.specs.Fault.{none_numbered, some_numbered, passed_start, passed_next, passed_here, passed_end, first_above, empty_fault, all_within}
use Rattle.vector.proofs.first_fault.Goals as goal

pub returns-then-n-eq0 : goal.returns-then-n-eq0
returns-then-n-eq0 c =
    let e = empty_fault c.args.v.now (omega arith) in
    record { fault = e; number = none_numbered c.args.v.now e }

pub returns-then-v-gt0 : goal.returns-then-v-gt0
returns-then-v-gt0 c =
    let e = first_above c.args.v.now (omega arith) (omega arith) in
    record { fault = e; number = some_numbered c.args.v.now 0 e }

pub returns-then-faults_behind_first-eq0 : goal.returns-then-faults_behind_first-eq0
returns-then-faults_behind_first-eq0 c =
    let e = all_within c.args.v.now (omega arith) (c.faults_behind_first.ensures (omega arith)) in
    record { fault = e; number = none_numbered c.args.v.now e }

pub loop-i-init : goal.loop-i-init
loop-i-init c = passed_start c.args.v.now (omega arith) (omega arith)

pub returns-then-i-from : goal.returns-then-i-from
returns-then-i-from c =
    let e = passed_here c.loop-i.invariant c.loop-i-test.true (omega arith) in
    record { fault = e; number = some_numbered c.args.v.now c.loop-i.i e }

pub loop-i-preserved : goal.loop-i-preserved
loop-i-preserved c = passed_next c.loop-i.invariant c.loop-i-test.true (omega arith)

pub returns : goal.returns
returns c = let e = passed_end c.loop-i.invariant (omega arith) in record { fault = e; number = none_numbered c.args.v.now e }
