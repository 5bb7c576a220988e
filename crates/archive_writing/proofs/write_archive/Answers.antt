-- `archive_writing::write_archive` meets its contract: the header, and then the records one by one.
use native.Mathlib.Omega.{arith}
use native.Mathlib.Nat.{zero-mul, suc-mul}
use mathlib.Core.Path.{◌≡◌}
use Prim.Native.Nat.{ℕ, ◌+◌, ◌-◌, ◌*◌}
use native.Mathlib.Numerals.{add-one}
use Rattle.archive_writing.specs.Writing.{writes_header, tree_inside, all_trees, wrote_start, wrote_end, wrote_ready, wrote_next}
use Rattle.archive_writing.proofs.write_archive.Goals as goal

-- one tree more
next : (t k : ℕ) → (t + 1) * k ≡ t * k + k
next t k = rw add-one (suc-mul t k)

pub write_header-requires : goal.write_header-requires
write_header-requires c = writes_header c.requires

pub loop-t-init : goal.loop-t-init
loop-t-init c = rw (zero-mul c.args.n, zero-mul c.args.bytes) (wrote_start c.args.out.now c.requires c.write_header.ensures)

pub pack_bare-requires : goal.pack_bare-requires
pack_bare-requires c =
    let a = c.args in
    let t = c.loop-t.t in
    wrote_ready c.loop-t.invariant (tree_inside t c.requires c.loop-t-test.true) (t * a.n + a.n - t * a.n)
    (4 + t * a.bytes + a.bytes - (4 + t * a.bytes)) (omega arith) (omega arith)

pub loop-t-preserved : goal.loop-t-preserved
loop-t-preserved c =
    let a = c.args in
    let t = c.loop-t.t in
    let e : 4 + (t + 1) * a.bytes ≡ 4 + t * a.bytes + a.bytes = omega (arith, next t a.bytes) in
    rw (next t a.n, e)
    (wrote_next c.loop-t.invariant (tree_inside t c.requires c.loop-t-test.true) (t * a.n + a.n - t * a.n)
    (4 + t * a.bytes + a.bytes - (4 + t * a.bytes)) (omega arith) (omega arith) _ c.pack_bare.ensures)

pub returns : goal.returns
returns c = wrote_end c.args.out.now c.loop-t.invariant c.write_header.ensures (all_trees c.loop-t.t c.requires c.loop-t-test.false)
