-- `add_tree` meets its contract: the leaf sets of the vector that is read are added.
use Rattle.tree_reading.specs.Gives.{bare_filled}
use Rattle.clade_pass.specs.Tree.{not_read, read_vector, tree_added}
use Rattle.std.proofs.lemmas.Result.{err_from_is_err_and}
use native.Mathlib.Omega.{arith}
use Rattle.clade_pass.proofs.add_tree.Goals as goal

pub read_entries-requires : goal.read_entries-requires
read_entries-requires c = let p = c.requires.le_n in (bare_filled c.args.bytes.now c.args.n p.0 (omega (arith, p.1)) p.2, omega (arith, p.1))

pub returns-in_err-read_entries : goal.returns-in_err-read_entries
returns-in_err-read_entries c = let p = c.requires.le_n in
    let e = err_from_is_err_and c.from_residual.result c.from_residual.ensures.1 in
    rw e.1 (not_read c.args.bytes.now p.0 p.1 p.2 c.read_entries.new.vector _ c.in_err-read_entries.ensures)

pub sets_of-requires-clause-vector : goal.sets_of-requires-clause-vector
sets_of-requires-clause-vector c = let p = c.requires.le_n in
    let v = read_vector c.args.bytes.now p.0 p.1 p.2 _ c.in_ok-read_entries.ensures in
    (v.0, omega (arith, v.1, p.1), omega arith, p.3)

pub returns : goal.returns
returns c = let p = c.requires.le_n in
    tree_added c.args.bytes.now p.0 p.1 p.2 _ c.in_ok-read_entries.ensures c.args.bound c.args.batch.now.words c.add_all.new.self.words c.sets_of.new.sets
    c.sets_of.ensures c.add_all.ensures
