-- `shuffled` meets its contract: new labels and vector are built in local arrays and copied out.
use native.Mathlib.Omega.{arith}
use Rattle.renaming.specs.VectorRows.{RowsOf, rows_of}
use Rattle.shuffling.specs.NewLabels.{NewLabels, rows_tabled, new_labels, labels_copied, vector_copied}
use Rattle.shuffling.proofs.shuffled.Goals as goal

pub shuffle-requires : goal.shuffle-requires
shuffle-requires c =
    let rows : RowsOf c.args.v.now c.rows_of.new.left c.rows_of.new.right =
    rows_of _ _ _ _ _ c.requires.0.valid (omega arith) (omega arith) c.requires.0.few c.rows_of.ensures.left_after c.rows_of.ensures.right_after in
    let P = c.requires in
    (record { small = P.0.few; lefts = rows.lefts; rights = rows.rights }, rows_tabled rows)

pub rename_rows-requires : goal.rename_rows-requires
rename_rows-requires c =
    let rows : RowsOf c.args.v.now c.rows_of.new.left c.rows_of.new.right =
    rows_of _ _ _ _ _ c.requires.0.valid (omega arith) (omega arith) c.requires.0.few c.rows_of.ensures.left_after c.rows_of.ensures.right_after in
    let labels : NewLabels c.args.v.now c.shuffle.new.self.given =
    new_labels _ _ rows c.shuffle.ensures in
    let P = c.requires in
    let N = labels in record { rows_of = (rows, P.0.few, omega (arith, P.0.few)); p_len = (N.count, N.no_fault) }

pub returns : goal.returns
returns c =
    let rows : RowsOf c.args.v.now c.rows_of.new.left c.rows_of.new.right =
    rows_of _ _ _ _ _ c.requires.0.valid (omega arith) (omega arith) c.requires.0.few c.rows_of.ensures.left_after c.rows_of.ensures.right_after in
    let labels : NewLabels c.args.v.now c.shuffle.new.self.given =
    new_labels _ _ rows c.shuffle.ensures in
    let N = labels in record { after = labels_copied _ N c.copy.ensures; vector_after = vector_copied _ _ rows.valid N c.rename_rows.ensures c.copy-2.ensures }
