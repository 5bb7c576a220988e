-- `renamed_vector` meets its contract: the vector is built in a local array and copied out.
use native.Mathlib.Omega.{arith}
use Rattle.renaming.specs.VectorRows.{rows_of, renamed_front}
use Rattle.renaming.proofs.renamed_vector.Goals as goal

pub rename_rows-requires : goal.rename_rows-requires
rename_rows-requires c = let P = c.requires in
    let E = c.rows_of.ensures in
    let kept = c.rows_of.auto in record { rows_of = (rows_of _ _ _ _ _ P.vector.0.valid (omega arith) (omega arith) P.vector.0.few E.left_after E.right_after, P.vector.0.few, omega (arith, P.vector.0.few)); p_len = P.p_len }

pub returns : goal.returns
returns c = let P = c.requires in
    rw (renamed_front _ _ _ _ P.vector.0.valid P.p_len.0 P.p_len.1 c.rename_rows.ensures) at c.copy.ensures
