-- `renaming::rename_rows` meets its contract: the renamed rows are rows of the renamed tree, and the vector is made from them.
use Rattle.renaming.specs.Renames.{renamed_part}
use native.Mathlib.Omega.{arith}
use Rattle.renaming.specs.VectorRows.{rows_renamed, some_renamed}
use Rattle.renaming.proofs.rename_rows.Goals as goal

pub children_vector-requires : goal.children_vector-requires
children_vector-requires c =
    let P = c.requires.rows_of in
    let l = c.requires.p_len.0 in
    let both = rows_renamed c.args.p.now _ _ P.0 l c.requires.p_len.1 (renamed_part _ _ _ _ l c.rename.ensures) (renamed_part _ _ _ _ l c.rename-2.ensures) in
    record { le_n = (P.0.valid.some_leaf, P.1, omega (arith, c.rename.auto, P.0.lefts), omega (arith, c.rename-2.auto, P.0.rights), P.2); children = some_renamed both }

pub returns : goal.returns
returns c =
    let P = c.requires.rows_of in
    let l = c.requires.p_len.0 in
    let both = rows_renamed c.args.p.now _ _ P.0 l c.requires.p_len.1 (renamed_part _ _ _ _ l c.rename.ensures) (renamed_part _ _ _ _ l c.rename-2.ensures) in
    rw both.tree at (c.children_vector.ensures _ both.rows)
