use Rattle.std.proofs.Common.{arith, rules, length-drop}
use Rattle.text_vector.specs.Kept.{kept_children, kept_vector}
use Rattle.text_vector.proofs.pairs_vector.Goals as goal

pub children_vector-requires : goal.children_vector-requires
children_vector-requires c =
    let P = c.requires in
    let L = c.children.ensures in
    record {
      le_n = (P.le_n.0, P.le_n.1, search rules, search rules, P.le_n.2);
      children = (_, kept_children _ _ _ _ _ _ _ P.table_of.1 (omega (arith, length-drop 1040 c.args.m.now, P.le_n.1, c.told-m)) L.left_after L.right_after);
    }

pub returns : goal.returns
returns c = λ t T.
    let P = c.requires in
    let L = c.children.ensures in
    kept_vector _ _ _ _ _ _ t T (omega (arith, length-drop 1040 c.args.m.now, P.le_n.1, c.told-m)) L.left_after L.right_after _ _ c.children_vector.ensures
