use native.Mathlib.Omega.{arith}
use mathlib.Core.Path.{sym}
use Rattle.grammar.proofs.Length.{text_length_most}
use Rattle.tree_text.specs.OrderedRows.{lefts, rights}
use Rattle.tree_text.specs.Fits.{text_fits, text_end, text_there}
use Rattle.tree_text.proofs.write_tree.Goals as goal

pub write_text-count-requires : goal.write_text-count-requires
write_text-count-requires c = (lefts c.args.v.now, rights c.args.v.now, text_fits c.args.v.now c.requires.0.valid c.requires.0.few _ c.tree_words.ensures)

pub slice_bounds-copy-end : goal.slice_bounds-copy-end
slice_bounds-copy-end c = sym (c.write_text-count.ensures _ _ (text_fits c.args.v.now c.requires.0.valid c.requires.0.few _ c.tree_words.ensures)).whole

pub copy-requires : goal.copy-requires
copy-requires c = let S = c.write_text-count.ensures _ _ (text_fits c.args.v.now c.requires.0.valid c.requires.0.few _ c.tree_words.ensures) in
    let e = text_end c.args.v.now c.requires.0.valid c.requires.0.few _ _ _ S in
    (omega (arith, e, S.whole, text_length_most _ c.requires.0.few), omega (arith, e, c.requires.1))

pub returns : goal.returns
returns c = let S = c.write_text-count.ensures _ _ (text_fits c.args.v.now c.requires.0.valid c.requires.0.few _ c.tree_words.ensures) in
    text_there c.args.v.now c.requires.0.valid c.requires.0.few _ _ _ S _ _ c.copy.ensures
