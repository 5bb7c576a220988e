-- `write_text` meets its contract: there is room for the text of a valid vector, so the call is done.
use Rattle.std.proofs.Common.{arith, refl}
use Rattle.listing_line.specs.Longest.{text_at_most}
use Rattle.listing_line.proofs.Text.{text_not_refused, text_count, text_written}
use Rattle.listing_line.proofs.write_text.Goals as goal

pub returns-in_default : goal.returns-in_default
returns-in_default c =
    let p = c.requires in
    absurd (text_not_refused _ p.0.valid p.0.few c.args.out.now c.args.at p.1 c.to_newick.ensures c.in_default.is)

pub overflow_add-result : goal.overflow_add-result
overflow_add-result c =
    let p = c.requires in
    let count = text_count _ p.0.valid p.0.few c.args.out.now c.args.at p.1 c.in-Done.ensures refl in
    omega (arith, text_at_most c.args.v.now p.0.valid p.0.few)

pub returns : goal.returns
returns c =
    let p = c.requires in
    text_written _ p.0.valid p.0.few c.args.out.now c.args.at p.1 c.in-Done.ensures refl
