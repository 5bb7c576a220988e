-- `read_record` meets its contract: two bytes are read, and then those that they want.
use Rattle.std.proofs.Common.{◌≤◌, ◌++◌, length, drop, arith}
use Rattle.std.proofs.Math.Seq.{length-take-le, length_front}
use Rattle.listing.proofs.TwoReads.{all_counted}
use Rattle.listing.proofs.read_record.Goals as goal

pub returns : goal.returns
returns c =
    let held = c.args.held.now in
    let two = c.read_full-got.new.buf in
    let few : c.read_full-got.result ≤ 2 = omega (arith, length-take-le 2 held (omega arith)) in
    let enough : 1280 ≤ length (two ++ drop 2 held) = omega (arith, length_front held two 2 c.read_full-got.auto.buf) in
    all_counted (two ++ drop 2 held) enough few c.bytes_wanted-wanted.ensures c.read_full.new.buf _ c.if-wanted-eq2.false c.read_full.ensures.0 c.read_full.auto.buf
