-- `words::low_bits` meets its contract: the mask leaves the low bits (`masked`).
use Rattle.words.proofs.Masking.{masked}
use Rattle.words.proofs.low_bits.Goals as goal

pub returns : goal.returns
returns c = masked c.args.width c.args.word c.requires
