-- `bytes_wanted` meets its contract: each of its ends is a case of the definition.
use Rattle.std.proofs.Common.{sym, ◌∙◌, arith}
use Rattle.holding.proofs.Wanted.{wanted_begun, wanted_no_leaf, wanted_many_leaves, wanted_record}
use Rattle.holding.proofs.bytes_wanted.Goals as goal

pub returns-then-s-lt2 : goal.returns-then-s-lt2
returns-then-s-lt2 c = sym (wanted_begun _ c.if-s-lt2.true)

pub returns-then-leaves-eq0 : goal.returns-then-leaves-eq0
returns-then-leaves-eq0 c = sym (wanted_no_leaf _ _ c.if-s-lt2.false c.leaf_count-leaves.ensures c.if-leaves-eq0.true)

pub returns-then-leaves-gt1024 : goal.returns-then-leaves-gt1024
returns-then-leaves-gt1024 c = sym (wanted_many_leaves _ _ c.if-s-lt2.false c.leaf_count-leaves.ensures c.if-leaves-gt1024.true)

pub returns : goal.returns
returns c =
    c.record_length.ensures
    ∙ sym (wanted_record _ _ c.if-s-lt2.false c.leaf_count-leaves.ensures (omega (arith, c.if-leaves-eq0.false)) c.if-leaves-gt1024.false)
