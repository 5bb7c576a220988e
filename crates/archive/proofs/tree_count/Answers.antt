-- `archive::tree_count` meets its contract: the low 21 bits of the header's word (`trees_word`).
use mathlib.Core.Path.{ap, ◌∙◌}
use Prim.Native.Nat.{ℕ, ◌%◌}
use Rattle.archive.proofs.Header.{trees_word}
use Rattle.archive.proofs.tree_count.Goals as goal

pub returns : goal.returns
returns c = ap (λ (x : ℕ). x % 2097152) c.four_at.ensures ∙ trees_word c.args.s.now (λ i. (c.type_inv.s i).fits) c.requires
