-- n and the tree count, put one behind the other, are the header.
-- Main results: header_long, header_put.
use mathlib.Core.Path.{◌≡◌, sym, ap, ◌∙◌}
use mathlib.Core.List.{List, [], ◌++◌}
use Prim.Native.Nat.{ℕ, ◌/◌}
use native.Mathlib.Omega.{arith}
use lib.ListN.{length, take, replicate}
use lib.Seq.{take-take}
use Rattle.rules.specs.Record.{field}
use Rattle.rules.specs.Archive.{header}
use Rattle.record_laws.proofs.Bytes.{bytes_take}
use Rattle.std.specs.Borrow.{MutBor}
use Rattle.bit_writer.specs.Pending.{Held, Begun, Put, held_nothing}
use Rattle.bit_writer.specs.declared.Writer.{Writer}

module _ {out : MutBor (List ℕ)} {z p q : Writer} (n count : ℕ) (begun : Begun out z) (zeros : out.now ≡ replicate 9 0) (leaves : Put z 11 n p) (trees : Put p 21 count q) where
  pub header_long : length q.out.now ≡ 9
  header_long = trees.long ∙ leaves.long ∙ ap length (begun.now ∙ zeros)

  pub header_put : take 4 q.out.now ≡ header n count
  unfolding header
  header_put =
      sym (take-take 4 5 q.out.now (omega arith)) ∙ ap (take 4) (rw four at held.stored) ∙ bytes_take 4 5 (field 11 n ++ field 21 count) (omega arith)
    where
      held : Held (field 11 n ++ field 21 count) q
      held = trees.held (field 11 n) (leaves.held [] (held_nothing z begun.none (ap (take 1) (begun.now ∙ zeros))))

      four : q.bits / 8 ≡ 4
      four = omega (arith, trees.count, leaves.count, begun.none)
