-- What two archives that are alike leave in one output: the whole of it is the same.
-- Main result: output_depends.
use Rattle.std.specs.Prelude.{List, ◌≡◌}
use Rattle.std.proofs.Common.{◌∙◌}
use Rattle.std.proofs.Math.Path.{refl, sym}
use Prim.Native.Nat.{ℕ}
use Rattle.rules.specs.declared.Answer.{Answer}
use Rattle.archive_laws.specs.Local.{Alike}
use Rattle.demands.specs.Calls.{reads_tree}
use Rattle.demands.proofs.Keeping.{Kept}
use Rattle.demands.proofs.Depends.{answer_depends}

module _ (s t : List ℕ) (r : ℕ) (A : Alike s t r) where
  -- and into one output the whole of it
  pub output_depends : (old : List ℕ) (a b : Answer) (new new' : List ℕ)
      → Kept (reads_tree s r) old a new → Kept (reads_tree t r) old b new' → (a ≡ b) × (new ≡ new')
  output_depends old a b new new' P Q =
      let S = answer_depends s t r A old old a b new new' refl P Q in
      (S.same_answer, S.first ∙ sym S.second)
