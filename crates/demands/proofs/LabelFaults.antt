-- The first label at fault is not both a stray one and a double one.
-- Main result: not_both.
use Rattle.std.specs.Prelude.{List, ℕ}
use Rattle.std.proofs.Common.{inl, arith}
use Rattle.demands.specs.LawFromNewick.{Stray, Double, FirstUnfit}

-- The first label at fault never is both: the label before it that is the same would be not below n, too. So the order at one label never tells.
pub not_both : (s : List ℕ) (i : ℕ) → FirstUnfit s i → Stray s i → Double s i → ⊥
not_both s i f stray (j, before, same) = f.1 j before (omega (arith, f.0.0), inl (omega arith))
