-- What the writer of an archive knows when it has looked at the counts: how many trees there are at most, and that no product wraps.
-- Main definition: Counted. Main results: trees_most, whole_most, next_most.
use mathlib.Core.List.{List}
use mathlib.Core.Path.{◌≡◌}
use Prim.Native.Nat.{ℕ, suc, ◌+◌, ◌*◌, ◌/◌, ◌≤◌}
use native.Mathlib.Nat.{suc-mul, div-mul-le_self}
use native.Mathlib.Omega.{arith}
use lib.ListN.{length}
use Rattle.rules.specs.CallWriteArchive.{most_trees}
use Rattle.archive_laws.proofs.Writer.{few_trees}

pub record Counted (n : ℕ) (xs : List ℕ) : Type 0 where
  pub some_leaf : 1 ≤ n
  pub few_leaves : n ≤ 1024
  pub few : length xs ≤ most_trees * n

module _ {n : ℕ} {xs : List ℕ} (C : Counted n xs) where
  pub trees_most : length xs / n ≤ most_trees
  trees_most = few_trees n xs C.some_leaf C.few_leaves C.few

  pub whole_most : length xs / n * n ≤ length xs
  whole_most = div-mul-le_self (length xs) n

  pub next_most : (length xs / n + 1) * n ≤ length xs + n
  next_most =
      let e : length xs / n + 1 ≡ suc (length xs / n) = omega arith in
      rw (e, suc-mul (length xs / n) n) (omega (arith, whole_most))
