-- What the view of tree r is: the bytes of its record, or none.
-- Main results: view_inside, view_refused.
use Rattle.std.specs.Prelude.{List, [], ◌≡◌, ℕ, drop}
use Rattle.std.proofs.Math.Path.{ap}
use Rattle.std.proofs.Math.ListN.{take}
use Rattle.rules.specs.Record.{leaf_count}
use Rattle.rules.specs.Archive.{record_at}
use Rattle.rules.specs.CallView.{view}
use Rattle.archive_laws.specs.Reader.{HasTree, NoTree}
use Rattle.archive_laws.proofs.Reader.{part_inside, part_refused}

module _ (s : List ℕ) (r : ℕ) where
  pub view_inside : HasTree s r → view s r ≡ record_at (leaf_count s) s r
  unfolding view record_at
  view_inside F = ap (λ (p : ℕ × ℕ). take p.1 (drop p.0 s)) (part_inside s r F)

  pub view_refused : {k p : ℕ} → NoTree s r k p → view s r ≡ []
  unfolding view
  view_refused R = ap (λ (p : ℕ × ℕ). take p.1 (drop p.0 s)) (part_refused s r R)
