-- An archive all of whose trees can be read, and its clade table.
-- Main definitions: table_of, Readable. Main results: table_of_lem, table_rises, table_first, table_fits, table_few, passed_all, all_read.
use Rattle.std.specs.Prelude.{Option, None, Some, ◌≡◌, List, [], ℕ, ◌-◌, ◌*◌, ◌≤◌, length}
use Rattle.std.proofs.Math.Path.{refl}
use Rattle.std.proofs.Common.{sym, ap, ◌∙◌, mul-le-mul, arith}
use Rattle.rules.specs.declared.Clade.{Clade as Entry}
use Rattle.rules.specs.Answer.{Making, made, refuses}
use Rattle.rules.specs.CladeTable.{clade_table, trees_of}
use Rattle.rules.specs.CallCladeTable.{following, vectors_in}
use Rattle.accepting.proofs.Answers.{made_same, made_not_refuses}
use Rattle.clade_laws.specs.Rising.{From}
use Rattle.clade_laws.specs.Entries.{leaves_of}
use Rattle.clade_laws.proofs.Entries.{table_is}
use Rattle.clade_passes.specs.Passes.{batch}
use Rattle.clade_passes.proofs.Passes.{table_from}
use Rattle.clade_passes.proofs.Archive.{vectors_made, vectors_refused}
use Rattle.clade_passes.specs.Batches.{batch_at}
use Rattle.clade_passes.proofs.Batches.{first_batch}
use Rattle.clade_passes.proofs.Bounds.{trees_table_length}
use Rattle.clade_batch.specs.Held.{most, held_in}
use Rattle.clade_pass.specs.Pass.{Given, PassedAll, Passed}

-- the entries that were made, none where it was refused
unfoldable pub entries_made : Making (List Entry) → List Entry
entries_made (made es) = es
entries_made (refuses number place) = []

-- the clade table of an archive of n leaves and so many trees
unfoldable pub table_of : List ℕ → ℕ → ℕ → List Entry
unfolding entries_made following
table_of s n trees = entries_made (following (vectors_in n s trees) (λ vs. made (clade_table (trees_of vs))))

-- the archive has a right header, and each of its records is that of a vector
pub record Readable (s : List ℕ) (n trees : ℕ) : Type 0 where
  pub given : Given s n trees
  pub vectors : List (List ℕ)
  pub read : vectors_in n s trees ≡ made vectors

module _ {s : List ℕ} {n trees : ℕ} (R : Readable s n trees) where
  pub table_of_lem : table_of s n trees ≡ clade_table (trees_of R.vectors)
  unfolding table_of
  table_of_lem = rw R.read refl

  pub table_rises : From 0 (leaves_of (table_of s n trees))
  table_rises = rw table_of_lem (table_is (trees_of R.vectors)).rises

  -- batch 0 is above 0
  pub table_first : batch most 0 (table_of s n trees) ≡ batch_at most 0 (table_of s n trees)
  table_first = rw table_of_lem (first_batch most (clade_table (trees_of R.vectors)) (table_from (trees_of R.vectors)))

  -- how many entries there can be
  pub table_fits : length (table_of s n trees) ≤ trees * (n - 1)
  table_fits =
      let v = vectors_made n s trees R.vectors R.given.some R.read in
      omega (arith, ap length table_of_lem, trees_table_length n R.vectors v.1, ap (λ (k : ℕ). k * (n - 1)) v.0)

  pub table_few : length (table_of s n trees) ≤ 132120513
  table_few =
      let a : trees ≤ 2097151 = omega (arith, R.given.counted) in
      let b : n - 1 ≤ 63 = omega (arith, R.given.few) in
      omega (arith, table_fits, mul-le-mul a b)

  -- a pass goes to the end of such an archive
  pub passed_all : (bound : ℕ) (words : List ℕ) (r : Option ℕ) → Passed s n trees bound words r → held_in words ≡ batch most bound (table_of s n trees)
  passed_all bound words None P =
      P.held ∙ ap (λ (vs : List (List ℕ)). batch most bound (clade_table (trees_of vs))) (made_same (sym P.read ∙ R.read)) ∙ ap (batch most bound) (sym table_of_lem)
  passed_all bound words (Some r) P =
      let q = P.refused in
      absurd (made_not_refuses (sym R.read ∙ vectors_refused n s r trees q.0 q.1 P.vectors P.read q.2 P.inside))

-- an archive that a pass went through
pub all_read : {s : List ℕ} {n trees bound : ℕ} {words : List ℕ} → Given s n trees → PassedAll s n trees bound words → Readable s n trees
all_read G P = record { given = G; vectors = P.vectors; read = P.read }
