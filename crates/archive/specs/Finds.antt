-- What an archive says of a tree, by what frames the tree's record.
-- Main definitions: IsPart, IsRecord, Finds, part_bytes. Main results: no_leaf_found, many_leaves_found, length_found, no_tree_found,
-- record_found (what the tests show); part_start, part_length, part_ends, part_size, part_bytes_lem (the part that is found).
use Rattle.std.specs.Prelude.{◌≡◌, List, ◌≢◌, ℕ, ◌+◌, ◌-◌, ◌≤◌, ◌<◌, length, take, drop, Result, Ok, Err}
use Rattle.std.proofs.Common.{sym, ap, ap₂, subst, ◌∙◌, length-take, length-drop}
use native.Mathlib.Omega.{arith}
use Rattle.rules.specs.Record.{leaf_count}
use Rattle.rules.specs.Archive.{trees_in, bare_length, implied_length, record_at}
use Rattle.archive_laws.specs.Framed.{leafless, crowded, unfit, absent}
use Rattle.archive_laws.proofs.Framed.{record_ends}
use Rattle.archive_laws.specs.Reader.{HasTree, NoTree as Refused}
use Rattle.rules.specs.declared.Part.{Part}
use Rattle.archive.specs.declared.ArchiveFault.{ArchiveFault}
use Rattle.archive.specs.declared.ArchiveFault.TheVariants.{Length, LeafCount, NoTree}

-- the part that is record r of an archive of n leaves
abbrev pub IsPart : ℕ → ℕ → Part → Type 0
IsPart n r part = (part.start ≡ implied_length n r) × (part.length ≡ bare_length n)

-- and n is its leaf count, and it has a tree r
abbrev pub IsRecord : List ℕ → ℕ → ℕ → Part → Type 0
IsRecord s r n part = (n ≡ leaf_count s) × HasTree s r × IsPart n r part

-- each answer
abbrev pub Finds : List ℕ → ℕ → Result (ℕ × Part) ArchiveFault → Type 0
Finds s r (Ok found) = IsRecord s r found.0 found.1
Finds s r (Err (Length wanted)) = Refused s r 2 wanted
Finds s r (Err LeafCount) = Refused s r 1 0
Finds s r (Err (NoTree number)) = Refused s r 12 number

-- what the tests of an archive with a header show, one after another
module _ (s : List ℕ) (r : ℕ) {n : ℕ} (header : 4 ≤ length s) (leaves : n ≡ leaf_count s) where
  pub no_leaf_found : n ≡ 0 → Refused s r 1 0
  no_leaf_found e = leafless header (sym leaves ∙ e)

  pub many_leaves_found : 1024 < n → Refused s r 1 0
  many_leaves_found h = crowded header (rw leaves at h)

  module _ {count wanted : ℕ} (some_leaf : n ≢ 0) (few : n ≤ 1024) (trees : count ≡ trees_in s) (long : wanted ≡ implied_length n count) where
    some : 1 ≤ leaf_count s
    some = omega (arith, some_leaf, leaves)

    implied : wanted ≡ implied_length (leaf_count s) (trees_in s)
    implied = long ∙ ap₂ implied_length leaves trees

    pub length_found : length s ≢ wanted → Refused s r 2 wanted
    length_found d = subst (λ (w : ℕ). Refused s r 2 w) (sym implied) (unfit header some (rw leaves at few) (λ e. d (e ∙ sym implied)))

    pub no_tree_found : length s ≡ wanted → count ≤ r → Refused s r 12 r
    no_tree_found e h = absent some (rw leaves at few) (e ∙ implied) (rw trees at h)

    pub record_found : length s ≡ wanted → r < count → HasTree s r
    record_found e h = record { some_leaf = some; few = rw leaves at few; whole = e ∙ implied; below = rw trees at h }

-- the bytes of a part
abbrev pub part_bytes : List ℕ → Part → List ℕ
part_bytes s part = take (part.start + part.length - part.start) (drop part.start s)

-- the part that is found lies within the archive, and its bytes are those of record r
module _ (s : List ℕ) (r n : ℕ) (part : Part) (found : IsRecord s r n part) where
  pub part_start : part.start ≡ implied_length (leaf_count s) r
  part_start = found.2.0 ∙ ap (λ (k : ℕ). implied_length k r) found.0

  pub part_length : part.length ≡ bare_length (leaf_count s)
  part_length = found.2.1 ∙ ap bare_length found.0

  pub part_ends : part.start + part.length ≤ length s
  part_ends = let F = found.1 in omega (arith, part_start, part_length, F.whole, record_ends (leaf_count s) (trees_in s) r F.below)

  pub part_size : length (part_bytes s part) ≡ bare_length n
  part_size = rw (length-take, length-drop) (omega (arith, part_ends, found.2.1))

  pub part_bytes_lem : part_bytes s part ≡ record_at (leaf_count s) s r
  unfolding record_at
  part_bytes_lem = let e : part.start + part.length - part.start ≡ part.length = omega arith in rw (e, part_start, part_length)
