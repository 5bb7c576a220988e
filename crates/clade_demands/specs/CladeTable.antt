-- CR 4: "build a table in a lent list of entries: one entry for each different clade of two leaves or more, its leaf set as a 64-bit number (leaf x
-- is bit x), its size, and in how many trees it occurs. Entries rise by leaf set. The counts, each defined from the trees and not from the table, add
-- up to trees times (n-1)." The trees are those that the reader of tree r reads. Main definitions: ArchiveRight, CladeTableOf, Sums.
use Rattle.std.specs.Prelude.{Bool, true, List, ◌↔◌, ◌≡◌, ℕ, ◌-◌, ◌*◌, ◌^◌, ◌≤◌, ◌<◌}
use Rattle.rules.specs.declared.Clade.{Clade as Entry}
use Rattle.rules.specs.Building.{member}
use Rattle.rules.specs.Record.{leaf_count}
use Rattle.rules.specs.Archive.{trees_in}
use Rattle.rules.specs.Answer.{made}
use Rattle.rules.specs.CallReadTree.{read_tree}
use Rattle.clade_laws.specs.Numbers.{Stands}
use Rattle.clade_laws.specs.Rising.{Rises}
use Rattle.clade_laws.specs.Entries.{Each, leaves_of}
use Rattle.clade_laws.specs.Totals.{sum_counts}
use Rattle.demands.specs.LawReadTree.{Whole}
use Rattle.demands.specs.LawCladeTable.{FewLeaves}
use Rattle.demands.specs.TreesRead.{AllRead}
use Rattle.clade_demands.specs.Occurs.{HasClade, HowMany, leaves_in}

-- nothing is wrong with an archive of up to 64 leaves: it has its implied length, and the reader reads every tree
abbrev pub ArchiveRight : List ℕ → Type 0
ArchiveRight s = FewLeaves s × Whole s × ((r : ℕ) → r < trees_in s → (v : List ℕ) × (read_tree s r ≡ made v))

-- the entries are the clade table of the archive's trees
pub record CladeTableOf (s : List ℕ) (es : List Entry) : Type 0 where
  -- "one entry for each different clade of two leaves or more", by its number: of the trees of the archive, and no other
  pub each_clade : (m : ℕ) → (member m (leaves_of es) ≡ true) ↔ ((r : ℕ) × (r < trees_in s) × HasClade s m r)
  -- "Entries rise by leaf set", strictly: no clade has two
  pub rises : Rises (leaves_of es)
  -- "its size": how many leaves the clade has
  pub sizes : Each (λ e. (c : ℕ → Bool) → Stands e.leaves c → e.size ≡ leaves_in (leaf_count s) c) es
  -- "in how many trees it occurs": of how many numbers r below the tree count the tree has the clade
  pub counts : Each (λ e. HowMany (HasClade s e.leaves) (trees_in s) e.count) es

-- what follows from these
pub record Sums (s : List ℕ) (es : List Entry) : Type 0 where
  -- "The counts .. add up to trees times (n-1)."
  pub add_up : sum_counts es ≡ trees_in s * (leaf_count s - 1)
  -- no clade occurs in no tree, nor in more than all
  pub between : Each (λ e. (1 ≤ e.count) × (e.count ≤ trees_in s)) es
  -- "a 64-bit number"
  pub fits : Each (λ e. e.leaves < 2 ^ 64) es

-- an archive whose trees the reader reads as these vectors, and the table of their trees
abbrev pub Read : List ℕ → List (List ℕ) → Type 0
Read s vs = FewLeaves s × Whole s × AllRead s vs
