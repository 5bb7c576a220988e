-- The clades of one record's tree, added to a batch.
-- Main definition: TreeAdded. Main results: not_read, read_vector, tree_added.
use Rattle.std.specs.Prelude.{Result, Ok, Err, List, ◌++◌, ◌≡◌, ℕ, ◌-◌, ◌≤◌, length, take}
use Rattle.std.proofs.Common.{sym, ap, ◌∙◌, arith}
use Rattle.rules.specs.Vector.{Vector}
use Rattle.rules.specs.Record.{field, bits_of}
use Rattle.rules.specs.Archive.{bare_length}
use Rattle.rules.specs.Answer.{made, refuses}
use Rattle.record_entries.specs.declared.EntryFault.{EntryFault}
use Rattle.record_entries.specs.declared.EntryFault.TheVariants.{Entry, Padding}
use Rattle.record_entries.specs.Contains.{Contains}
use Rattle.tree_reading.specs.Gives.{bare_made, entry_above, padding_set, entries_right}
use Rattle.clade_passes.specs.Collected.{collected}
use Rattle.clade_passes.specs.Merged.{vector_sets}
use Rattle.clade_passes.proofs.Archive.{bits_vector}
use Rattle.clade_batch.specs.Held.{most, held_in}

-- where the bytes make a vector its leaf sets are added
abbrev pub TreeAdded : ℕ → List ℕ → ℕ → List ℕ → List ℕ → Result (Unit {0}) EntryFault → Type 0
TreeAdded n bytes bound words words' (Ok _) = (v : List ℕ) × (bare_made n bytes ≡ made v) × (held_in words' ≡ collected most bound (held_in words) (vector_sets v))
TreeAdded n bytes bound words words' (Err _) = (number : ℕ) × (place : ℕ) × (bare_made n bytes ≡ refuses number place)

module _ {n : ℕ} (bytes : List ℕ) (some : 1 ≤ n) (few : n ≤ 64) (whole : length bytes ≡ bare_length n) where
  few_leaves : n ≤ 1024
  few_leaves = omega arith

  pub not_read : (vector : List ℕ) (e : EntryFault) → Contains bytes 0 n vector (Err e) → (number : ℕ) × (place : ℕ) × (bare_made n bytes ≡ refuses number place)
  not_read vector (Entry i) h = (4, i, entry_above bytes n some few_leaves whole i h)
  not_read vector Padding h = (10, _, padding_set bytes n some few_leaves whole h)

  module _ (vector : List ℕ) (h : Contains bytes 0 n vector (Ok tt)) where
    is_read : bare_made n bytes ≡ made (take n vector)
    is_read = (entries_right bytes n some few_leaves whole vector h).1

    -- what was read is a vector
    pub read_vector : Vector (take n vector) × (length (take n vector) ≡ n)
    read_vector =
        let b = bits_vector n (bare_length n - 1) (field 11 n ++ bits_of bytes) (take n vector) some is_read in
        (record { valid = b.0; few = omega (arith, b.1) }, b.1)

    pub tree_added : (bound : ℕ) (words words' sets : List ℕ) → take (length (take n vector) - 1) sets ≡ vector_sets (take n vector)
        → held_in words' ≡ collected most bound (held_in words) (take (n - 1) sets) → TreeAdded n bytes bound words words' (Ok tt)
    tree_added bound words words' sets s c =
        (take n vector, is_read, c ∙ ap (collected most bound (held_in words)) (ap (λ (k : ℕ). take (k - 1) sets) (sym read_vector.1) ∙ s))
