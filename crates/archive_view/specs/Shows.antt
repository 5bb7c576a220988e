-- The part that is shown of an archive, by what the public view is.
-- Main definition: Shows. Main results: record_shown, nothing_shown.
use Rattle.std.specs.Prelude.{◌≡◌, List, ℕ, ◌+◌, ◌≤◌, length}
use Rattle.std.proofs.Common.{sym, ap, ◌∙◌, arith}
use Rattle.rules.specs.CallView.{part_of}
use Rattle.archive_laws.specs.Reader.{NoTree}
use Rattle.archive_laws.proofs.Reader.{part_inside, part_refused}
use Rattle.rules.specs.declared.Part.{Part}
use Rattle.archive.specs.Finds.{IsRecord, part_start, part_length, part_ends}

-- the part of record r, which lies within the archive
abbrev pub Shows : List ℕ → ℕ → Part → Type 0
Shows s r part = (part.start ≡ (part_of s r).0) × (part.length ≡ (part_of s r).1) × (part.start + part.length ≤ length s)

-- and with no byte
abbrev pub Nothing : List ℕ → ℕ → Type 0
Nothing s r = Shows s r (record { start = 0; length = 0 })

module _ (s : List ℕ) (r : ℕ) where
  -- where there is a tree r, its record
  pub record_shown : (n : ℕ) (part : Part) → IsRecord s r n part → Shows s r part
  record_shown n part h =
      let same = part_inside s r h.1 in (
        part_start s r n part h ∙ sym (ap (λ (p : ℕ × ℕ). p.0) same),
        part_length s r n part h ∙ sym (ap (λ (p : ℕ × ℕ). p.1) same),
        part_ends s r n part h,
      )

  -- else nothing
  pub nothing_shown : {k p : ℕ} → NoTree s r k p → Nothing s r
  nothing_shown R =
      let same = part_refused s r R in
      (sym (ap (λ (p : ℕ × ℕ). p.0) same), sym (ap (λ (p : ℕ × ℕ). p.1) same), omega arith)
