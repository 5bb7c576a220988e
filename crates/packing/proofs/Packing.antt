-- Some bits and the fields of a vector behind them, as they are built.
-- Main definition: Built. Main results: entries_due, still_lent, built.
use mathlib.Core.Path.{◌≡◌, refl, sym, ap, ◌∙◌}
use mathlib.Core.List.{List, [], ◌∷◌, ◌++◌, append-nil}
use Prim.Native.Nat.{ℕ, ◌+◌, ◌/◌, ◌≤◌}
use native.Mathlib.Omega.{arith}
use lib.ListN.{length, take, replicate}
use lib.Seq.{take-length, take-take}
use Rattle.rules.specs.Record.{width, total, field, fields}
use Rattle.rules.specs.Archive.{field_bits}
use Rattle.record_laws.proofs.Bytes.{bytes_take}
use Rattle.record_laws.proofs.Width.{total_one, total_most}
use Rattle.record_laws.proofs.Fields.{total_header}
use Rattle.record_laws.proofs.Inverse.{valid_fit}
use Rattle.std.specs.Borrow.{MutBor}
use Rattle.bit_writer.specs.Pending.{Held, Begun, Put, held_nothing}
use Rattle.bit_writer.specs.declared.Writer.{Writer}
use Rattle.entry_writer.specs.Entries.{PutEntries, Due}
use Rattle.packing.specs.Behind.{bytes_behind, packed_behind, Fits}

-- entry 0 has no bits
first_fields : (v : List ℕ) → 1 ≤ length v → fields 0 (take 1 v) ≡ []
unfolding fields width
first_fields [] h = absurd (omega arith)
first_fields (x ∷ v) h = refl

-- the bytes in which a record is built: those of the longest, and a word behind them
abbrev pub built_bytes : ℕ
built_bytes = 1288

-- what is held is what is to be written
abbrev pub Built : ℕ → ℕ → List ℕ → Writer → Type 0
Built w x v q =
    ((q.bits + 7) / 8 ≡ bytes_behind w (length v)) × (bytes_behind w (length v) ≤ built_bytes) × (take (bytes_behind w (length v)) q.out.now ≡ packed_behind w x v)

module _ {w x : ℕ} {v : List ℕ} {room : ℕ} (fit : Fits w x v room) {out : MutBor (List ℕ)} {z p : Writer} (begun : Begun out z) (zeros : out.now ≡ replicate built_bytes 0)
    (front : Put z w x p) where
  lent : length p.out.now ≡ built_bytes
  lent = front.long ∙ ap length (begun.now ∙ zeros)

  -- there is room for the entries
  pub entries_due : Due v 1 (length v) p
  entries_due =
      let e = lent in
      record {
        some_put = omega arith;
        most = fit.vector.valid.some_leaf;
        whole = omega arith;
        few = fit.vector.few;
        fit = valid_fit v fit.vector.valid;
        fits = rw total_one (omega (arith, e, front.count, begun.none, fit.few, total_most (length v) fit.vector.few));
        short = omega (arith, e);
      }

  pub still_lent : {q : Writer} → PutEntries v 1 (length v) p q → length q.out.now ≡ built_bytes
  still_lent entries = entries.long ∙ lent

  pub built : {q : Writer} → PutEntries v 1 (length v) p q → Built w x v q
  unfolding bytes_behind packed_behind field_bits
  built {q} entries = (
    omega (arith, bits, total_header (length v)),
    omega (arith, fit.few, total_most (length v) fit.vector.few),
    sym (take-take (bytes_behind w (length v)) (q.bits / 8 + 1) q.out.now l)
        ∙ ap (take (bytes_behind w (length v))) held.stored
        ∙ bytes_take (bytes_behind w (length v)) (q.bits / 8 + 1) (field w x ++ fields 0 v) l,
  )
    where
      bits : q.bits + 11 ≡ w + total (length v)
      bits = omega (arith, rw total_one at entries.count, front.count, begun.none)

      held : Held (field w x ++ fields 0 v) q
      held =
          rw (take-length v) at
          (entries.held (field w x)
          (rw (first_fields v fit.vector.valid.some_leaf, append-nil (field w x)) (front.held [] (held_nothing z begun.none (ap (take 1) (begun.now ∙ zeros))))))

      l : bytes_behind w (length v) ≤ q.bits / 8 + 1
      l = omega (arith, bits, total_header (length v))
