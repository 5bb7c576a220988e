-- Unpack: when it refuses, and that it writes an element a leaf. Main result: lawful_unpack.
use Rattle.std.specs.Prelude.{Bool, true, false, List, ◌≢◌, ◌⊎◌, ◌≡◌, refl, ℕ, ◌-◌, ◌≤◌, ltb, length}
use Rattle.std.proofs.Common.{inl, inr, ◌∙◌, arith, ltb-true, ltb-false}
use Rattle.rules.specs.declared.Kind.TheVariants.{LeafCount, InputLength, Entry, Padding}
use Rattle.rules.specs.Record.{record_length, leaf_count, bits_of, entries_of, padding, any_set}
use Rattle.rules.specs.Answer.{number_of, made, refuses}
use Rattle.rules.specs.Promise.{list}
use Rattle.rules.specs.CallUnpack.{unpack, unpack_call}
use Rattle.record_laws.specs.FromRecord.{Headed, Accepted}
use Rattle.record_laws.proofs.FromRecord.{length_entries, under_two_bytes, counted, wrong_record, entry_refused, padding_refused, record_accepted}
use Rattle.demands.specs.Conditions.{CountWrong, CountRight, Above, WithinBounds}
use Rattle.rules.specs.First.{First}
use Rattle.demands.proofs.FirstPlace.{padding_found}
use Rattle.demands.proofs.Cases.{count_cases, count_given, equal_cases, above_cases, above_given, within_given}
use Rattle.demands.specs.Law.{OfInput, Settled, Lawful}
use Rattle.demands.proofs.Law.{lawful_made}
use Rattle.demands.specs.LawUnpack.{RecordRefused, record_short, record_1, record_2, record_4, record_10}

-- what is made is settled by these
settled_unpack : (s : List ℕ) → Settled length 3 (RecordRefused s) (leaf_count s) (unpack s)
unfolding number_of padding
settled_unpack s = record {
  of_input = kinds;
  given = refused_so;
  total = go (ltb (length s) 2) refl (count_cases n) (equal_cases (length s) (record_length n)) (above_cases entries) (any_set (padding n s)) refl;
}
  where
    n : ℕ
    n = leaf_count s

    entries : List ℕ
    entries = entries_of (leaf_count s) s

    kinds : (k p : ℕ) → RecordRefused s k p → OfInput 3 k
    kinds k p (record_short h) = (InputLength, refl, omega arith)
    kinds k p (record_1 h c) = (LeafCount, refl, omega arith)
    kinds k p (record_2 h c l) = (InputLength, refl, omega arith)
    kinds k p (record_4 h c l f) = (Entry, refl, omega arith)
    kinds k p (record_10 h c l w b) = (Padding, refl, omega arith)

    headed : 2 ≤ length s → CountRight (leaf_count s) → length s ≡ record_length (leaf_count s) → Headed s (leaf_count s)
    headed h c l = record { two_bytes = h; count = refl; some_leaf = c.0; few = c.1; whole = l }

    refused_so : (k p : ℕ) → RecordRefused s k p → unpack s ≡ refuses k p
    refused_so k p (record_short h) = under_two_bytes s h
    refused_so k p (record_1 h c) = counted s (leaf_count s) h refl ∙ count_given (leaf_count s) _ c
    refused_so k p (record_2 h c l) = wrong_record s (leaf_count s) h refl c.0 c.1 l
    refused_so k p (record_4 {i} h c l f) = entry_refused s (leaf_count s) i (headed h c l) (above_given (entries_of (leaf_count s) s) i f)
    refused_so k p (record_10 h c l w b) =
        padding_refused s (leaf_count s) (headed h c l) (within_given (entries_of (leaf_count s) s) w) ((padding_found (leaf_count s) (bits_of s)).1 b)

    accepted : 2 ≤ length s → CountRight (leaf_count s) → length s ≡ record_length (leaf_count s) → WithinBounds (entries_of (leaf_count s) s)
        → any_set (padding (leaf_count s) s) ≡ false → Accepted s (leaf_count s)
    accepted h c l w e = record { headed = headed h c l; within = within_given (entries_of (leaf_count s) s) w; unset = e }

    go : (b : Bool) → ltb (length s) 2 ≡ b → CountWrong n ⊎ CountRight n → (length s ≢ record_length n) ⊎ (length s ≡ record_length n)
        → ((i : ℕ) × First (Above entries) i) ⊎ WithinBounds entries → (d : Bool) → any_set (padding n s) ≡ d
        → ((k : ℕ) × (p : ℕ) × RecordRefused s k p) ⊎ ((ys : List ℕ) × (unpack s ≡ made ys) × (length ys ≡ leaf_count s))
    go true q c l a d e = inl (2, 2, record_short (ltb-true (length s) 2 q))
    go false q (inl c) l a d e = inl (1, 0, record_1 (ltb-false (length s) 2 q) c)
    go false q (inr c) (inl l) a d e = inl (2, record_length n, record_2 (ltb-false (length s) 2 q) c l)
    go false q (inr c) (inr l) (inl a) d e = inl (4, a.0, record_4 (ltb-false (length s) 2 q) c l a.1)
    go false q (inr c) (inr l) (inr w) true e =
        inl (10, length s - 1, record_10 (ltb-false (length s) 2 q) c l w ((padding_found (leaf_count s) (bits_of s)).0 e))
    go false q (inr c) (inr l) (inr w) false e =
        inr (entries, record_accepted s (leaf_count s) (accepted (ltb-false (length s) 2 q) c l w e), length_entries (leaf_count s) s)

pub lawful_unpack : (s : List ℕ) → Lawful (unpack_call s) (RecordRefused s) (leaf_count s)
lawful_unpack s = lawful_made list (unpack s) (RecordRefused s) (leaf_count s) (settled_unpack s)
