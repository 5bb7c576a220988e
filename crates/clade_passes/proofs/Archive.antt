-- One pass over the records of an archive: what they make, record by record, and the batch that their leaf sets make.
-- Main results: bits_vector, record_made, vectors_made, vectors_next, vectors_refused, vectors_stay (what the records make); collected_append,
-- archive_sets_append (record by record), one_pass.
use Rattle.std.specs.Prelude.{◌≡◌, cond, List, [], ◌∷◌, ◌++◌, ℕ, zero, suc, ◌+◌, ◌-◌, ◌≤◌, ◌<◌, ltb, length, take}
use Rattle.std.proofs.Math.Path.{refl}
use Rattle.std.proofs.Common.{sym, ap, subst, ◌∙◌, append-nil, append_assoc, arith, length-append}
use Rattle.rules.specs.Vector.{Valid}
use Rattle.rules.specs.Record.{Bits, entries_in}
use Rattle.rules.specs.Archive.{bare_length, packed_at}
use Rattle.rules.specs.Answer.{Making, made, refuses}
use Rattle.rules.specs.declared.Clade.{Clade as Entry}
use Rattle.rules.specs.CladeTable.{clade_table, trees_of}
use Rattle.rules.specs.CallUnpack.{from_bits}
use Rattle.rules.specs.CallCladeTable.{following, record_in, vectors_in}
use Rattle.basics.proofs.Fault.{no_fault_valid}
use Rattle.accepting.proofs.Answers.{made_same, made_not_refuses}
use Rattle.record_laws.proofs.FromBits.{bits_made, length_entries_in}
use Rattle.clade_laws.specs.Entries.{Each}
use Rattle.clade_passes.specs.Passes.{batch}
use Rattle.clade_passes.specs.Collected.{add_entry, collected}
use Rattle.clade_passes.specs.Merged.{vector_sets, archive_sets}
use Rattle.clade_passes.proofs.Merged.{archive_batch}

-- ---- what holds of each element
pub each_mapped : {A : Type 0} (P Q : A → Type 0) (l : List A) → ((x : A) → P x → Q x) → Each P l → Each Q l
unfolding Each
each_mapped P Q [] f c = tt
each_mapped P Q (x ∷ l) f c = (f x c.0, each_mapped P Q l f c.1)

each_next : {A : Type 0} (P : A → Type 0) (l : List A) (x : A) → Each P l → P x → Each P (l ++ (x ∷ []))
unfolding Each
each_next P [] x c p = (p, tt)
each_next P (y ∷ l) x c p = (c.0, each_next P l x c.1 p)

-- ---- what the records make
-- bits that are not refused make a valid vector of n entries
pub bits_vector : (n last : ℕ) (bs : Bits) (v : List ℕ) → 1 ≤ n → from_bits n last bs ≡ made v → Valid v × (length v ≡ n)
bits_vector n last bs v h e =
    let b = bits_made n last bs v e in
    let l : length (entries_in n bs) ≡ n = length_entries_in n bs in
    (subst Valid b.2 (no_fault_valid (entries_in n bs) (rw l h) b.0), ap length (sym b.2) ∙ l)

-- and so does a record
pub record_made : (n : ℕ) (s : List ℕ) (r : ℕ) (v : List ℕ) → 1 ≤ n → record_in n s r ≡ made v → Valid v × (length v ≡ n)
unfolding record_in
record_made n s r v h e = bits_vector n (bare_length n - 1) (packed_at n s r) v h e

followed : {A B : Type 0} (m : Making A) (next : A → Making B) (y : B) → following m next ≡ made y → (x : A) × (m ≡ made x) × (next x ≡ made y)
unfolding following
followed (made x) next y e = (x, refl, e)
followed (refuses a p) next y e = absurd (made_not_refuses (sym e))

-- k records that are not refused make k such vectors
pub vectors_made : (n : ℕ) (s : List ℕ) (k : ℕ) (vs : List (List ℕ)) → 1 ≤ n → vectors_in n s k ≡ made vs
    → (length vs ≡ k) × Each (λ v. Valid v × (length v ≡ n)) vs
unfolding vectors_in
vectors_made n s zero vs h e = subst (λ (l : List (List ℕ)). (length l ≡ 0) × Each (λ v. Valid v × (length v ≡ n)) l) (made_same e) (refl, unfold Each in tt)
vectors_made n s (suc k) vs h e = go (followed (vectors_in n s k) _ vs e) (λ ws q. vectors_made n s k ws h q)
  where
    Good : ℕ → List (List ℕ) → Type 0
    Good j l = (length l ≡ j) × Each (λ v. Valid v × (length v ≡ n)) l

    go : (ws : List (List ℕ)) × (vectors_in n s k ≡ made ws) × (following (record_in n s k) (λ v. made (ws ++ (v ∷ []))) ≡ made vs)
        → ((ws : List (List ℕ)) → vectors_in n s k ≡ made ws → Good k ws) → Good (suc k) vs
    go w ih =
        let f = followed (record_in n s k) (λ v. made (w.0 ++ (v ∷ []))) vs w.2 in
        let g : Good k w.0 = ih w.0 w.1 in
        subst (Good (suc k)) (made_same f.2)
        (omega (arith, length-append w.0 (f.0 ∷ []), g.0), each_next _ w.0 f.0 g.1 (record_made n s k f.0 h f.1))

-- one more record
pub vectors_next : (n : ℕ) (s : List ℕ) (k : ℕ) (vs : List (List ℕ)) (v : List ℕ) → vectors_in n s k ≡ made vs → record_in n s k ≡ made v
    → vectors_in n s (suc k) ≡ made (vs ++ (v ∷ []))
unfolding vectors_in following
vectors_next n s k vs v e f = rw (e, f) refl

-- the first refusal stays
pub vectors_stay : (n : ℕ) (s : List ℕ) (k m a p : ℕ) → vectors_in n s k ≡ refuses a p → k ≤ m → vectors_in n s m ≡ refuses a p
vectors_stay n s k m a p e h = let z : k + (m - k) ≡ m = omega arith in subst (λ (j : ℕ). vectors_in n s j ≡ refuses a p) z (later (m - k))
  where
    once : (j : ℕ) → vectors_in n s j ≡ refuses a p → vectors_in n s (suc j) ≡ refuses a p
    once j q = unfold vectors_in in unfold following in rw q refl

    later : (d : ℕ) → vectors_in n s (k + d) ≡ refuses a p
    later zero = let z : k + 0 ≡ k = omega arith in rw z e
    later (suc d) = let z : k + suc d ≡ suc (k + d) = omega arith in rw z (once (k + d) (later d))

-- a refused record is the refusal of all that go so far
pub vectors_refused : (n : ℕ) (s : List ℕ) (k m a p : ℕ) (vs : List (List ℕ)) → vectors_in n s k ≡ made vs → record_in n s k ≡ refuses a p → k < m
    → vectors_in n s m ≡ refuses a p
vectors_refused n s k m a p vs e f h = vectors_stay n s (suc k) m a p (unfold vectors_in in unfold following in rw (e, f) refl) h

-- ---- their leaf sets
pub collected_append : (K b : ℕ) (l m : List ℕ) (es : List Entry) → collected K b es (l ++ m) ≡ collected K b (collected K b es l) m
unfolding collected
collected_append K b [] m es = refl
collected_append K b (x ∷ l) m es = collected_append K b l m (cond (ltb b x) (take K (add_entry x es)) es)

pub archive_sets_append : (vs : List (List ℕ)) (v : List ℕ) → archive_sets (vs ++ (v ∷ [])) ≡ archive_sets vs ++ vector_sets v
unfolding archive_sets
archive_sets_append [] v = append-nil (vector_sets v)
archive_sets_append (w ∷ vs) v =
    ap (◌++◌ (vector_sets w)) (archive_sets_append vs v) ∙ sym (append_assoc (vector_sets w) (archive_sets vs) (vector_sets v))

-- all vectors that the records make are valid
pub vectors_valid : (n : ℕ) (s : List ℕ) (k : ℕ) (vs : List (List ℕ)) → 1 ≤ n → vectors_in n s k ≡ made vs → Each Valid vs
vectors_valid n s k vs h e = each_mapped (λ v. Valid v × (length v ≡ n)) Valid vs (λ v c. c.0) (vectors_made n s k vs h e).1

-- one pass over the records: the K least clades above b, with their counts
pub one_pass : (K b n : ℕ) (s : List ℕ) (k : ℕ) (vs : List (List ℕ)) → 1 ≤ n → vectors_in n s k ≡ made vs
    → collected K b [] (archive_sets vs) ≡ batch K b (clade_table (trees_of vs))
one_pass K b n s k vs h e = archive_batch K b vs (vectors_valid n s k vs h e)
