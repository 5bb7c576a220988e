-- What stands at each turn of the clade table's loop: the answer of the check, the number of entries written, the array, and the table.
-- Main definition: Filling. Main results: start, asked, inside, next, kept, ends.
use mathlib.Core.Bool.{true, false, true≢false}
use mathlib.Core.List.{List, [], ◌∷◌, ◌++◌}
use mathlib.Core.Path.{◌≡◌, refl, sym, ap, ◌∙◌}
use Prim.Native.Nat.{ℕ, zero, suc, ◌+◌, ◌-◌, ◌*◌, ◌/◌, ◌%◌, ◌≤◌, ◌<◌}
use native.Mathlib.Numerals.{add-one}
use native.Mathlib.Nat.{mod-eq_of_lt}
use native.Mathlib.Omega.{arith}
use lib.ListN.{length, set, get_or, take, drop, length-append, length-take, length-drop}
use lib.Seq.{take_all, take-suc, drop-cons, set_at, append_snoc, length-take-le}
use borrow.Author.Tests.{ltb-true, ltb-false, le-leb, lt-leb}
use Rattle.rules.specs.Record.{leaf_count}
use Rattle.rules.specs.Archive.{trees_in}
use Rattle.rules.specs.Answer.{reads, done, refused, made, refuses}
use Rattle.rules.specs.declared.Answer.{Answer}
use Rattle.rules.specs.declared.Clade.{Clade}
use Rattle.rules.specs.CallCladeTable.{clade_table_call}
use Rattle.rules.specs.Promise.{Keeps, answers, holds}
use Rattle.clade_laws.specs.Entries.{Each}
use Rattle.clade_passes.proofs.Archive.{vectors_made}
use Rattle.clade_passes.specs.Batches.{batch_at}
use Rattle.clade_passes.proofs.Batches.{batch_entry}
use Rattle.clade_passes.proofs.Bounds.{trees_counts}
use Rattle.clade_batch.specs.Held.{most, entry_at, held_in, none, held_length, held_at}
use Rattle.clade_entries.specs.Table.{table_of_lem}
use Rattle.clade_calls.specs.Checked.{table, Tabled, NoTable, of_archive, of_room, Checked, stopped, fits, table_made}
use Rattle.clade_calls.specs.Filling.{Ready, Readied, held_entry, finished}

-- refused: nothing is held and nothing written; else the first i entries are written, and the batch of the last of them is held
pub data Filling (s : List ℕ) (old : List Clade) (a : Answer) (i : ℕ) (held : List ℕ) (new : List Clade) : Type 0 where
  refusing : {number place : ℕ} → reads a ≡ refused number place → NoTable s (length old) number place → held_in held ≡ [] → i ≡ 0 → new ≡ old → Filling s old a i held new
  filling : {k : ℕ} → reads a ≡ done k → Tabled s → length (table s) ≤ length old → i ≤ length (table s) → held_in held ≡ batch_at most ((i - 1) / most) (table s)
      → new ≡ take i (table s) ++ drop i old → Filling s old a i held new

pub start : (s : List ℕ) (old : List Clade) (a : Answer) (held : List ℕ) → Checked s (length old) a held → Filling s old a 0 held old
start s old a held (stopped e N h) = refusing e N h refl refl
start s old a held (fits e R f h) = filling e R f (omega arith) h refl

-- each count of the table fits into 32 bits
each_at : (c : ℕ) (es : List Clade) → Each (λ e. (1 ≤ e.count) × (e.count ≤ c)) es → (i : ℕ) → i < length es → (get_or es i none).count ≤ c
unfolding Each
each_at c [] E i h = absurd (omega arith)
each_at c (e ∷ es) E zero h = E.0.1
each_at c (e ∷ es) E (suc i) h = each_at c es E.1 i (omega arith)

count_small : (s : List ℕ) → Tabled s → (i : ℕ) → i < length (table s) → (get_or (table s) i none).count < 4294967296
count_small s R i h =
    let v = vectors_made (leaf_count s) s (trees_in s) R.vectors R.given.some R.read in
    let c = each_at (length R.vectors) (table s) (rw (table_of_lem R) (trees_counts (leaf_count s) R.vectors v.1)) i h in
    omega (arith, c, v.0, R.given.counted)

-- an entry with its count cut to 32 bits
cut : Clade → Clade
cut e = record { leaves = e.leaves; size = e.size; count = e.count % 4294967296 }

cut_small : (e : Clade) → e.count < 4294967296 → cut e ≡ e
unfolding cut
cut_small e h = ap (λ (k : ℕ). record { leaves = e.leaves; size = e.size; count = k }) (mod-eq_of_lt h)

held_cut : (held : List ℕ) (i : ℕ) → held_entry held i ≡ cut (entry_at held (i % most))
unfolding held_entry cut entry_at
held_cut held i = refl

-- entry i, as it is held
entry_held : (s : List ℕ) → Tabled s → (i : ℕ) (held : List ℕ) → i < length (table s) → held_in held ≡ batch_at most (i / most) (table s) → held_entry held i ≡ get_or (table s) i none
entry_held s R i held h e =
    let t = table s in
    let n : get_or held 8192 0 ≡ length (batch_at most (i / most) t) = sym (held_length held) ∙ ap length e in
    let at : entry_at held (i % most) ≡ get_or t i none =
    sym (held_at held (i % most) (rw n (batch_inside i t h))) ∙ ap (λ (l : List Clade). get_or l (i % most) none) e ∙ batch_entry most i none t (omega arith) in
    held_cut held i ∙ ap cut at ∙ cut_small (get_or t i none) (count_small s R i h)
  where
    batch_inside : (i : ℕ) (t : List Clade) → i < length t → i % most < length (batch_at most (i / most) t)
    batch_inside i t h = unfold batch_at in omega (arith, length-take most (drop (i / most * most) t), length-drop (i / most * most) t, h)

-- one entry more
stored : (t old new : List Clade) (i : ℕ) (e : Clade) → i < length t → length t ≤ length old → new ≡ take i t ++ drop i old → e ≡ get_or t i none
    → set new i e ≡ take (i + 1) t ++ drop (i + 1) old
stored t old new i e h l n q =
    rw (n, q, drop-cons old i none (omega arith), add-one i)
    (set_at (take i t) (get_or old i none) (drop (suc i) old) (get_or t i none) i (length-take-le i t (omega arith))
    ∙ sym (ap (λ (x : List Clade). x ++ drop (suc i) old) (take-suc t i none h) ∙ append_snoc (take i t) (get_or t i none) (drop (suc i) old)))

written_length : (t old : List Clade) (i : ℕ) → i ≤ length t → length t ≤ length old → length (take i t ++ drop i old) ≡ length old
written_length t old i h l = length-append (take i t) (drop i old) ∙ omega (arith, length-take-le i t h, length-drop i old)

module _ {s : List ℕ} {old : List Clade} {a : Answer} {i : ℕ} {held : List ℕ} {new : List Clade} where
  pub kept : Filling s old a i held new → length new ≡ length old
  kept (refusing e N h z n) = ap length n
  kept (filling e R l h b n) = ap length n ∙ written_length (table s) old i h l

  pub asked : Filling s old a i held new → Ready s i
  asked (refusing e N h z n) = record { header = λ g. absurd (omega (arith, g, z)) }
  asked (filling e R l h b n) = record { header = λ g. R.given }

  pub inside : Filling s old a i held new → (held' : List ℕ) → Readied s i held true held' → i < length new
  inside (refusing e N h z n) held' r = absurd (true≢false (r.at_start z h))
  inside (filling e R l h b n) held' r =
      let g : i < length (table s) = ltb-true i (length (table s)) (sym (r.behind R h b).0) in
      omega (arith, g, l, ap length n ∙ written_length (table s) old i h l)

  pub next : Filling s old a i held new → (held' : List ℕ) → Readied s i held true held' → Filling s old a (i + 1) held' (set new i (held_entry held' i))
  next (refusing e N h z n) held' r = absurd (true≢false (r.at_start z h))
  next (filling e R l h b n) held' r =
      let q = r.behind R h b in
      let g : i < length (table s) = ltb-true i (length (table s)) (sym q.0) in
      let z : i / most ≡ (i + 1 - 1) / most = omega arith in
      filling e R l (omega (arith, g)) (q.1 ∙ ap (λ (j : ℕ). batch_at most j (table s)) z) (stored (table s) old new i (held_entry held' i) g l n (entry_held s R i held' g q.1))

  pub ends : Filling s old a i held new → (held' : List ℕ) (r : Answer) → Readied s i held false held' → reads r ≡ finished (reads a) i → Keeps (clade_table_call s) old r new
  unfolding finished answers holds
  ends (refusing e (of_archive {number} {place} m) h z n) held' r d f = record { what = refuses number place; made_so = m; answered = f ∙ rw e refl; held = n }
  ends (refusing e (of_room R l) h z n) held' r d f = record {
    what = made (table s);
    made_so = table_made s R;
    answered = f ∙ rw (e, lt-leb (length (table s)) (length old) l) refl;
    held = n ∙ rw (lt-leb (length (table s)) (length old) l) refl;
  }
  ends (filling e R l h b n) held' r d f =
      let q : i ≡ length (table s) = omega (arith, h, ltb-false i (length (table s)) (sym (d.behind R h b).0)) in
      let t : take i (table s) ≡ table s = take_all i (table s) (omega (arith, q)) in
      record {
        what = made (table s);
        made_so = table_made s R;
        answered = f ∙ rw (e, le-leb (length (table s)) (length old) l) (ap done q);
        held = n ∙ rw (le-leb (length (table s)) (length old) l) (rw (t, q) refl);
      }
