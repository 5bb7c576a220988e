-- What stands at each turn of the clade table's loop, and what its parts say.
-- Main definitions: Ready, Loaded, Readied, held_entry, finished.
use Rattle.std.specs.Prelude.{Bool, false, List, [], ◌≡◌, ℕ, ◌+◌, ◌-◌, ◌*◌, ◌/◌, ◌%◌, ◌≤◌, ltb, length, get_or, drop}
use Rattle.std.proofs.Common.{sym, ap, ◌∙◌, arith, length-take, length-drop, lt-ltb, le-ltb}
use Rattle.std.specs.Int.Count.{ones}
use Rattle.rules.specs.declared.Clade.{Clade as Entry}
use Rattle.rules.specs.Record.{leaf_count}
use Rattle.rules.specs.Archive.{trees_in, implied_length}
use Rattle.rules.specs.Answer.{Outcome, done, refused}
use Rattle.basics.proofs.Cases.{by_lt}
use Rattle.clade_passes.specs.Batches.{batch_at}
use Rattle.clade_batch.specs.Held.{most, held_in, held_length}
use Rattle.clade_pass.specs.Pass.{Given}
use Rattle.clade_entries.specs.Next.{Follows}
use Rattle.clade_calls.specs.Checked.{table, Tabled}

-- before entry i: behind the first entry the archive has a right header
pub record Ready (s : List ℕ) (i : ℕ) : Type 0 where
  pub header : 1 ≤ i → Given s (leaf_count s) (trees_in s)

-- the batch of entry i is loaded, where that of the entry before it was held
pub record Loaded (s : List ℕ) (i : ℕ) (held held' : List ℕ) : Type 0 where
  pub at_start : i ≡ 0 → held' ≡ held
  pub behind : Tabled s → i ≤ length (table s) → held_in held ≡ batch_at most ((i - 1) / most) (table s) → held_in held' ≡ batch_at most (i / most) (table s)

-- whether there is an entry i
pub record Readied (s : List ℕ) (i : ℕ) (held : List ℕ) (r : Bool) (held' : List ℕ) : Type 0 where
  pub at_start : i ≡ 0 → held_in held ≡ [] → r ≡ false
  pub behind : Tabled s → i ≤ length (table s) → held_in held ≡ batch_at most ((i - 1) / most) (table s)
      → (r ≡ ltb i (length (table s))) × (held_in held' ≡ batch_at most (i / most) (table s))

-- entry i of the words
unfoldable pub held_entry : List ℕ → ℕ → Entry
held_entry held i = record {
  leaves = get_or held (2 * (i % 4096)) 0;
  size = ones (get_or held (2 * (i % 4096)) 0);
  count = get_or held (2 * (i % 4096) + 1) 0 % 4294967296;
}

-- done with so many entries; what was refused stays so
unfoldable pub finished : Outcome → ℕ → Outcome
finished (done k) i = done i
finished (refused number place) i = refused number place

-- a right header has its bytes
pub header_bytes : {s : List ℕ} {n trees : ℕ} → Given s n trees → 4 ≤ length s
unfolding implied_length
header_bytes G = omega (arith, G.whole)

-- ---- the batch of entry i
full : (j i : ℕ) (es : List Entry) → i ≡ (j + 1) * 4096 → i ≤ length es → length (batch_at most j es) ≡ most
unfolding batch_at
full j i es e l = omega (arith, length-take most (drop (j * most) es), length-drop (j * most) es, e, l)

pub loaded_next : {s : List ℕ} {i : ℕ} {held held' : List ℕ} → 1 ≤ i → i % 4096 ≡ 0 → Follows s (leaf_count s) (trees_in s) held held' → Loaded s i held held'
unfolding Follows
loaded_next {s} {i} {held} {held'} h e F = record {
  at_start = λ q. absurd (omega (arith, h, q));
  behind = λ R l k.
      let j : ℕ = (i - 1) / 4096 in
      let a : i ≡ (j + 1) * 4096 = omega (arith, h, e) in
      let b : j + 1 ≡ i / 4096 = omega (arith, h, e) in
      F j R k (full j i (table s) a l) ∙ ap (λ (x : ℕ). batch_at most x (table s)) b;
}

-- whether it is there
there : (i : ℕ) (es : List Entry) → i ≤ length es → ltb (i % 4096) (length (batch_at most (i / 4096) es)) ≡ ltb i (length es)
unfolding batch_at
there i es l =
    let k : length (batch_at most (i / 4096) es) ≡ _ = length-take most (drop (i / 4096 * most) es) in
    let d = length-drop (i / 4096 * most) es in
    by_lt i (length es)
    (λ g. lt-ltb (i % 4096) _ (omega (arith, k, d, g)) ∙ sym (lt-ltb i (length es) g))
    (λ g. le-ltb (i % 4096) _ (omega (arith, k, d, g, l)) ∙ sym (le-ltb i (length es) g))

pub readied : {s : List ℕ} {i : ℕ} {held held' : List ℕ} {k : ℕ} → Loaded s i held held' → k ≡ get_or held' 8192 0 → Readied s i held (ltb (i % 4096) k) held'
readied {s} {i} {held} {held'} {k} L e = record {
  at_start = λ z h.
      let q : k ≡ 0 = e ∙ sym (held_length held') ∙ ap length (ap held_in (L.at_start z) ∙ h) in
      le-ltb (i % 4096) k (omega (arith, q));
  behind = λ R l h.
      let b = L.behind R l h in
      (ap (ltb (i % 4096)) (e ∙ sym (held_length held') ∙ ap length b) ∙ there i (table s) l, b);
}
