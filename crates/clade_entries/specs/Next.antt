-- One batch after another, and how many entries they have together.
-- Main definitions: Follows, Counting. Main results: next_follows, counting_start, counting_next, counting_end.
use Rattle.std.specs.Prelude.{Option, ◌≡◌, ◌≢◌, List, ℕ, ◌+◌, ◌*◌, ◌≤◌, ◌<◌, get_or, drop}
use Rattle.std.proofs.Common.{sym, ◌∙◌, arith}
use Rattle.std.proofs.Math.Path.{ap}
use Rattle.std.proofs.Math.ListN.{length, length-take, length-drop}
use Rattle.rules.specs.declared.Clade.{Clade as Entry}
use Rattle.clade_passes.specs.Batches.{batch_at}
use Rattle.clade_passes.proofs.Batches.{next_batch, last_batch, full_batch}
use Rattle.clade_batch.specs.Held.{most, entry_at, held_in, none, held_length, held_at}
use Rattle.clade_pass.specs.Pass.{Passed}
use Rattle.clade_entries.specs.Table.{Readable, table_of, table_rises, table_few, passed_all}

-- where the words hold a full batch of a readable archive's table they then hold the next
unfoldable pub Follows : List ℕ → ℕ → ℕ → List ℕ → List ℕ → Type 0
Follows s n trees words words' = (j : ℕ) → Readable s n trees → held_in words ≡ batch_at most j (table_of s n trees)
    → length (batch_at most j (table_of s n trees)) ≡ most → held_in words' ≡ batch_at most (j + 1) (table_of s n trees)

pub next_follows : (s : List ℕ) (n trees : ℕ) (words words' : List ℕ) (r : Option ℕ) → Passed s n trees (get_or words 8190 0) words' r → Follows s n trees words words'
unfolding Follows entry_at
next_follows s n trees words words' r P j R h full =
    let es = table_of s n trees in
    let k : get_or words 8192 0 ≡ most = sym (held_length words) ∙ ap length h ∙ full in
    let last : (get_or (batch_at most j es) 4095 none).leaves ≡ get_or words 8190 0
    = ap (λ (l : List Entry). (get_or l 4095 none).leaves) (sym h) ∙ ap (λ (e : Entry). e.leaves) (held_at words 4095 (omega (arith, k))) in
    passed_all R _ words' r P ∙ next_batch most j 0 (get_or words 8190 0) none es (table_rises R) (omega arith) full last

-- batch j is held, and with it `total` entries were counted; full is what it would be were batch j full
pub record Counting (s : List ℕ) (n trees : ℕ) (words : List ℕ) (total full : ℕ) : Type 0 where
  pub readable : Readable s n trees
  pub number : ℕ
  pub there : number * 4096 ≤ length (table_of s n trees)
  pub whole : full ≡ number * 4096 + 4096
  pub held : held_in words ≡ batch_at most number (table_of s n trees)
  pub counted : total ≡ number * 4096 + length (batch_at most number (table_of s n trees))

batch_most : (j : ℕ) (es : List Entry) → length (batch_at most j es) ≤ 4096
unfolding batch_at
batch_most j es = omega (arith, length-take most (drop (j * most) es))

pub counting_start : {s : List ℕ} {n trees : ℕ} {words : List ℕ} {total : ℕ} → Readable s n trees → held_in words ≡ batch_at most 0 (table_of s n trees)
    → total ≡ get_or words 8192 0 → Counting s n trees words total 4096
counting_start {words = words} R h t = record {
  readable = R;
  number = 0;
  there = omega arith;
  whole = omega arith;
  held = h;
  counted = t ∙ sym (held_length words) ∙ ap length h ∙ omega arith;
}

module _ {s : List ℕ} {n trees : ℕ} {words : List ℕ} {total full : ℕ} (C : Counting s n trees words total full) where
  -- so no number is too great
  pub counting_few : (total ≤ 132120513) × (full ≤ 132124609)
  unfolding batch_at
  counting_few =
      let es = table_of s n trees in
      let j = C.number in (
        omega (arith, C.counted, C.there, table_few C.readable, length-take most (drop (j * most) es), length-drop (j * most) es),
        omega (arith, C.whole, C.there, table_few C.readable),
      )

  pub counting_next : {words' : List ℕ} {k : ℕ} → total ≡ full → Follows s n trees words words' → k ≡ get_or words' 8192 0 → Counting s n trees words' (total + k) (full + 4096)
  unfolding Follows
  counting_next {words'} e F q =
      let es = table_of s n trees in
      let j = C.number in
      let f : length (batch_at most j es) ≡ most = omega (arith, e, C.counted, C.whole) in
      let h = F j C.readable C.held f in
      record {
        readable = C.readable;
        number = j + 1;
        there = full_batch most j es (omega arith) f;
        whole = omega (arith, C.whole);
        held = h;
        counted = omega (arith, C.counted, f, held_length words', ap length h, q);
      }

  pub counting_end : total ≢ full → total ≡ length (table_of s n trees)
  counting_end d =
      let es = table_of s n trees in
      let j = C.number in
      let b = batch_most j es in
      let l : length (batch_at most j es) < most = omega (arith, d, C.counted, C.whole, b) in
      omega (arith, C.counted, last_batch most j es C.there l)
