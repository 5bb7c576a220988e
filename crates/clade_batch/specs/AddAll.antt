-- The loop that adds leaf sets to a batch, one after another.
-- Main definition: Adding. Main results: adding_start, adding_batch, adding_next, adding_end.
use Rattle.std.specs.Prelude.{◌≡◌, refl, ℕ, ◌+◌, ◌≤◌, ◌<◌, ltb, length, get_or, take}
use Rattle.std.proofs.Math.Path.{sym, ap}
use Rattle.std.proofs.Common.{◌∙◌, add-one, arith, length-take, take-suc, take_all}
use Rattle.std.proofs.Math.Bool.{cond}
use mathlib.Core.List.{List, [], ◌∷◌, ◌++◌}
use Rattle.rules.specs.declared.Clade.{Clade as Entry}
use Rattle.clade_laws.specs.Rising.{From}
use Rattle.clade_laws.specs.Entries.{Each, leaves_of}
use Rattle.clade_passes.specs.Collected.{add_entry, collected}
use Rattle.clade_passes.proofs.Archive.{each_mapped, collected_append}
use Rattle.clade_passes.proofs.Bounds.{collected_rises, collected_length, collected_counts}
use Rattle.clade_batch.specs.Held.{most, held_in, IsBatch, held_length}

-- a batch that has room for many more of each clade
pub record Roomy (words : List ℕ) : Type 0 where
  pub few : get_or words 8192 0 ≤ most
  pub rises : From 0 (leaves_of (held_in words))
  pub counts : Each (λ e. e.count ≤ 4294967296) (held_in words)

-- the first t leaf sets are added
pub record Adding (words₀ sets : List ℕ) (bound : ℕ) (words : List ℕ) (t : ℕ) : Type 0 where
  pub start : Roomy words₀
  pub few : length sets ≤ 1024
  pub high : t ≤ length sets
  pub held : held_in words ≡ collected most bound (held_in words₀) (take t sets)

pub adding_start : {words sets : List ℕ} {bound : ℕ} → Roomy words → length sets ≤ 1024 → Adding words sets bound words 0
unfolding collected
adding_start R few = record { start = R; few = few; high = omega arith; held = refl }

module _ {words₀ sets : List ℕ} {bound : ℕ} {words : List ℕ} {t : ℕ} (A : Adding words₀ sets bound words t) where
  -- the words are those of a batch then
  pub adding_batch : IsBatch words
  adding_batch =
      let es = held_in words₀ in
      let l = take t sets in
      let n : length l ≤ 1024 = omega (arith, length-take t sets, A.few) in
      record {
        few = omega (arith, held_length words, ap length A.held, collected_length most bound l es (omega (arith, held_length words₀, A.start.few)));
        rises = rw A.held (collected_rises most bound l es A.start.rises);
        counts = rw A.held
            (each_mapped (λ e. e.count ≤ 4294967296 + length l) (λ e. e.count ≤ 18446744073709551614) (collected most bound es l) (λ e c. omega (arith, c, n))
            (collected_counts most bound 4294967296 l es A.start.counts));
      }

  further : (t : ℕ) → t < length sets → take (t + 1) sets ≡ take t sets ++ (get_or sets t 0 ∷ [])
  further t h = ap (λ (k : ℕ). take k sets) (add-one t) ∙ take-suc sets t 0 h

  pub adding_next : {words' : List ℕ} → t < length sets
      → held_in words' ≡ cond (ltb bound (get_or sets t 0)) (take most (add_entry (get_or sets t 0) (held_in words))) (held_in words) → Adding words₀ sets bound words' (t + 1)
  unfolding collected
  adding_next h e = record {
    start = A.start;
    few = A.few;
    high = omega arith;
    held =
        e ∙ ap (λ (es : List Entry). cond (ltb bound (get_or sets t 0)) (take most (add_entry (get_or sets t 0) es)) es) A.held
        ∙ sym (collected_append most bound (take t sets) (get_or sets t 0 ∷ []) (held_in words₀))
        ∙ ap (collected most bound (held_in words₀)) (sym (further t h));
  }

  pub adding_end : length sets ≤ t → held_in words ≡ collected most bound (held_in words₀) sets
  adding_end h = A.held ∙ ap (collected most bound (held_in words₀)) (take_all t sets h)
