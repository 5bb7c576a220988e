-- The words of a tree's nodes: those of the leaves, and behind them, row by row, those of the pairs.
-- Main definitions: Paired, PairRoom, Pairing. Main results: pairing_start, pairing_room, pairing_next, vector_paired.
use Rattle.std.specs.Prelude.{List, map, ◌≡◌, ℕ, ◌+◌, ◌-◌, ◌*◌, ◌≤◌, ◌<◌, length, get_or, set, take, drop}
use Rattle.std.proofs.Common.{sym, ap, subst, ◌∙◌, arith, length-set, get_or-set_same, get_or-set_other, below_more}
use Rattle.rules.specs.Table.{Row}
use Rattle.merging.specs.Insertion.{pairs}
use Rattle.merges.specs.Held.{held}
use Rattle.written_tables.specs.Rows.{vector_rows}
use Rattle.numbering.specs.Numbered.{held_rows, BeforeRows, Numbered, next_merge, numbered_start, numbered_next, row_at, rows_of_pairs}
use Rattle.label_words.specs.Leaves.{word_places, leaves_place, LeafWords}

-- a row's two children in one word
abbrev pub pair_word : Row → ℕ
pair_word r = r.0 + r.1 * 65536

-- the words of n leaves and of the first t rows
pub record PairedTo (n : ℕ) (rows : List Row) (words : List ℕ) (t : ℕ) : Type 0 where
  pub leaf_words : LeafWords n words
  pub pair_words : (j : ℕ) → j < t → get_or words (n + j) 0 ≡ pair_word (get_or rows j (0, 0, 0))

abbrev pub Paired : ℕ → List Row → List ℕ → Type 0
Paired n rows words = PairedTo n rows words (n - 1)

-- where the two names of merge t stand, and its word
abbrev pub PairRoom : ℕ → List ℕ → List ℕ → ℕ → ℕ → ℕ → Type 0
PairRoom n number words t a b = (a < length number) × (b < length number) × (a < 1024) × (b < 1024) × (n + t < word_places) × (n + t < length words)

-- the loop: the words of the first t rows stand, and number has the node of each name
pub record Pairing (list small : List ℕ) (start n : ℕ) (number₀ number words : List ℕ) (t : ℕ) : Type 0 where
  pub numbered : Numbered list small start n number₀ number t
  pub paired : PairedTo n (held_rows list small start n) words t

pub pairing_start : {list small : List ℕ} {start n : ℕ} {number words : List ℕ} → BeforeRows list small start n number → LeafWords n words → Pairing list small start n number number words 0
pairing_start H L = record { numbered = numbered_start H; paired = record { leaf_words = L; pair_words = λ j h. absurd (omega arith) } }

module _ {list small : List ℕ} {start n : ℕ} {number₀ number words : List ℕ} {t : ℕ} (P : Pairing list small start n number₀ number words t) where
  pub pairing_room : {a b : ℕ} → t < n - 1 → b ≡ get_or list (start + t) 0 → a ≡ get_or small b 0 → PairRoom n number words t a b
  pairing_room h eb ea =
      let T = next_merge P.numbered h eb ea in
      (T.a_in_number, T.b_in_number, omega (arith, T.name_a, T.few), omega (arith, T.name_b, T.few), omega (arith, T.few), omega (arith, T.few, P.paired.leaf_words.long))

  pub pairing_next : {a b w : ℕ} → t < n - 1 → b ≡ get_or list (start + t) 0 → a ≡ get_or small b 0 → w ≡ get_or number a 0 + get_or number b 0 * 65536
      → Pairing list small start n number₀ (set number a (n + t)) (set words (n + t) w) (t + 1)
  pairing_next {a} {b} {w} h eb ea ew =
      let N = P.numbered in
      let L = P.paired.leaf_words in
      let rows = held_rows list small start n in
      let few : n ≤ 1024 = N.given.few in
      let here : w ≡ pair_word (get_or rows t (0, 0, 0)) = ew ∙ sym (ap pair_word (row_at N h eb ea)) in
      record {
        numbered = numbered_next N h eb ea;
        paired = record {
          leaf_words = record {
            labels = λ x g. get_or-set_other words (n + t) x w 0 (λ q. omega arith) ∙ L.labels x g;
            leaves = get_or-set_other words (n + t) leaves_place w 0 (λ q. omega arith) ∙ L.leaves;
            long = length-set words (n + t) w ∙ L.long;
          };
          pair_words = below_more (λ (j : ℕ). get_or (set words (n + t) w) (n + j) 0 ≡ pair_word (get_or rows j (0, 0, 0))) t
              (λ j g. get_or-set_other words (n + t) (n + j) w 0 (λ q. omega arith) ∙ P.paired.pair_words j g)
              (get_or-set_same words (n + t) w 0 (omega (arith, L.long)) ∙ here);
        };
      }

-- the rows of the merges of a vector
pub vector_paired : (v list small : List ℕ) (start : ℕ) (words : List ℕ) → map (held small) (take (length v - 1) (drop start list)) ≡ pairs v
    → Paired (length v) (held_rows list small start (length v)) words → Paired (length v) (vector_rows v) words
vector_paired v list small start words e P = subst (λ (rs : List Row). Paired (length v) rs words) (rows_of_pairs v list small start e) P
