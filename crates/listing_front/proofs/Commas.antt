-- The vector with commas, written entry by entry.
-- Main results: entry_small, entry_behind, first_entry, entry_room, next_entry.
use Rattle.std.proofs.Common.{List, ◌∷◌, ◌++◌, ◌≡◌, sym, ap, ◌∙◌, ℕ, ◌+◌, ◌-◌, ◌*◌, ◌≤◌, ◌<◌, length, get_or, take, drop, set, add-one, arith}
use Rattle.std.proofs.Math.Seq.{take-suc, length-take-le}
use Rattle.std.proofs.lemmas.Grind.{common_steps}
use Rattle.rules.specs.Vector.{entry, bound, Vector}
use Rattle.rules.specs.Newick.{digits}
use Rattle.rules.specs.Listing.{commaed}
use Rattle.digits.specs.Wrote.{Wrote, wrote_same, wrote_behind}
use Rattle.listing_front.specs.Commas.{commaed_at_most, commaed_more}

-- every entry has at most four digits
pub entry_small : (v : List ℕ) (i : ℕ) → Vector v → i < length v → get_or v i 0 < 10000
unfolding entry bound
entry_small v i ok h = omega (arith, ok.few, ok.valid.bounded i h)

-- an entry behind the first one, by its place among those
pub entry_behind : (v : List ℕ) (i : ℕ) {y : ℕ} → y ≡ get_or (take (length v - 1) (drop 1 v)) i 0 → y ≡ get_or v (i + 1) 0
entry_behind v i e = grind (arith, common_steps)

pub first_entry : (v : List ℕ) → 1 ≤ length v → commaed (take 1 v) ≡ digits 4 (get_or v 0 0)
unfolding commaed
first_entry v h = ap commaed (take-suc v 0 0 h)

-- the first i entries of v stand from `at` on, and what follows begins at x
module _ (v : List ℕ) (i : ℕ) {at x : ℕ} {before after : List ℕ} (W : Wrote (commaed (take i v)) at before after x) (more : i < length v) where
  few : length (take i v) ≡ i
  few = length-take-le i v (omega arith)

  -- there is room for a comma and the next entry
  pub entry_room : at + 5 * length v ≤ length before → x + 5 ≤ length after
  entry_room room = omega (arith, W.end, commaed_at_most (take i v), few, wrote_same W)

  pub next_entry : {then : List ℕ} {y r : ℕ} → 1 ≤ i → y ≡ get_or v i 0 → Wrote (digits 4 y) (x + 1) (set after x 44) then r
      → Wrote (commaed (take (i + 1) v)) at before then r
  next_entry {y = y} some same E =
      let e : commaed (take (i + 1) v) ≡ commaed (take i v) ++ (44 ∷ digits 4 (get_or v i 0)) =
      ap commaed (ap (λ (k : ℕ). take k v) (add-one i) ∙ take-suc v i 0 more) ∙ commaed_more (take i v) (get_or v i 0) (omega (arith, few)) in
      rw (e, sym same) (wrote_behind W 44 E)
