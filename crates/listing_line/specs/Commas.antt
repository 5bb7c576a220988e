-- The vector with commas at its longest, each entry at its bound.
-- Main results: commaed_longest.
use mathlib.Core.List.{List, [], ◌∷◌, ◌++◌}
use Rattle.std.specs.Prelude.{◌≡◌, refl}
use Rattle.std.proofs.Common.{sym, ◌∙◌}
use Rattle.std.proofs.Math.Path.{ap}
use Prim.Native.Nat.{ℕ, zero, suc, ◌+◌, ◌≤◌, ◌<◌}
use native.Mathlib.Omega.{arith}
use Rattle.std.proofs.Math.ListN.{length, get_or, take, length-append}
use Rattle.std.proofs.Math.Seq.{take-suc, length-take-le, take-length}
use Rattle.rules.specs.Vector.{Valid, entry, bound}
use Rattle.rules.specs.Newick.{digits}
use Rattle.rules.specs.Listing.{commaed}
use Rattle.basics.specs.Sums.{sum_below}
use Rattle.basics.proofs.Sums.{sum_mono}
use Rattle.digits.specs.Count.{digits_mono}
use Rattle.listing_front.specs.Commas.{commaed_more}

-- the bytes of entry i at its bound, and a comma
bytes_at : ℕ → ℕ
unfolding digits bound
bytes_at i = length (digits 4 (bound i)) + 1

module _ (v : List ℕ) (ok : Valid v) where
  entry_length : (i : ℕ) → i < length v → length (digits 4 (get_or v i 0)) + 1 ≤ bytes_at i
  unfolding bytes_at entry
  entry_length i h = omega (arith, digits_mono 4 (get_or v i 0) (bound i) (ok.bounded i h))

  -- the first entries with commas, and a comma more
  commaed_within : (k : ℕ) → k < length v → length (commaed (take (suc k) v)) + 1 ≤ sum_below bytes_at (suc k)
  unfolding commaed sum_below
  commaed_within zero h = let e : take 1 v ≡ get_or v 0 0 ∷ [] = take-suc v 0 0 h in rw e (omega (arith, entry_length 0 h))
  commaed_within (suc k) h =
      let first : length (take (suc k) v) ≡ suc k = length-take-le (suc k) v (omega arith) in
      let e : commaed (take (suc (suc k)) v) ≡ commaed (take (suc k) v) ++ (44 ∷ digits 4 (get_or v (suc k) 0)) =
      ap commaed (take-suc v (suc k) 0 h) ∙ commaed_more (take (suc k) v) (get_or v (suc k) 0) (omega arith) in
      omega (
        arith,
        ap length e,
        length-append (commaed (take (suc k) v)) (44 ∷ digits 4 (get_or v (suc k) 0)),
        commaed_within k (omega arith),
        entry_length (suc k) h,
      )

bytes_1024 : sum_below bytes_at 1024 ≡ 4562
unfolding sum_below bytes_at
bytes_1024 = refl

-- 1,024 entries at their bounds, and the commas between them
pub commaed_longest : (v : List ℕ) → Valid v → length v ≤ 1024 → length (commaed v) ≤ 4561
commaed_longest v ok few = go (length v) refl
  where
    go : (n : ℕ) → length v ≡ n → length (commaed v) ≤ 4561
    go zero e = absurd (omega (arith, ok.some_leaf))
    go (suc k) e =
        let whole : take (suc k) v ≡ v = ap (λ (j : ℕ). take j v) (sym e) ∙ take-length v in
        omega (arith, rw whole at (commaed_within v ok k (omega arith)), sum_mono bytes_at (suc k) 1024 (omega arith), bytes_1024)
