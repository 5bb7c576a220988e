-- Four numbers of one width, one behind the other in one number.
-- Main definition: Sizes. Main results: sizes_of, four_lt.
use mathlib.Core.Path.{◌≡◌}
use mathlib.Core.List.{List}
use Prim.Native.Nat.{ℕ, ◌+◌, ◌*◌, ◌<◌, ◌≤◌, ◌^◌}
use native.Mathlib.Nat.{le_trans}
use native.Mathlib.Omega.{arith}
use lib.ListN.{get_or}
use lib.Pow.{pow_mono}
use Rattle.record_laws.proofs.Number.{joined_lt}
use Rattle.four_entries.specs.Four.{four_of}

-- how large the four numbers are, and those that the first one, two and three of them make on the way
pub record Sizes (v : List ℕ) (i w : ℕ) : Type 0 where
  pub first : get_or v i 0 < 2 ^ w
  pub second : get_or v (i + 1) 0 < 2 ^ w
  pub third : get_or v (i + 2) 0 < 2 ^ w
  pub fourth : get_or v (i + 3) 0 < 2 ^ w
  pub by_one : get_or v i 0 < 2 ^ 48
  pub by_two : get_or v i 0 * 2 ^ w + get_or v (i + 1) 0 < 2 ^ 48
  pub by_three : (get_or v i 0 * 2 ^ w + get_or v (i + 1) 0) * 2 ^ w + get_or v (i + 2) 0 < 2 ^ 48

pub sizes_of : (v : List ℕ) (i w : ℕ) → w ≤ 14 → ((j : ℕ) → i ≤ j → j < i + 4 → get_or v j 0 < 2 ^ w) → Sizes v i w
sizes_of v i w l h =
    let a = h i (omega arith) (omega arith) in
    let b = h (i + 1) (omega arith) (omega arith) in
    let c = h (i + 2) (omega arith) (omega arith) in
    record {
      first = a;
      second = b;
      third = c;
      fourth = h (i + 3) (omega arith) (omega arith);
      by_one = le_trans a (pow_mono {i = w} {j = 48} (omega arith));
      by_two = le_trans (joined_lt w w a b) (pow_mono {i = w + w} {j = 48} (omega arith));
      by_three = le_trans (joined_lt (w + w) w (joined_lt w w a b) c) (pow_mono {i = w + w + w} {j = 48} (omega arith));
    }

pub four_lt : (v : List ℕ) (i w : ℕ) → Sizes v i w → four_of v i w < 2 ^ (4 * w)
unfolding four_of
four_lt v i w s =
    let e : w + w + w + w ≡ 4 * w = omega arith in
    rw e at (joined_lt (w + w + w) w (joined_lt (w + w) w (joined_lt w w s.first s.second) s.third) s.fourth)
