-- The bytes of a record at the front of a lent list, in two reads: two bytes, and behind them those that these want.
-- Main results: all_counted.
use mathlib.Core.List.{List, ◌++◌}
use mathlib.Core.Logic.{◌≢◌}
use mathlib.Core.Path.{◌≡◌, sym, ap, ◌∙◌}
use Prim.Native.Nat.{ℕ, ◌+◌, ◌-◌, ◌≤◌}
use native.Mathlib.Omega.{arith}
use lib.ListN.{length, take, drop, length-append, length-drop}
use lib.Seq.{length-take-le, take_at}
use Rattle.io.specs.Counts.{IsPrefixLen}
use Rattle.io.proofs.Counting.{prefix_len_of_le}
use Rattle.basics.proofs.Cases.{by_eq}
use Rattle.holding.specs.Wanted.{bytes_wanted}
use Rattle.holding.proofs.Wanted.{wanted_begun, wanted_front, wanted_within}

-- got bytes were read of two, and these want w
module _ (xs : List ℕ) {got w : ℕ} (enough : 1280 ≤ length xs) (few : got ≤ 2) (wants : w ≡ bytes_wanted (take got xs)) where
  -- where more are wanted there were two
  two_read : w ≢ 2 → got ≡ 2
  two_read d = by_eq got 2 (λ e. e) (λ n. absurd (d (wants ∙ wanted_begun (take got xs) (omega (arith, n, length-take-le got xs (omega arith))))))

  more_wanted : (2 ≤ w) × (w ≤ length xs)
  more_wanted = let h = wanted_within (take got xs) in (omega arith, omega arith)

  -- two bytes, and those read behind them
  pub all_counted : (back : List ℕ) (n : ℕ) → w ≢ 2 → n ≤ length back → length back ≡ length (take (w - 2) (drop 2 xs))
      → IsPrefixLen (2 + n) (take 2 xs ++ (back ++ drop (w - 2) (drop 2 xs))) × (2 + n ≤ bytes_wanted (take (2 + n) (take 2 xs ++ (back ++ drop (w - 2) (drop 2 xs)))))
  all_counted back n d l b = (
    prefix_len_of_le (2 + n) ys (omega (arith, length-append (take 2 xs) rest, length-append back (drop (w - 2) (drop 2 xs)), two)),
    omega (arith, same, more_wanted, b, length-take-le (w - 2) (drop 2 xs) behind),
  )
    where
      rest : List ℕ
      rest = back ++ drop (w - 2) (drop 2 xs)

      ys : List ℕ
      ys = take 2 xs ++ rest

      two : length (take 2 xs) ≡ 2
      two = length-take-le 2 xs (omega arith)

      behind : w - 2 ≤ length (drop 2 xs)
      behind = omega (arith, more_wanted, length-drop 2 xs)

      same : bytes_wanted (take (2 + n) ys) ≡ w
      same =
          wanted_front (2 + n) ys (omega arith) ∙ sym (wanted_front 2 ys (omega arith))
          ∙ ap bytes_wanted (take_at (take 2 xs) rest 2 two ∙ ap (λ (k : ℕ). take k xs) (sym (two_read d)))
          ∙ sym wants
