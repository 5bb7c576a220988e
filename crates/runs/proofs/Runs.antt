-- Where a run of one width ends, and the bits of four entries of one width.
-- Main results: run_to, fours_on, run_four, run_wide, total_four.
use mathlib.Core.Path.{◌≡◌, sym, ap, ◌∙◌}
use Prim.Native.Nat.{ℕ, suc, ◌+◌, ◌-◌, ◌*◌, ◌%◌, ◌^◌, ◌≤◌, ◌<◌, min}
use native.Mathlib.Nat.{one-mul, mod-eq_of_lt}
use native.Mathlib.Omega.{arith}
use lib.Pow.{pow-lt}
use Rattle.rules.specs.Record.{width, total}
use Rattle.record_laws.proofs.Width.{width_below, width_least, width_most, width_run, width_fours, total_suc}
use Rattle.runs.specs.Runs.{Fours, Run}

-- the end of the entries of one width, as a shift makes it
pub run_shift : (w : ℕ) → w ≤ 11 → 1 * 2 ^ (w - 1) % 2 ^ 64 ≡ 2 ^ (w - 1)
run_shift w h = ap (λ (n : ℕ). n % 2 ^ 64) (one-mul (2 ^ (w - 1))) ∙ mod-eq_of_lt (pow-lt {i = w - 1} {j = 64} (omega arith))

pub run_small : (w : ℕ) → w ≤ 11 → 2 ^ (w - 1) < 2 ^ 16
run_small w h = pow-lt {i = w - 1} {j = 16} (omega arith)

-- a run ends behind the last entry of its width, or where the fours end before
pub run_to : (i end r : ℕ) → Fours i end → i < end → r ≡ min (2 ^ (width i - 1) + 1) end → (i < r) × (r ≤ end) × Run i r
run_to i end r f h e =
    let a = width_below i f.from in
    let b = width_fours i f.from in (
      omega arith,
      omega arith,
      record {
        fours = record { from = f.from; first = f.first; last = omega (arith, f.last) };
        one_width = λ j l m. width_run i j f.from l (omega arith);
      },
    )

-- behind a run the fours go on
pub fours_on : {i r end : ℕ} → Fours i end → i ≤ r → Run i r → Fours r end
fours_on f l g = record { from = omega (arith, f.from); first = g.fours.last; last = f.last }

-- four entries of one width
pub total_four : (i w : ℕ) → ((j : ℕ) → i ≤ j → j < i + 4 → width j ≡ w) → total (i + 4) ≡ total i + 4 * w
total_four i w e =
    let f : i + 4 ≡ suc (suc (suc (suc i))) = omega arith in
    rw f
    (omega (
      arith,
      total_suc i,
      total_suc (suc i),
      total_suc (suc (suc i)),
      total_suc (suc (suc (suc i))),
      e i (omega arith) (omega arith),
      e (suc i) (omega arith) (omega arith),
      e (suc (suc i)) (omega arith) (omega arith),
      e (suc (suc (suc i))) (omega arith) (omega arith),
    ))

-- within a run: the next four are whole, and have its width, which is 4 bits at least and 11 at most
pub run_four : {i₀ end : ℕ} (i w : ℕ) → Run i₀ end → i₀ ≤ i → i % 4 ≡ 1 → i < end → w ≡ width i₀
    → (i + 4 ≤ end) × ((j : ℕ) → i ≤ j → j < i + 4 → width j ≡ w)
run_four {end = end} i w r a f h e =
    let l : i + 4 ≤ end = omega (arith, f, r.fours.last) in
    (l, λ j b d. r.one_width j (omega arith) (omega arith) ∙ sym e)

pub run_wide : {i₀ end : ℕ} (w : ℕ) → Run i₀ end → i₀ ≤ 1024 → w ≡ width i₀ → (4 ≤ w) × (w ≤ 11)
run_wide {i₀} w r h e = (omega (arith, width_least i₀ r.fours.from), omega (arith, width_most i₀ h))
