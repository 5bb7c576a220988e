-- `faults_behind_first` meets its contract: faults counts those among the entries before i.
use Rattle.std.proofs.Common.{◌≡◌, ℕ, ◌-◌, ◌*◌, ◌≤◌, ◌<◌, get_or}
use Rattle.vector.proofs.faults_behind_first.Given as goal

abbrev pub invariant-loop-i : goal.invariant-loop-i
invariant-loop-i l = record {
  fits : l.faults ≤ l.i;
  within : l.faults ≡ 0 → (k : ℕ) → 1 ≤ k → k < l.i → get_or l.v k 0 ≤ 2 * (k - 1);
}
