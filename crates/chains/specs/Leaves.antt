-- The arrays before the first row: every leaf is a node of its own.
-- Main definition: Keyless. Main results: keyless_start, keyless_next, built_leaves.
use Rattle.std.specs.Prelude.{◌≡◌, List, [], ℕ, ◌+◌, ◌≤◌, ◌<◌, length, set, replicate}
use Rattle.std.proofs.Common.{◌∙◌, arith, below_more, length-set, get_or-set_same, get_or-set_other}
use Rattle.std.proofs.lemmas.List.{length-replicate, get_or-replicate}
use Rattle.chains.specs.Key.{no_key}
use Rattle.chains.specs.Walk.{cell}
use Rattle.chains.specs.Built.{Built, built_start}

-- the first k nodes have no key yet, and no chain has begun
pub record Keyless (k : ℕ) (lows small next last : List ℕ) : Type 0 where
  pub keys : (j : ℕ) → j < k → cell lows j ≡ no_key
  pub ends : (j : ℕ) → j < 1024 → cell next j ≡ 0
  pub none : (j : ℕ) → j < 1024 → cell last j ≡ 0
  pub lows_long : length lows ≡ 2048
  pub small_long : length small ≡ 1024
  pub next_long : length next ≡ 1024
  pub last_long : length last ≡ 1024

pub keyless_start : (l m : ℕ) {lows small next last : List ℕ} → l ≡ 2048 → m ≡ 1024 → lows ≡ replicate l 0 → small ≡ replicate m 0 → next ≡ replicate m 0 → last ≡ replicate m 0
    → Keyless 0 lows small next last
keyless_start l m el em a b c d = rw (a, b, c, d) (record {
  keys = λ j h. absurd (omega arith);
  ends = λ j h. get_or-replicate {A = ℕ} m j 0 0 (omega arith);
  none = λ j h. get_or-replicate {A = ℕ} m j 0 0 (omega arith);
  lows_long = length-replicate {A = ℕ} l 0 ∙ el;
  small_long = length-replicate {A = ℕ} m 0 ∙ em;
  next_long = length-replicate {A = ℕ} m 0 ∙ em;
  last_long = length-replicate {A = ℕ} m 0 ∙ em;
})

pub keyless_next : {k : ℕ} {lows small next last : List ℕ} → Keyless k lows small next last → k < 2048 → Keyless (k + 1) (set lows k no_key) small next last
keyless_next {k} {lows} K h = record {
  keys = below_more _ _ (λ j l. get_or-set_other lows k j no_key 0 (omega arith) ∙ K.keys j l) (get_or-set_same lows k no_key 0 (omega (arith, K.lows_long)));
  ends = K.ends;
  none = K.none;
  lows_long = length-set lows k no_key ∙ K.lows_long;
  small_long = K.small_long;
  next_long = K.next_long;
  last_long = K.last_long;
}

pub built_leaves : {n : ℕ} {names lows small next last : List ℕ} → n ≤ 1024 → length names ≡ 2048 → ((k : ℕ) → k < n → cell names k ≡ k) → Keyless n lows small next last
    → Built n [] names lows small next last
built_leaves few long itself K =
    built_start few (omega arith) (omega (arith, K.lows_long)) (omega (arith, K.small_long)) (omega (arith, K.next_long)) (omega (arith, K.last_long)) itself
    K.keys (λ k h. K.ends k (omega arith)) (λ k h. K.none k (omega arith))
