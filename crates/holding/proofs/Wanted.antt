-- How many bytes belong to the record at the front of bytes. Main results: wanted_begun, wanted_no_leaf, wanted_many_leaves, wanted_record;
-- wanted_front, wanted_within.
use Rattle.std.specs.Prelude.{false, List, [], ◌∷◌, ◌≡◌, refl, ℕ, zero, suc, ◌≤◌, ◌<◌, ltb, length, take}
use Rattle.std.proofs.Common.{arith}
use borrow.Author.Tests.{lt-ltb, le-ltb, eq-eqb, ne_eqb}
use Rattle.rules.specs.Record.{leaf_count, record_length}
use Rattle.basics.proofs.Cases.{by_lt, by_eq}
use Rattle.record_laws.proofs.Width.{record_length_least, record_length_most}
use Rattle.holding.specs.Wanted.{bytes_wanted}

module _ (s : List ℕ) where
  pub wanted_begun : length s < 2 → bytes_wanted s ≡ 2
  unfolding bytes_wanted
  wanted_begun h = rw (lt-ltb (length s) 2 h)

  module _ (n : ℕ) (two : 2 ≤ length s) (count : n ≡ leaf_count s) where
    pub wanted_no_leaf : n ≡ 0 → bytes_wanted s ≡ 2
    unfolding bytes_wanted
    wanted_no_leaf e = rw (le-ltb (length s) 2 two, ← count, eq-eqb n 0 e)

    pub wanted_many_leaves : 1024 < n → bytes_wanted s ≡ 2
    unfolding bytes_wanted
    wanted_many_leaves h =
        let d = ne_eqb n 0 (omega arith) in
        rw (le-ltb (length s) 2 two, ← count, d, lt-ltb 1024 n h)

    pub wanted_record : 1 ≤ n → n ≤ 1024 → bytes_wanted s ≡ record_length n
    unfolding bytes_wanted
    wanted_record l h =
        let d = ne_eqb n 0 (omega arith) in
        rw (le-ltb (length s) 2 two, ← count, d, le-ltb 1024 n h)

-- the leaf count stands in the first two bytes
pub count_front : (k : ℕ) (s : List ℕ) → 2 ≤ k → leaf_count (take k s) ≡ leaf_count s
unfolding leaf_count
count_front zero s h = absurd (omega arith)
count_front (suc zero) s h = absurd (omega arith)
count_front (suc (suc k)) [] h = refl
count_front (suc (suc k)) (a ∷ []) h = refl
count_front (suc (suc k)) (a ∷ b ∷ s) h = refl

-- and so do the bytes wanted
pub wanted_front : (k : ℕ) (s : List ℕ) → 2 ≤ k → bytes_wanted (take k s) ≡ bytes_wanted s
unfolding bytes_wanted leaf_count
wanted_front zero s h = absurd (omega arith)
wanted_front (suc zero) s h = absurd (omega arith)
wanted_front (suc (suc k)) [] h = refl
wanted_front (suc (suc k)) (a ∷ []) h = refl
wanted_front (suc (suc k)) (a ∷ b ∷ s) h =
    let l : ltb (suc (suc (length (take k s)))) 2 ≡ false = le-ltb (suc (suc (length (take k s)))) 2 (omega arith) in
    let r : ltb (suc (suc (length s))) 2 ≡ false = le-ltb (suc (suc (length s))) 2 (omega arith) in
    rw (l, r)

pub wanted_within : (s : List ℕ) → (2 ≤ bytes_wanted s) × (bytes_wanted s ≤ 1280)
wanted_within s =
    by_lt (length s) 2 (λ h. two (wanted_begun s h)) (λ two_bytes.
    by_eq n 0 (λ e. two (wanted_no_leaf s n two_bytes refl e)) (λ d.
    by_lt 1024 n (λ h. two (wanted_many_leaves s n two_bytes refl h)) (λ h.
    let e = wanted_record s n two_bytes refl (omega (arith, d)) h in
    (omega (arith, e, record_length_least n), omega (arith, e, record_length_most n h)))))
  where
    n : ℕ
    n = leaf_count s

    two : bytes_wanted s ≡ 2 → (2 ≤ bytes_wanted s) × (bytes_wanted s ≤ 1280)
    two e = (omega arith, omega arith)
