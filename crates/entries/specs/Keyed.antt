-- The loops over the keys and along a chain, as the code runs them: the steps of Entered, whatever is given.
-- Main definitions: Keyed, Following. Main results: keyed_skip, keyed_head, keyed_chain, following_start, following_next, following_end.
use Rattle.std.specs.Prelude.{◌≡◌, refl, ◌≢◌, Bool, false, List, ℕ, ◌+◌, ◌-◌, ◌≤◌, ◌<◌, length, set}
use Rattle.std.proofs.Common.{ap, ◌∙◌, subst, arith, length-set}
use Rattle.read_tables.specs.Count.{count}
use Rattle.read_tables.specs.Chains.{falling}
use Rattle.ranks.specs.Ranks.{Ranks, also}
use Rattle.chains.specs.Walk.{cell, far}
use Rattle.entries.specs.Entered.{MadeFrom, Entered, Holding, Headed, key_room, entered_skip, entered_head, headed_end, headed_room, headed_ranked, headed_few, headed_less, headed_next}

-- the chains of all keys from k on have their entries, and the arrays of the others are there
pub record Keyed (g : MadeFrom) (small next last : List ℕ) (k keys : ℕ) (blocks names out : List ℕ) : Type 0 where
  pub entered : Entered g k keys (falling g.chains k) blocks names out
  pub holding : Holding g next last
  pub smalls : g.small ≡ small

module _ (k : ℕ) {g : MadeFrom} {small next last : List ℕ} {keys : ℕ} {blocks names out : List ℕ} (K : Keyed g small next last (k + 1) keys blocks names out) where
  pub keyed_room : (k < length out) × (k < length small) × (k < length next) × (k < length last) × (keys < 1024) × (k < 1024)
  keyed_room = let a = key_room k K.entered K.holding in omega (arith, ap length K.smalls)

  pub keyed_skip : cell last k ≡ 0 → Keyed g small next last k keys blocks names (set out k keys)
  keyed_skip e = record { entered = entered_skip k K.entered K.holding e; holding = K.holding; smalls = K.smalls }

  pub keyed_head : cell last k ≢ 0 → Headed g k (keys + 1) next blocks names (set out k (cell small k)) (cell next k)
  keyed_head d =
      subst (λ (xs : List ℕ). Headed g k (keys + 1) next blocks names (set out k (cell xs k)) (cell next k)) K.smalls (entered_head k K.entered K.holding d)

  pub keyed_chain : {keys' : ℕ} {blocks' names' out' : List ℕ} → Entered g k keys' (falling g.chains k) blocks' names' out' → Keyed g small next last k keys' blocks' names' out'
  keyed_chain E = record { entered = E; holding = K.holding; smalls = K.smalls }

-- whatever is given, a walk that began at the key k has come to j
pub record Following (k keys : ℕ) (next blocks₀ names₀ out₀ blocks names out : List ℕ) (j : ℕ) : Type 0 where
  pub some_given : (g : MadeFrom) × Headed g k keys next blocks names out j
  pub each : (g : MadeFrom) → Headed g k keys next blocks₀ names₀ out₀ (cell next k) → Headed g k keys next blocks names out j
  pub of_out : length out ≡ length out₀

pub following_start : {k keys j : ℕ} {next blocks names out : List ℕ} → (g : MadeFrom) × Headed g k keys next blocks names out (cell next k) → j ≡ cell next k
    → Following k keys next blocks names out blocks names out j
following_start S e = rw e (record { some_given = S; each = λ g H. H; of_out = refl })

module _ {k keys j : ℕ} {next blocks₀ names₀ out₀ blocks names out : List ℕ} (F : Following k keys next blocks₀ names₀ out₀ blocks names out j) where
  pub following_end : j ≡ 0 → (g : MadeFrom) → Headed g k keys next blocks₀ names₀ out₀ (cell next k) → Entered g k keys (falling g.chains k) blocks names out
  following_end e g H = headed_end (F.each g H) e

  module _ (d : j ≢ 0) where
    pub following_room : (1 ≤ j) × (j < 1024) × (j < length out) × (j < length next)
    following_room = headed_room F.some_given.1 d

    pub following_ranked : (f : ℕ → Bool) × Ranks f blocks names × (f j ≡ false)
    following_ranked = headed_ranked F.some_given.1 d

    -- r is the rank of j, w what out has of it, x the next name
    module _ {r w : ℕ} (er : (f : ℕ → Bool) → Ranks f blocks names → r ≡ count f j) (ew : w ≡ cell out j) where
      pub following_few : (keys + r ≤ 2048) × (w ≤ keys + r)
      following_few = rw ew (headed_few F.some_given.1 d er)

      pub following_next : {x : ℕ} {blocks' names' : List ℕ} → ((f : ℕ → Bool) → Ranks f blocks names → f j ≡ false → Ranks (also f j) blocks' names') → x ≡ cell next j
          → Following k keys next blocks₀ names₀ out₀ blocks' names' (set out j (j - 1 + (keys + r - w))) x
      following_next I ex = rw (ew, ex) (record {
        some_given = (F.some_given.0, headed_next F.some_given.1 d er I);
        each = λ g H. headed_next (F.each g H) d er I;
        of_out = length-set out j (j - 1 + (keys + r - cell out j)) ∙ F.of_out;
      })

    pub following_less : {x : ℕ} → x ≡ cell next j → far (cell next) 1024 x < far (cell next) 1024 j
    following_less e = rw e (headed_less F.some_given.1 d)
