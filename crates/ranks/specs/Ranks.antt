-- A set of names below 1,024, in blocks of 64, as the ranks of its members: how many are below each block, and how many of its block
-- are below each name. The set itself is a test on numbers.
-- Main definitions: Ranks, also. Main results: ranks_none, ranks_also, count_also.
use Rattle.std.specs.Prelude.{◌≡◌, refl, Bool, true, false, ◌||◌, List, ℕ, zero, suc, ◌+◌, ◌*◌, ◌/◌, ◌%◌, ◌≤◌, ◌<◌, eqb, ltb, length, get_or, replicate}
use Rattle.std.proofs.Common.{sym, ap, ap₂, ◌∙◌, add-zero, add-suc, zero-add, arith, eqb-true, ltb-true, ltb-false, lt-ltb, le-ltb}
use Rattle.std.proofs.lemmas.Bool.{false≢true, eqb-false}
use Rattle.std.proofs.lemmas.List.{length-replicate, get_or-replicate}
use Rattle.read_tables.specs.Count.{bit, count}
use Rattle.read_tables.proofs.Count.{count_none, count_or}
use Rattle.steps.specs.Steps.{Added}

-- blocks has how many members are below each block, names how many of its block are below each name
pub record Ranks (f : ℕ → Bool) (blocks names : List ℕ) : Type 0 where
  pub blocks_long : length blocks ≡ 16
  pub names_long : length names ≡ 1024
  pub before : (w : ℕ) → w < 16 → get_or blocks w 0 ≡ count f (64 * w)
  pub within : (x : ℕ) → x < 1024 → count f (64 * (x / 64)) + get_or names x 0 ≡ count f x

-- the set with i
abbrev pub also : (ℕ → Bool) → ℕ → ℕ → Bool
also f i = λ y. f y || eqb y i

-- ---- counts of members
bit_le : (b : Bool) → bit b ≤ 1
unfolding bit
bit_le true = omega arith
bit_le false = omega arith

count_further : (f : ℕ → Bool) (a d : ℕ) → count f (a + d) ≤ count f a + d
unfolding count
count_further f a zero = rw (add-zero a) (omega arith)
count_further f a (suc d) = rw (add-suc a d) (omega (arith, bit_le (f (a + d)), count_further f a d))

pub count_le : (f : ℕ → Bool) (x : ℕ) → count f x ≤ x
unfolding count
count_le f x = omega (arith, count_further f 0 x, ap (count f) (zero-add x))

count_one : (i x : ℕ) → count (λ y. eqb y i) x ≡ bit (ltb i x)
unfolding count bit
count_one i zero = rw (le-ltb i 0 (omega arith))
count_one i (suc x) = go (eqb x i) refl (ltb i x) refl (count_one i x)
  where
    go : (a : Bool) → eqb x i ≡ a → (b : Bool) → ltb i x ≡ b → count (λ y. eqb y i) x ≡ bit b → bit a + count (λ y. eqb y i) x ≡ bit (ltb i (suc x))
    go true p true q h = absurd (omega (arith, eqb-true x i p, ltb-true i x q))
    go true p false q h = let z = eqb-true x i p in rw (lt-ltb i (suc x) (omega arith)) (omega arith)
    go false p true q h = let z = ltb-true i x q in rw (lt-ltb i (suc x) (omega arith)) (omega arith)
    go false p false q h = let z = eqb-false x i p in let y = ltb-false i x q in rw (le-ltb i (suc x) (omega arith)) (omega arith)

-- a new member counts for each number above it
pub count_also : (f : ℕ → Bool) (i x : ℕ) → f i ≡ false → count (also f i) x ≡ count f x + bit (ltb i x)
count_also f i x h = count_or f (λ y. eqb y i) x apart ∙ ap (λ (n : ℕ). count f x + n) (count_one i x)
  where
    apart : (y : ℕ) → f y ≡ true → eqb y i ≡ true → ⊥
    apart y p q = false≢true (sym h ∙ ap f (sym (eqb-true y i q)) ∙ p)

-- ---- the ranks
pub ranks_none : Ranks (λ y. false) (replicate 16 0) (replicate 1024 0)
ranks_none = record {
  blocks_long = length-replicate {A = ℕ} 16 0;
  names_long = length-replicate {A = ℕ} 1024 0;
  before = λ w l. get_or-replicate {A = ℕ} 16 w 0 0 l ∙ sym (none (64 * w));
  within = λ x l. omega (arith, get_or-replicate {A = ℕ} 1024 x 0 0 l, none (64 * (x / 64)), none x);
}
  where
    none : (x : ℕ) → count (λ y. false) x ≡ 0
    none x = count_none (λ y. false) x (λ y k. refl)

-- the counts stay small
pub block_le : {f : ℕ → Bool} {blocks names : List ℕ} → Ranks f blocks names → (w : ℕ) → w < 16 → get_or blocks w 0 ≤ 1024
block_le {f} R w h = omega (arith, R.before w h, count_le f (64 * w))

pub name_le : {f : ℕ → Bool} {blocks names : List ℕ} → Ranks f blocks names → (x : ℕ) → x < 1024 → get_or names x 0 ≤ 63
name_le {f} R x h =
    let e : 64 * (x / 64) + x % 64 ≡ x = omega arith in
    omega (arith, R.within x h, count_further f (64 * (x / 64)) (x % 64), ap (count f) e)

-- i counts for each later block, and for each later name of its block
pub ranks_also : {f : ℕ → Bool} {blocks names blocks' names' : List ℕ} {i : ℕ} → Ranks f blocks names → f i ≡ false → i < 1024
    → Added (i / 64) blocks blocks' 16 → Added i names names' (64 * (i / 64) + 64) → Ranks (also f i) blocks' names'
unfolding bit
ranks_also {f} {blocks} {names} {blocks'} {names'} {i} R e h B N = record {
  blocks_long = B.same ∙ R.blocks_long;
  names_long = N.same ∙ R.names_long;
  before = λ w l. B.past w l ∙ ap₂ (λ (m n : ℕ). m + n) (R.before w l) (ap bit (tests w)) ∙ sym (count_also f i (64 * w) e);
  within = λ x l. name x l (ltb x (64 * (i / 64) + 64)) refl;
}
  where
    tests : (w : ℕ) → ltb (i / 64) w ≡ ltb i (64 * w)
    tests w = go (ltb (i / 64) w) refl
      where
        go : (b : Bool) → ltb (i / 64) w ≡ b → b ≡ ltb i (64 * w)
        go true q = let z = ltb-true (i / 64) w q in sym (lt-ltb i (64 * w) (omega arith))
        go false q = let z = ltb-false (i / 64) w q in sym (le-ltb i (64 * w) (omega arith))

    name : (x : ℕ) → x < 1024 → (b : Bool) → ltb x (64 * (i / 64) + 64) ≡ b → count (also f i) (64 * (x / 64)) + get_or names' x 0 ≡ count (also f i) x
    name x l true q =
        let z = ltb-true x (64 * (i / 64) + 64) q in
        let o : bit (ltb i (64 * (x / 64))) ≡ 0 = rw (le-ltb i (64 * (x / 64)) (omega arith)) refl in
        omega (arith, N.past x z, R.within x l, count_also f i (64 * (x / 64)) e, count_also f i x e)
    name x l false q =
        let z = ltb-false x (64 * (i / 64) + 64) q in
        let o : bit (ltb i (64 * (x / 64))) ≡ 1 = rw (lt-ltb i (64 * (x / 64)) (omega arith)) refl in
        let p : bit (ltb i x) ≡ 1 = rw (lt-ltb i x (omega arith)) refl in
        omega (arith, N.ahead x z, R.within x l, count_also f i (64 * (x / 64)) e, count_also f i x e)
