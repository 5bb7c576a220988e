-- What the check of labels finds: each label below n has its mark, or one has none.
-- Main definitions: EachOnce, Counted. Main results: counted_start, counted_next, counted_end.
use Rattle.std.specs.Prelude.{◌≡◌, refl, Bool, true, false, List, ℕ, zero, suc, ◌+◌, ◌≤◌, ◌<◌, length}
use Rattle.std.proofs.Common.{arith, below_more}
use Rattle.text_laws.specs.Cells.{cell}

-- each label below n has its mark, or one has none
abbrev pub EachOnce : List ℕ → ℕ → Bool → Type 0
EachOnce m n true = (x : ℕ) → x < n → cell m (16 + x) ≡ 0 → ⊥
EachOnce m n false = (x : ℕ) × (x < n) × (cell m (16 + x) ≡ 0)

-- the marks of the first i labels: so many are missing
pub record Counted (m : List ℕ) (n missing i : ℕ) : Type 0 where
  pub few : n ≤ 1024
  pub room : length m ≡ 2576
  pub high : i ≤ n
  pub most : missing ≤ i
  pub none_missing : missing ≡ 0 → (x : ℕ) → x < i → cell m (16 + x) ≡ 0 → ⊥
  pub one_missing : (missing ≡ 0 → ⊥) → (x : ℕ) × (x < i) × (cell m (16 + x) ≡ 0)

pub counted_start : {m : List ℕ} {n : ℕ} → n ≤ 1024 → length m ≡ 2576 → Counted m n 0 0
counted_start h r = record { few = h; room = r; high = omega arith; most = omega arith; none_missing = λ e x l. absurd (omega arith); one_missing = λ f. absurd (f refl) }

pub counted_next : {m : List ℕ} {n missing i a : ℕ} → Counted m n missing i → i < n → (a ≤ 1) × (a ≡ 0 → cell m (16 + i) ≡ 0 → ⊥) × ((a ≡ 0 → ⊥) → cell m (16 + i) ≡ 0)
    → Counted m n (missing + a) (i + 1)
counted_next {m} {n} {missing} {i} {a} C h (p, q, r) = record {
  few = C.few;
  room = C.room;
  high = omega arith;
  most = omega (arith, C.most);
  none_missing = λ e. below_more (λ (x : ℕ). cell m (16 + x) ≡ 0 → ⊥) i (C.none_missing (omega arith)) (q (omega arith));
  one_missing = λ f. go a f r;
}
  where
    older : (missing ≡ 0 → ⊥) → (x : ℕ) × (x < i + 1) × (cell m (16 + x) ≡ 0)
    older f = let o = C.one_missing f in (o.0, omega (arith, o.1), o.2)

    go : (a : ℕ) → (missing + a ≡ 0 → ⊥) → ((a ≡ 0 → ⊥) → cell m (16 + i) ≡ 0) → (x : ℕ) × (x < i + 1) × (cell m (16 + x) ≡ 0)
    go zero f r = older (λ e. f (omega arith))
    go (suc a) f r = (i, omega arith, r (λ e. omega arith))

pub counted_end : {m : List ℕ} {n missing i : ℕ} → Counted m n missing i → n ≤ i → (b : Bool) → ((b ≡ true → missing ≡ 0) × (b ≡ false → missing ≡ 0 → ⊥)) → EachOnce m n b
counted_end C h true (f, g) = λ x l. C.none_missing (f refl) x (omega arith)
counted_end C h false (f, g) = let o = C.one_missing (g refl) in (o.0, omega (arith, o.1, C.high), o.2)
