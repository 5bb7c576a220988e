-- Numbers of one type added to those of another list, place by place.
-- Main definitions: Addable, Summed.
use Rattle.std.specs.Prelude.{◌≡◌, ◌⊎◌, List, ℕ, ◌+◌, ◌≤◌, ◌<◌, length, get_or}

-- the first steps, from one place on, can be added to the counts from another on
pub record Addable {A : Type 0} (can : A → A → Type 0) (at : ℕ) (counts : List A) (from : ℕ) (steps : List A) (many : ℕ) : Type 0 where
  pub each : (k : ℕ) (d : A) → k < many → can (get_or counts (at + k) d) (get_or steps (from + k) d)

-- they are added, and the other counts are as they were
pub record Summed {A : Type 0} (gives : A → A → A → Type 0) (at : ℕ) (counts₀ : List A) (from : ℕ) (steps counts : List A) (many : ℕ) : Type 0 where
  pub same : length counts ≡ length counts₀
  pub each : (k : ℕ) (d : A) → k < many → gives (get_or counts₀ (at + k) d) (get_or steps (from + k) d) (get_or counts (at + k) d)
  pub others : (x : ℕ) (d : A) → (x < at) ⊎ (at + many ≤ x) → get_or counts x d ≡ get_or counts₀ x d
