-- The searches of the rules find the first place where something is wrong, or that nothing is.
use Rattle.std.specs.Prelude.{◌⊎◌, ◌≡◌, ℕ, ◌≤◌, ◌<◌}
use Rattle.rules.specs.Names.{Placed}

-- number i of some is not below n, or used before
abbrev pub UnfitAt : ℕ → (ℕ → ℕ) → ℕ → Type 0
UnfitAt n number i = (n ≤ number i) ⊎ ((j : ℕ) × (j < i) × (number j ≡ number i))

-- 9 and 13: the first label that is not below n, or used before: which of the two, and the place of its first byte
abbrev pub value : Placed → ℕ
value l = l.1
