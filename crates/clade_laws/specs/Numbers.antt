-- A number stands for a set of leaves: leaf x is bit x. Main definitions: bit, Stands.
use Rattle.std.specs.Prelude.{◌≡◌, Bool, ℕ, zero, suc, ◌+◌, ◌*◌, ◌/◌, ◌%◌, ◌^◌, eqb}
use Rattle.rules.specs.Tree.{Tree, leaf, node}
use Rattle.basics.specs.Sums.{one}

-- bit x of a number
unfoldable pub bit : ℕ → ℕ → Bool
bit m x = eqb (m / 2 ^ x % 2) 1

-- a number stands for a set of leaves: x is in the set exactly when bit x is set
unfoldable pub Stands : ℕ → (ℕ → Bool) → Type 0
Stands m c = (x : ℕ) → bit m x ≡ c x

-- the number of a set of leaves below n, from bit 0 up
unfoldable pub set_number : ℕ → (ℕ → Bool) → ℕ
set_number zero c = 0
set_number (suc n) c = one (c 0) + 2 * set_number n (λ x. c (suc x))

-- a number above every leaf
unfoldable pub top : Tree → ℕ
top (leaf x) = suc x
top (node l r) = top l + top r
