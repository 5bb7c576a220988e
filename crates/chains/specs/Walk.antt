-- Chains of names in arrays: next has the name behind each name, and 0 behind the last; last has the last name of each chain.
-- Main definitions: cell, Walk, last_of, ChainIs, far. Main results: last_cases, chain_pos, far_is, chain_kept, chain_more.
use Rattle.std.specs.Prelude.{◌≡◌, refl, ◌≢◌, ◌⊎◌, cond, List, [], ◌∷◌, ◌++◌, ℕ, zero, suc, ◌≤◌, eqb, length, get_or}
use Rattle.std.proofs.Common.{sym, ap, ◌∙◌, inl, inr, arith, eq-eqb, ne_eqb}
use Rattle.read_tables.specs.Chains.{In}

-- what stands in an array
abbrev pub cell : List ℕ → ℕ → ℕ
cell xs i = get_or xs i 0

-- from x on, next leads through these names and then to 0
unfoldable pub Walk : (ℕ → ℕ) → ℕ → List ℕ → Type 0
Walk next x [] = x ≡ 0
Walk next x (y ∷ ys) = (x ≡ y) × (1 ≤ y) × Walk next (next y) ys

-- the last of y and the names behind it
unfoldable pub last_of : ℕ → List ℕ → ℕ
last_of y [] = y
last_of y (z ∷ zs) = last_of z zs

-- the chain of key k is this list
unfoldable pub ChainIs : (ℕ → ℕ) → (ℕ → ℕ) → ℕ → List ℕ → Type 0
unfolding Walk last_of
ChainIs next last k [] = last k ≡ 0
ChainIs next last k (y ∷ ys) = (last k ≡ last_of y ys) × (1 ≤ y) × Walk next (next y) ys

last_in : (y : ℕ) (ys : List ℕ) → In (last_of y ys) (y ∷ ys)
unfolding last_of In
last_in y [] = inl refl
last_in y (z ∷ zs) = inr (last_in z zs)

last_snoc : (y : ℕ) (ys : List ℕ) (i : ℕ) → last_of y (ys ++ (i ∷ [])) ≡ i
unfolding last_of
last_snoc y [] i = refl
last_snoc y (z ∷ zs) i = last_snoc z zs i

last_pos : (next : ℕ → ℕ) (y : ℕ) (ys : List ℕ) → 1 ≤ y → Walk next (next y) ys → 1 ≤ last_of y ys
unfolding last_of Walk
last_pos next y [] h w = h
last_pos next y (z ∷ zs) h w = last_pos next z zs w.1 w.2

walk_ends : (next : ℕ → ℕ) (y : ℕ) (ys : List ℕ) → Walk next (next y) ys → next (last_of y ys) ≡ 0
unfolding last_of Walk
walk_ends next y [] w = w
walk_ends next y (z ∷ zs) w = walk_ends next z zs w.2

-- the last name of a chain is in it, where there is one
pub last_cases : (next last : ℕ → ℕ) (k : ℕ) (c : List ℕ) → ChainIs next last k c → (last k ≡ 0) ⊎ ((1 ≤ last k) × In (last k) c)
unfolding ChainIs
last_cases next last k [] H = inl H
last_cases next last k (y ∷ ys) H = inr (rw H.0 (last_pos next y ys H.1 H.2), rw H.0 (last_in y ys))

pub chain_pos : (next last : ℕ → ℕ) (k y : ℕ) (ys : List ℕ) → ChainIs next last k (y ∷ ys) → 1 ≤ last k
unfolding ChainIs
chain_pos next last k y ys H = rw H.0 (last_pos next y ys H.1 H.2)

-- how many steps lead from x to 0, up to d
unfoldable pub far : (ℕ → ℕ) → ℕ → ℕ → ℕ
far next zero x = 0
far next (suc d) x = cond (eqb x 0) 0 (suc (far next d (next x)))

pub far_is : (next : ℕ → ℕ) (d x : ℕ) (l : List ℕ) → Walk next x l → length l ≤ d → far next d x ≡ length l
unfolding far Walk
far_is next zero x [] w h = refl
far_is next zero x (y ∷ ys) w h = absurd (omega arith)
far_is next (suc d) x [] w h = rw (eq-eqb x 0 w)
far_is next (suc d) x (y ∷ ys) w h = rw (w.0, ne_eqb y 0 (omega (arith, w.1))) (ap suc (far_is next d (next y) ys w.2 (omega arith)))

-- ---- other arrays that agree on the chain
walk_kept : (next next' : ℕ → ℕ) (x x' : ℕ) (l : List ℕ) → x' ≡ x → ((y : ℕ) → In y l → next' y ≡ next y) → Walk next x l → Walk next' x' l
unfolding Walk In
walk_kept next next' x x' [] e h w = e ∙ w
walk_kept next next' x x' (y ∷ ys) e h w = (e ∙ w.0, w.1, walk_kept next next' (next y) (next' y) ys (h y (inl refl)) (λ z i. h z (inr i)) w.2)

pub chain_kept : (next last next' last' : ℕ → ℕ) (k : ℕ) (c : List ℕ) → last' k ≡ last k → ((y : ℕ) → In y c → next' y ≡ next y) → ChainIs next last k c → ChainIs next' last' k c
unfolding ChainIs In
chain_kept next last next' last' k [] e h H = e ∙ H
chain_kept next last next' last' k (y ∷ ys) e h H = (e ∙ H.0, H.1, walk_kept next next' (next y) (next' y) ys (h y (inl refl)) (λ z i. h z (inr i)) H.2)

-- ---- a name more at the end: no name before the last one leads to 0
walk_more : (next next' : ℕ → ℕ) (y : ℕ) (ys : List ℕ) (i : ℕ) → Walk next (next y) ys → 1 ≤ i → next' (last_of y ys) ≡ i → next' i ≡ 0
    → ((z : ℕ) → In z (y ∷ ys) → z ≢ last_of y ys → next' z ≡ next z) → Walk next' (next' y) (ys ++ (i ∷ []))
unfolding Walk last_of In
walk_more next next' y [] i w h a b f = (a, h, b)
walk_more next next' y (z ∷ zs) i w h a b f = (
  f y (inl refl) (λ e. let p = w.1 in let q : next y ≡ 0 = ap next e ∙ walk_ends next z zs w.2 in omega (arith, w.0)) ∙ w.0,
  w.1,
  walk_more next next' z zs i w.2 h a b (λ x p. f x (inr p)),
)

pub chain_more : (next last next' last' : ℕ → ℕ) (k : ℕ) (c : List ℕ) (i : ℕ) → ChainIs next last k c → 1 ≤ i → last' k ≡ i → next' i ≡ 0 → (1 ≤ last k → next' (last k) ≡ i)
    → ((z : ℕ) → In z c → z ≢ last k → next' z ≡ next z) → ChainIs next' last' k (c ++ (i ∷ []))
unfolding ChainIs Walk last_of
chain_more next last next' last' k [] i H h e b a f = (e, h, b)
chain_more next last next' last' k (y ∷ ys) i H h e b a f =
    let p : 1 ≤ last k = rw H.0 (last_pos next y ys H.1 H.2) in (
      e ∙ sym (last_snoc y ys i),
      H.1,
      walk_more next next' y ys i H.2 h (ap next' (sym H.0) ∙ a p) b (λ z q d. f z q (λ g. d (g ∙ H.0))),
    )
