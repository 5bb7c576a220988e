-- The array that what is read of a text goes to: its cells, and what each store leaves of them. Main results: opened_other, shut_other, pair_cells,
-- pair_other, pair_pairs, leaf_last, leaf_other, leaf_mark, broken_cell, begun_cells.
use Rattle.std.specs.Prelude.{◌≡◌, Bool, List, ℕ, ◌+◌, ◌-◌, ◌*◌, ◌≤◌, ◌<◌, get_or, replicate}
use Rattle.std.proofs.Math.Path.{refl, ap}
use Rattle.std.proofs.Common.{◌∙◌}
use Rattle.std.proofs.Math.Bool.{true, false, cond}
use native.Mathlib.Omega.{arith}
use Rattle.std.proofs.Math.Dec.{eqb, ltb}
use Rattle.std.proofs.Math.ListN.{length, set, drop, length-set, get_or-eq_default}
use Rattle.std.proofs.lemmas.List.{length-replicate, get_or-replicate}
use Rattle.std.proofs.Math.Seq.{drop-set-lt, drop-set-add, get_or-set_same, get_or-set_other}
use borrow.Author.Tests.{eqb-true, eqb-false, ltb-true, ltb-false, lt-ltb, le-ltb, eq-eqb, ne_eqb}
use Rattle.text_laws.specs.Cells.{cell, AllZero, leaf_in, opened, pair_in, shut, broken_in, begun}

pub replicate_all_zero : (m : ℕ) → AllZero (replicate m 0)
replicate_all_zero m k = go (ltb k m) refl
  where
    go : (b : Bool) → ltb k m ≡ b → ◌≡◌ {A = ℕ} (get_or (replicate m 0) k 0) 0
    go true q = get_or-replicate m k 0 0 (ltb-true k m q)
    go false q = let l : m ≤ k = ltb-false k m q in get_or-eq_default (replicate m 0) 0 (omega (arith, length-replicate {A = ℕ} m 0))

module _ (m : List ℕ) where
  pub opened_length : length (opened m) ≡ length m
  unfolding opened
  opened_length = length-set m 8 (cell m 8 - 1)

  pub opened_depth : 8 < length m → cell (opened m) 8 ≡ cell m 8 - 1
  unfolding opened
  opened_depth h = get_or-set_same m 8 (cell m 8 - 1) 0 h

  pub opened_other : (i : ℕ) → (i ≡ 8 → ⊥) → cell (opened m) i ≡ cell m i
  unfolding opened
  opened_other i h = get_or-set_other m 8 i (cell m 8 - 1) 0 h

  pub opened_pairs : drop 1040 (opened m) ≡ drop 1040 m
  unfolding opened
  opened_pairs = drop-set-lt 1040 m 8 (cell m 8 - 1) (omega arith)

  pub shut_length : length (shut m) ≡ length m
  unfolding shut
  shut_length = length-set m 8 (cell m 8 + 1)

  pub shut_depth : 8 < length m → cell (shut m) 8 ≡ cell m 8 + 1
  unfolding shut
  shut_depth h = get_or-set_same m 8 (cell m 8 + 1) 0 h

  pub shut_other : (i : ℕ) → (i ≡ 8 → ⊥) → cell (shut m) i ≡ cell m i
  unfolding shut
  shut_other i h = get_or-set_other m 8 i (cell m 8 + 1) 0 h

  pub shut_pairs : drop 1040 (shut m) ≡ drop 1040 m
  unfolding shut
  shut_pairs = drop-set-lt 1040 m 8 (cell m 8 + 1) (omega arith)

  module _ (a : ℕ) where
    -- the array with the pair's children, and with the pair as the last node
    abbrev paired : List ℕ
    paired = set m (1040 + (cell m 4 - 16384)) (a * 65536 + cell m 0)

    abbrev lasting : List ℕ
    lasting = set paired 0 (cell m 4)

    paired_length : length paired ≡ length m
    paired_length = length-set m (1040 + (cell m 4 - 16384)) (a * 65536 + cell m 0)

    lasting_length : length lasting ≡ length m
    lasting_length = length-set paired 0 (cell m 4) ∙ paired_length

    -- the places as the code adds them up
    pub pair_there : 16384 ≤ cell m 4 → set (set (set m (1040 + cell m 4 - 16384) (a * 65536 + cell m 0)) 0 (cell m 4)) 4 (cell m 4 + 1) ≡ pair_in a m
    unfolding pair_in
    pair_there low =
        let e : 1040 + cell m 4 - 16384 ≡ 1040 + (cell m 4 - 16384) = omega arith in
        ap (λ (i : ℕ). set (set (set m i (a * 65536 + cell m 0)) 0 (cell m 4)) 4 (cell m 4 + 1)) e

    pub pair_length : length (pair_in a m) ≡ length m
    unfolding pair_in
    pair_length = length-set lasting 4 (cell m 4 + 1) ∙ lasting_length

    pub pair_cells : 4 < length m → (cell (pair_in a m) 0 ≡ cell m 4) × (cell (pair_in a m) 4 ≡ cell m 4 + 1)
    unfolding pair_in
    pair_cells h = (
      get_or-set_other lasting 4 0 (cell m 4 + 1) 0 (λ q. omega arith) ∙ get_or-set_same paired 0 (cell m 4) 0 (omega (arith, paired_length)),
      get_or-set_same lasting 4 (cell m 4 + 1) 0 (omega (arith, lasting_length)),
    )

    pub pair_other : (i : ℕ) → (i ≡ 0 → ⊥) → (i ≡ 4 → ⊥) → i < 1040 → cell (pair_in a m) i ≡ cell m i
    unfolding pair_in
    pair_other i last next low =
        get_or-set_other lasting 4 i (cell m 4 + 1) 0 next ∙ get_or-set_other paired 0 i (cell m 4) 0 last
        ∙ get_or-set_other m (1040 + (cell m 4 - 16384)) i (a * 65536 + cell m 0) 0 (λ q. omega arith)

    pub pair_pairs : drop 1040 (pair_in a m) ≡ set (drop 1040 m) (cell m 4 - 16384) (a * 65536 + cell m 0)
    unfolding pair_in
    pair_pairs =
        drop-set-lt 1040 lasting 4 (cell m 4 + 1) (omega arith) ∙ drop-set-lt 1040 paired 0 (cell m 4) (omega arith)
        ∙ drop-set-add 1040 m (cell m 4 - 16384) (a * 65536 + cell m 0)

  module _ (x : ℕ) where
    pub leaf_small : x < 1024 → set (set m 0 x) (16 + x) 1 ≡ leaf_in x m
    unfolding leaf_in
    leaf_small h = rw (lt-ltb x 1024 h)

    pub leaf_large : 1024 ≤ x → set m 0 x ≡ leaf_in x m
    unfolding leaf_in
    leaf_large h = rw (le-ltb x 1024 h)

    -- the array with the label as the last node, and with its mark
    abbrev leafed : Bool → List ℕ
    leafed b = cond b (set (set m 0 x) (16 + x) 1) (set m 0 x)

    pub leaf_length : length (leaf_in x m) ≡ length m
    unfolding leaf_in
    leaf_length = go (ltb x 1024)
      where
        go : (b : Bool) → length (leafed b) ≡ length m
        go true = length-set (set m 0 x) (16 + x) 1 ∙ length-set m 0 x
        go false = length-set m 0 x

    pub leaf_last : 0 < length m → cell (leaf_in x m) 0 ≡ x
    unfolding leaf_in
    leaf_last h = go (ltb x 1024)
      where
        go : (b : Bool) → cell (leafed b) 0 ≡ x
        go true = get_or-set_other (set m 0 x) (16 + x) 0 1 0 (λ q. omega arith) ∙ get_or-set_same m 0 x 0 h
        go false = get_or-set_same m 0 x 0 h

    pub leaf_other : (i : ℕ) → (i ≡ 0 → ⊥) → i < 16 → cell (leaf_in x m) i ≡ cell m i
    unfolding leaf_in
    leaf_other i z l = go (ltb x 1024)
      where
        go : (b : Bool) → cell (leafed b) i ≡ cell m i
        go true = get_or-set_other (set m 0 x) (16 + x) i 1 0 (λ q. omega arith) ∙ get_or-set_other m 0 i x 0 z
        go false = get_or-set_other m 0 i x 0 z

    pub leaf_pairs : drop 1040 (leaf_in x m) ≡ drop 1040 m
    unfolding leaf_in
    leaf_pairs = go (ltb x 1024) refl
      where
        go : (b : Bool) → ltb x 1024 ≡ b → drop 1040 (leafed b) ≡ drop 1040 m
        go true e = let l = ltb-true x 1024 e in drop-set-lt 1040 (set m 0 x) (16 + x) 1 (omega arith) ∙ drop-set-lt 1040 m 0 x (omega arith)
        go false e = drop-set-lt 1040 m 0 x (omega arith)

    pub leaf_mark : length m ≡ 2576 → (y : ℕ) → y < 1024 → cell (leaf_in x m) (16 + y) ≡ cond (eqb x y) 1 (cell m (16 + y))
    unfolding leaf_in
    leaf_mark r y l = go (eqb x y) refl (ltb x 1024) refl
      where
        go : (c : Bool) → eqb x y ≡ c → (b : Bool) → ltb x 1024 ≡ b → cell (leafed b) (16 + y) ≡ cond c 1 (cell m (16 + y))
        go true q true e =
            let z : x ≡ y = eqb-true x y q in
            rw z (get_or-set_same (set m 0 y) (16 + y) 1 0 (omega (arith, length-set m 0 y)))
        go true q false e = absurd (let z : x ≡ y = eqb-true x y q in let k = ltb-false x 1024 e in omega arith)
        go false q true e =
            let z = eqb-false x y q in
            get_or-set_other (set m 0 x) (16 + x) (16 + y) 1 0 (λ p. z (omega arith)) ∙ get_or-set_other m 0 (16 + y) x 0 (λ p. omega arith)
        go false q false e = get_or-set_other m 0 (16 + y) x 0 (λ p. omega arith)

  module _ (at : ℕ) where
    pub break_there : (at ≡ 6143 → ⊥) → set m 12 at ≡ broken_in at m
    unfolding broken_in
    break_there h = rw (ne_eqb at 6143 h)

    pub break_before : at ≡ 6143 → m ≡ broken_in at m
    unfolding broken_in
    break_before e = rw (eq-eqb at 6143 e)

    -- the place where the bytes break off, at a place of a text
    pub broken_cell : length m ≡ 2576 → at ≤ 6056 → cell (broken_in at m) 12 ≡ at
    unfolding broken_in
    broken_cell r h = rw (ne_eqb at 6143 (λ q. omega arith)) (get_or-set_same m 12 at 0 (omega arith))

  pub begun_cells : length m ≡ 2576 → (length (begun m) ≡ 2576) × (cell (begun m) 4 ≡ 16384) × (cell (begun m) 8 ≡ 1024)
  begun_cells h =
      let l : length (set m 4 16384) ≡ 2576 = length-set m 4 16384 ∙ h in (
        length-set (set m 4 16384) 8 1024 ∙ l,
        get_or-set_other (set m 4 16384) 8 4 1024 0 (λ q. omega arith) ∙ get_or-set_same m 4 16384 0 (omega arith),
        get_or-set_same (set m 4 16384) 8 1024 0 (omega arith),
      )

  pub begun_other : (i : ℕ) → (i ≡ 4 → ⊥) → (i ≡ 8 → ⊥) → cell (begun m) i ≡ cell m i
  begun_other i next depth = get_or-set_other (set m 4 16384) 8 i 1024 0 depth ∙ get_or-set_other m 4 i 16384 0 next
