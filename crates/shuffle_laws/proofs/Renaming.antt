-- A tree whose leaves are renamed by a permutation has the leaves 0 to n-1, and its clades are the images of the tree's. Main results: renamed_below,
-- renamed_clades.
use Rattle.std.specs.Prelude.{◌≡◌, refl, ◌↔◌, Bool, false, ◌&&◌, List, ℕ, ◌≤◌, ◌<◌, ltb}
use Rattle.std.proofs.Math.Path.{sym, ap}
use Rattle.std.proofs.Common.{◌∙◌, arith}
use Rattle.std.proofs.Math.Logic.{inl, inr}
use borrow.Author.Tests.{ltb-true, lt-ltb, le-ltb}
use Rattle.rules.specs.Vector.{entry}
use Rattle.rules.specs.Tree.{Tree, leaf, node, has, Clade, LeavesBelow}
use Rattle.rules.specs.Shuffle.{renamed}
use Rattle.basics.proofs.Bools.{both}
use Rattle.basics.proofs.Cases.{by_lt, by_eq}
use Rattle.basics.proofs.Sums.{one_lt, one_ge}
use Rattle.merging.proofs.Once.{hit_same, hit_other}
use Rattle.shuffle_laws.specs.Count.{leaf_times}
use Rattle.shuffle_laws.proofs.Count.{has_times, times_has, below_times, times_below}
use Rattle.shuffle_laws.specs.Permutation.{Permutes}
use Rattle.shuffle_laws.proofs.Permutation.{entry_below, entry_injective, entry_onto}
use Rattle.shuffle_laws.specs.Renaming.{Within}

within_left : (n : ℕ) (l r : Tree) → Within n (node l r) → Within n l
unfolding Within leaf_times
within_left n l r h x k = omega (arith, h x k)

within_right : (n : ℕ) (l r : Tree) → Within n (node l r) → Within n r
unfolding Within leaf_times
within_right n l r h x k = omega (arith, h x k)

within_leaf : (n y : ℕ) → Within n (leaf y) → y < n
unfolding Within leaf_times
within_leaf n y h = by_lt y n (λ l. l) (λ k. absurd (omega (arith, h y k, hit_same y y refl)))

below_within : {n : ℕ} {t : Tree} → LeavesBelow n t → Within n t
unfolding Within
below_within {n} b x k = omega (arith, below_times b x, one_ge x n k)

has_counted : (t : Tree) (x : ℕ) → has t x ≡ ltb 0 (leaf_times x t)
has_counted t x =
    both (has t x) (ltb 0 (leaf_times x t)) (λ e. lt-ltb 0 (leaf_times x t) (has_times x t e)) (λ e. times_has x t (ltb-true 0 (leaf_times x t) e))

module _ {n : ℕ} {p : List ℕ} (P : Permutes n p) where
  pub times_renamed : (t : Tree) → Within n t → (x : ℕ) → x < n → leaf_times (entry p x) (renamed p t) ≡ leaf_times x t
  unfolding leaf_times renamed
  times_renamed (leaf y) w x h =
      by_eq x y
      (λ e. hit_same (entry p x) (entry p y) (ap (entry p) e) ∙ sym (hit_same x y e))
      (λ d. hit_other (entry p x) (entry p y) (λ e. d (entry_injective P x y h (within_leaf n y w) e)) ∙ sym (hit_other x y d))
  times_renamed (node l r) w x h =
      omega (arith, times_renamed l (within_left n l r w) x h, times_renamed r (within_right n l r w) x h)

  pub renamed_within : (t : Tree) → Within n t → Within n (renamed p t)
  unfolding Within leaf_times renamed
  renamed_within (leaf y) w x k =
      hit_other x (entry p y) (λ e. absurd (omega (arith, entry_below P y (within_leaf n y w))))
  renamed_within (node l r) w x k =
      omega (arith, renamed_within l (within_left n l r w) x k, renamed_within r (within_right n l r w) x k)

  -- renaming by a permutation keeps the leaves 0 to n-1
  pub renamed_below : {t : Tree} → LeavesBelow n t → LeavesBelow n (renamed p t)
  unfolding Within
  renamed_below {t} b =
      times_below n (renamed p t) (λ y.
      by_lt y n
      (λ l. let o = entry_onto P y l in
      let s : leaf_times y (renamed p t) ≡ leaf_times o.0 t = rw o.2 at (times_renamed t (below_within b) o.0 o.1) in
      omega (arith, below_times b o.0, one_lt o.0 n o.1, one_lt y n l))
      (λ k. omega (arith, renamed_within t (below_within b) y k, one_ge y n k)))

  pub has_renamed : (t : Tree) → Within n t → (x : ℕ) → x < n → has (renamed p t) (entry p x) ≡ has t x
  has_renamed t w x h = has_counted (renamed p t) (entry p x) ∙ ap (ltb 0) (times_renamed t w x h) ∙ sym (has_counted t x)

  pub has_outside : (t : Tree) → Within n t → (y : ℕ) → n ≤ y → has t y ≡ false
  unfolding Within
  has_outside t w y k = has_counted t y ∙ ap (ltb 0) (w y k) ∙ le-ltb 0 0 (omega arith)

  -- the set of the old names of a set of leaves
  abbrev pub old_names : (ℕ → Bool) → ℕ → Bool
  old_names c x = ltb x n && c (entry p x)

  -- no leaf from n on is in the set
  abbrev pub Outside : (ℕ → Bool) → Type 0
  Outside c = (y : ℕ) → n ≤ y → c y ≡ false

  set_forth : (t : Tree) → Within n t → (c : ℕ → Bool) → ((y : ℕ) → c y ≡ has (renamed p t) y)
      → Outside c × ((x : ℕ) → old_names c x ≡ has t x)
  set_forth t w c h = (
    λ y k. h y ∙ has_outside (renamed p t) (renamed_within t w) y k,
    λ x. by_lt x n (λ l. rw (lt-ltb x n l) (h (entry p x) ∙ has_renamed t w x l)) (λ k. rw (le-ltb x n k) (sym (has_outside t w x k))),
  )

  set_back : (t : Tree) → Within n t → (c : ℕ → Bool) → Outside c → ((x : ℕ) → old_names c x ≡ has t x) → (y : ℕ) → c y ≡ has (renamed p t) y
  set_back t w c o h y =
      by_lt y n
      (λ l. let e = entry_onto P y l in
      let s : c (entry p e.0) ≡ has (renamed p t) (entry p e.0) =
      (rw (lt-ltb e.0 n e.1) at (h e.0)) ∙ sym (has_renamed t w e.0 e.1) in
      rw e.2 at s)
      (λ k. o y k ∙ sym (has_outside (renamed p t) (renamed_within t w) y k))

  clade_forth : (t : Tree) → Within n t → (c : ℕ → Bool) → Clade (renamed p t) c → Outside c × Clade t (old_names c)
  unfolding Clade renamed
  clade_forth (leaf y) w c h = set_forth (leaf y) w c h
  clade_forth (node l r) w c (inl h) = let s = set_forth (node l r) w c h in (s.0, inl s.1)
  clade_forth (node l r) w c (inr (inl h)) = let s = clade_forth l (within_left n l r w) c h in (s.0, inr (inl s.1))
  clade_forth (node l r) w c (inr (inr h)) = let s = clade_forth r (within_right n l r w) c h in (s.0, inr (inr s.1))

  clade_back : (t : Tree) → Within n t → (c : ℕ → Bool) → Outside c → Clade t (old_names c) → Clade (renamed p t) c
  unfolding Clade renamed
  clade_back (leaf y) w c o h = set_back (leaf y) w c o h
  clade_back (node l r) w c o (inl h) = inl (set_back (node l r) w c o h)
  clade_back (node l r) w c o (inr (inl h)) = inr (inl (clade_back l (within_left n l r w) c o h))
  clade_back (node l r) w c o (inr (inr h)) = inr (inr (clade_back r (within_right n l r w) c o h))

  -- a set is a clade of the renamed tree exactly when it lies in 0 to n-1 and the old names of its leaves are a clade of the tree
  pub renamed_clades : {t : Tree} → LeavesBelow n t → (c : ℕ → Bool)
      → Clade (renamed p t) c ↔ (((y : ℕ) → n ≤ y → c y ≡ false) × Clade t (λ x. ltb x n && c (entry p x)))
  renamed_clades {t} b c = (clade_forth t (below_within b) c, λ h. clade_back t (below_within b) c h.0 h.1)
