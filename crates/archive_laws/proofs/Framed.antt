-- What comes before a look into a record of an archive: the archive's length, its n, its tree count and the tree's number. Main results:
-- framed_passes (then what comes next stands); under_four_bytes, no_leaves, too_many_leaves, length_not_implied, tree_not_below (each over what the
-- earlier ones leave); framed_cases, framed_made.
use Rattle.std.specs.Prelude.{◌≡◌, refl, ◌≢◌, ◌⊎◌, ℕ, suc, ◌+◌, ◌*◌, ◌≤◌, ◌<◌, ltb}
use Rattle.std.proofs.Common.{sym, ap, ◌∙◌, inl, inr, suc-mul, mul-le-mul, le_refl, lt-ltb, le-ltb}
use Rattle.std.proofs.Math.Bool.{not}
use native.Mathlib.Omega.{arith}
use Rattle.rules.specs.Archive.{bare_length, implied_length, framed}
use Rattle.rules.specs.Answer.{Making, made, refuses}
use Rattle.basics.proofs.Cases.{by_lt, by_eq}
use Rattle.accepting.proofs.Answers.{made_not_refuses}
use Rattle.accepting.proofs.Guards.{no_leaf, many_leaves, some_leaves, wrong_length, right_length, refuse_if_lem, pass_if}
use Rattle.archive_laws.specs.Framed.{Framed, FrameRefused, short, leafless, crowded, unfit, absent, Frame}

-- record r ends where the archive ends, or before
pub record_ends : (n count r : ℕ) → r < count → implied_length n r + bare_length n ≤ implied_length n count
unfolding implied_length
record_ends n count r h =
    let k : suc r * bare_length n ≤ count * bare_length n = mul-le-mul h (le_refl (bare_length n)) in
    omega (arith, suc-mul r (bare_length n))

module _ {W : Type 0} (size n count r : ℕ) (m : Making W) where
  -- "2 under 4 bytes (place 4)"
  pub under_four_bytes : size < 4 → framed size n count r m ≡ refuses 2 4
  unfolding framed
  under_four_bytes h = refuse_if_lem (ltb size 4) 2 4 _ (lt-ltb size 4 h)

  -- 1
  pub no_leaves : 4 ≤ size → n ≡ 0 → framed size n count r m ≡ refuses 1 0
  unfolding framed
  no_leaves h e = pass_if (ltb size 4) 2 4 _ (le-ltb size 4 h) ∙ no_leaf n _ e

  pub too_many_leaves : 4 ≤ size → 1024 < n → framed size n count r m ≡ refuses 1 0
  unfolding framed
  too_many_leaves h e = pass_if (ltb size 4) 2 4 _ (le-ltb size 4 h) ∙ many_leaves n _ e

  -- "2 when the length is not the implied one (place: that length)"
  pub length_not_implied : 4 ≤ size → 1 ≤ n → n ≤ 1024 → size ≢ implied_length n count → framed size n count r m ≡ refuses 2 (implied_length n count)
  unfolding framed
  length_not_implied h a b d =
      pass_if (ltb size 4) 2 4 _ (le-ltb size 4 h) ∙ some_leaves n _ a b ∙ wrong_length (implied_length n count) size _ d

  -- "12 when r is not below the count (place r)"
  pub tree_not_below : 1 ≤ n → n ≤ 1024 → size ≡ implied_length n count → count ≤ r → framed size n count r m ≡ refuses 12 r
  unfolding framed implied_length
  tree_not_below a b e l =
      let h : 4 ≤ size = omega arith in
      pass_if (ltb size 4) 2 4 _ (le-ltb size 4 h) ∙ some_leaves n _ a b ∙ right_length (4 + count * bare_length n) size _ e
      ∙ refuse_if_lem (not (ltb r count)) 12 r m (ap not (le-ltb r count l))

  -- none of these
  pub framed_passes : Framed size n count r → framed size n count r m ≡ m
  unfolding framed implied_length
  framed_passes F =
      let w = F.whole in
      let h : 4 ≤ size = omega arith in
      pass_if (ltb size 4) 2 4 _ (le-ltb size 4 h) ∙ some_leaves n _ F.some_leaf F.few ∙ right_length (4 + count * bare_length n) size _ w
      ∙ pass_if (not (ltb r count)) 12 r m (ap not (lt-ltb r count F.below))

-- whatever would come next
pub frame_refuses : {W : Type 0} (size n count r : ℕ) (m : Making W) {k p : ℕ} → FrameRefused size n count r k p → framed size n count r m ≡ refuses k p
frame_refuses size n count r m (short h) = under_four_bytes size n count r m h
frame_refuses size n count r m (leafless h e) = no_leaves size n count r m h e
frame_refuses size n count r m (crowded h e) = too_many_leaves size n count r m h e
frame_refuses size n count r m (unfit h a b d) = length_not_implied size n count r m h a b d
frame_refuses size n count r m (absent a b e l) = tree_not_below size n count r m a b e l

-- "1, 2 or 12"
pub frame_number : {size n count r k p : ℕ} → FrameRefused size n count r k p → (k ≡ 1) ⊎ ((k ≡ 2) ⊎ (k ≡ 12))
frame_number (short h) = inr (inl refl)
frame_number (leafless h e) = inl refl
frame_number (crowded h e) = inl refl
frame_number (unfit h a b d) = inr (inl refl)
frame_number (absent a b e l) = inr (inr refl)

pub framed_cases : (size n count r : ℕ) → Frame size n count r
framed_cases size n count r =
    by_lt size 4
    (λ h. inr (2, 4, short h))
    (λ h. by_eq n 0
    (λ e. inr (1, 0, leafless h e))
    (λ d. by_lt 1024 n
    (λ g. inr (1, 0, crowded h g))
    (λ g. by_eq size (implied_length n count)
    (λ e. by_lt r count
    (λ l. inl (record { some_leaf = omega (arith, d); few = g; whole = e; below = l }))
    (λ l. inr (12, r, absent (omega (arith, d)) g e l)))
    (λ e. inr (2, implied_length n count, unfit h (omega (arith, d)) g e)))))

-- where something is made there is a tree r
pub framed_made : {W : Type 0} (size n count r : ℕ) (m : Making W) (x : W) → framed size n count r m ≡ made x → Framed size n count r × (m ≡ made x)
framed_made {W} size n count r m x e = go (framed_cases size n count r)
  where
    go : Frame size n count r → Framed size n count r × (m ≡ made x)
    go (inl F) = (F, sym (framed_passes size n count r m F) ∙ e)
    go (inr f) = absurd (made_not_refuses (sym e ∙ frame_refuses size n count r m f.2))
