-- A `&κ mut [T]` that is lent again for a lifetime of a call, and comes back. It says nothing of the crate. The machine value has the length m
-- that the slice had at first, so that it stays one value while the list changes.
--     LentAgain    what the holder keeps while the slice is lent under the name δ: the lender's part, and its own borrow, open
--     lent         a lifetime is made, and the slice is lent for it.        back     the lifetime is ended, and the slice comes back at the list zs
-- Assumes `Logic`.
use mathlib.Core.Path.{◌≡◌, sym, ap, subst, ◌∙◌}
use Prim.Native.Nat.{ℕ}
use mathlib.Core.List.{List, [], ◌∷◌}
use lib.ListN.{length}
use seplogic.Ra.Ura.{Ura}
use base.Fraction.{full_share}
use mir.Syntax.{Lifetime}
use mir.Val.{Val}
use base.Logic.{ent, sep, ex}
use base.Fml.{Lft, GName, Share, Fml, fsep, flft, fdead, fobs, fauth, flent, fobor}
use types.Logic.{Logic, sem}
use types.Kit.{Goal, Soaks, Item, Seq, Step, step, ‵, ◌⊛◌, some, later, ◌$◌, ◌∵◌, !, qed, move, use1, use2, use3, drop, split, pick, fsplit, fjoin, frame, await, updating, now as at_once, show, done}
use types.SemTy.{cells, Arr}
use types.Tokens.{lft_new, lft_end}
use denote.RattleType.{RattleType}
use denote.Shadow.{pure_l, pure_i}
use denote.Memory.{mem}
use denote.Ref.{MutBor}
use denote.Slice.{slice_val, MutSlice, heres, Room, finally, mut_slice_at, coded_holeys}
use denote.Lend.{Held, lends_slice, slice_back}
use denote.Index.{row, whole_out, whole_in, opens_slice, closes_slice}

module _ (R : RattleType) (κ κ' : Lft) (q : Share) (γ : GName) (b o : ℕ) where
  abbrev at_list : GName → List R.Denot → MutBor (List R.Denot)
  at_list δ ys = record { ref_ptr = (b, o); ghost_name = δ; now = ys }

  abbrev pub LentAgain : GName → List R.Denot → Fml
  LentAgain δ ys = fsep (flent κ' (Held R (length ys) b o δ)) (fsep (fobor κ q (Held R (length ys) b o γ)) (fsep (fobs γ ((coded_holeys R).code (heres R ys))) (fauth γ ((coded_holeys R).code (heres R ys)))))

  module _ {M : Type 1} {𝓤 : Ura M} (𝓛 : Logic 𝓤) (ℓ ℓ' : Lifetime) (ys : List R.Denot) where
    open 𝓛 use {H, A}

    abbrev vals : ℕ → List Val
    vals n = slice_val (b, o) n ∷ []

    lends_again : ent 𝓤 (sep 𝓤 (sem 𝓛 ((MutSlice ℓ κ R).own_val (at_list γ ys) (vals (length ys)))) (A.lft κ q))
        (H.⇛ (ex 𝓤 (λ (δ : GName). sep 𝓤 (sem 𝓛 ((MutSlice ℓ' κ' R).own_val (at_list δ ys) (vals (length ys)))) (sem 𝓛 (LentAgain δ ys)))))
    lends_again =
        qed 𝓛 (‵ ((MutSlice ℓ κ R).own_val (at_list γ ys) (vals (length ys))) ∷ ‵ (flft κ q) ∷ []) ∵ updating ! $ fsplit ! $ pure_l ! (mut_slice_at R (at_list γ ys) (vals (length ys))) (λ p. fsplit ! $ opens_slice ! tt R ys b o $
        use1 𝓛 (‵ (cells (mem R) ys b o)) (whole_in 𝓛 R ys b o) $
        use1 𝓛 (later (some (λ (δ : GName). ‵ ((MutSlice ℓ' κ' R).own_val (at_list δ ys) (vals (length ys))) ⊛ ‵ (flent κ' (Held R (length ys) b o δ))))) (lends_slice 𝓛 R ℓ' κ' ys b o p.1) $ await ! tt $ pick ! (λ δ. split ! $
        -- [the new slice; the lender's part at κ'; the open borrow at κ; obs γ; auth γ]
        at_once ! $ show ! (λ (δ' : GName). sep 𝓤 (sem 𝓛 ((MutSlice ℓ' κ' R).own_val (at_list δ' ys) (vals (length ys)))) (sem 𝓛 (LentAgain δ' ys))) δ $ frame ! $
        move ! (2 ∷ 3 ∷ []) $ fjoin ! $ move ! (2 ∷ 0 ∷ []) $ fjoin ! $ move ! (1 ∷ 0 ∷ []) $ fjoin ! $ done !))

    pub lends_at : (m : ℕ) → length ys ≡ m → ent 𝓤 (sep 𝓤 (sem 𝓛 ((MutSlice ℓ κ R).own_val (at_list γ ys) (vals m))) (A.lft κ q))
        (H.⇛ (ex 𝓤 (λ (δ : GName). sep 𝓤 (sem 𝓛 ((MutSlice ℓ' κ' R).own_val (at_list δ ys) (vals m))) (sem 𝓛 (LentAgain δ ys)))))
    lends_at m e = subst (λ (n : ℕ). ent 𝓤 (sep 𝓤 (sem 𝓛 ((MutSlice ℓ κ R).own_val (at_list γ ys) (vals n))) (A.lft κ q))
        (H.⇛ (ex 𝓤 (λ (δ : GName). sep 𝓤 (sem 𝓛 ((MutSlice ℓ' κ' R).own_val (at_list δ ys) (vals n))) (sem 𝓛 (LentAgain δ ys)))))) e lends_again

    pub comes_back : (m : ℕ) → Room R m → length ys ≡ m → (δ : GName) (zs : List R.Denot) → length zs ≡ length ys
        → ent 𝓤 (sep 𝓤 (A.dead κ') (sep 𝓤 (sem 𝓛 (LentAgain δ ys)) (sem 𝓛 (finally R δ zs)))) (H.⇛ (sep 𝓤 (sem 𝓛 ((MutSlice ℓ κ R).own_val (at_list γ zs) (vals m))) (A.lft κ q)))
    comes_back m room e δ zs f =
        let g : length zs ≡ m = f ∙ e in
        qed 𝓛 (‵ (fdead κ') ∷ ‵ (LentAgain δ ys) ∷ ‵ (finally R δ zs) ∷ []) ∵ updating ! $ move ! (1 ∷ []) $ fsplit ! $ move ! (2 ∷ 0 ∷ 3 ∷ []) $
        use3 𝓛 (later (‵ ((Arr (mem R) (length ys)).own_at zs b o))) (slice_back 𝓛 R κ' δ zs (length ys) b o) $ await ! tt $ fsplit ! $ drop ! $ use1 𝓛 (‵ (row R full_share zs b o)) (whole_out 𝓛 R zs b o) $
        move ! (1 ∷ []) $ fsplit ! $ move ! (1 ∷ []) $ fsplit ! $ move ! (3 ∷ 2 ∷ 0 ∷ 1 ∷ []) $ closes_slice ! tt R ys zs f b o $ at_once ! $
        fjoin ! $ pure_i ! (mut_slice_at R (at_list γ zs) (vals m)) (tt, (tt, tt)) (ap (λ (n : ℕ). slice_val (b, o) n ∷ []) (sym g), subst (Room R) (sym g) room) $ fjoin ! $ done !

module _ {M : Type 1} {𝓤 : Ura M} {𝓛 : Logic 𝓤} {K : Type 0} {Γ : List (Item 𝓤)} {G : Goal 𝓤 𝓛.H} where
  pub lent : K → Soaks G → (R : RattleType) (ℓ ℓ' : Lifetime) (κ : Lft) (q : Share) (γ : GName) (b o m : ℕ) (ys : List R.Denot) → length ys ≡ m
      → ((ν : ℕ) (δ : GName) → Seq K 𝓛 (‵ (flft (ν ∷ []) full_share) ∷ ‵ ((MutSlice ℓ' (ν ∷ []) R).own_val (record { ref_ptr = (b, o); ghost_name = δ; now = ys }) (slice_val (b, o) m ∷ [])) ∷ ‵ (LentAgain R κ (ν ∷ []) q γ b o δ ys) ∷ Γ) G)
      → Seq K 𝓛 (‵ ((MutSlice ℓ κ R).own_val (record { ref_ptr = (b, o); ghost_name = γ; now = ys }) (slice_val (b, o) m ∷ [])) ∷ ‵ (flft κ q) ∷ Γ) G
  lent t z R ℓ ℓ' κ q γ b o m ys e k =
      lft_new t z (λ ν. move t (1 ∷ 2 ∷ []) $
      use2 𝓛 (later (some (λ (δ : GName). ‵ ((MutSlice ℓ' (ν ∷ []) R).own_val (record { ref_ptr = (b, o); ghost_name = δ; now = ys }) (slice_val (b, o) m ∷ [])) ⊛ ‵ (LentAgain R κ (ν ∷ []) q γ b o δ ys)))) (lends_at R κ (ν ∷ []) q γ b o 𝓛 ℓ ℓ' ys m e) $
      await t z $ pick t (λ δ. split t $ move t (2 ∷ []) $ k ν δ))

  pub back : K → Soaks G → (R : RattleType) (ℓ : Lifetime) (κ : Lft) (q : Share) (γ : GName) (b o m : ℕ) → Room R m → (ys : List R.Denot) → length ys ≡ m → (ν : ℕ) (δ : GName) (zs : List R.Denot) → length zs ≡ length ys
      → Step K 𝓛 (‵ ((MutSlice ℓ κ R).own_val (record { ref_ptr = (b, o); ghost_name = γ; now = zs }) (slice_val (b, o) m ∷ [])) ∷ ‵ (flft κ q) ∷ Γ) G
      (‵ (flft (ν ∷ []) full_share) ∷ ‵ (LentAgain R κ (ν ∷ []) q γ b o δ ys) ∷ ‵ (finally R δ zs) ∷ Γ) G
  back t z R ℓ κ q γ b o m room ys e ν δ zs f =
      step (λ s. lft_end t z $
      use3 𝓛 (later (‵ ((MutSlice ℓ κ R).own_val (record { ref_ptr = (b, o); ghost_name = γ; now = zs }) (slice_val (b, o) m ∷ [])) ⊛ ‵ (flft κ q))) (comes_back R κ (ν ∷ []) q γ b o 𝓛 ℓ ℓ ys m room e δ zs f) $ await t z $ split t $ s)
