-- Bytes break at one place, and where they are a text at none: of any rule which bytes are a text.
-- Main results: breaks_unique, text_no_break.
use Rattle.std.specs.Prelude.{◌≡◌, refl, Bool, true, false, ℕ, suc, ◌≤◌, ltb, take, drop}
use Rattle.std.proofs.Math.Path.{ap, subst}
use Rattle.std.proofs.Common.{sym, ◌∙◌, arith, take-append-drop, take-take, ltb-true, ltb-false}
use mathlib.Core.List.{List, [], ◌++◌, append_assoc, append-nil}
use Rattle.rules.specs.Newick.{Begins, BreaksAt, broken, ended}
use Rattle.rules.specs.Tree.{Tree}

module _ (T : List ℕ → Tree → Type 0) where
  -- what a text begins with, begins with less
  begins_less : (k : ℕ) (s : List ℕ) → Begins T s → Begins T (take k s)
  unfolding Begins
  begins_less k s (r, t, h) =
      (drop k s ++ r, t, subst (λ (x : List ℕ). T x t) (sym (sym (append_assoc (take k s) (drop k s) r) ∙ ap (λ (x : List ℕ). x ++ r) (take-append-drop k s))) h)

  begins_shorter : (j k : ℕ) (s : List ℕ) → j ≤ k → Begins T (take k s) → Begins T (take j s)
  begins_shorter j k s h b = subst (Begins T) (take-take j k s h) (begins_less j (take k s) b)

  text_begins : {s : List ℕ} {t : Tree} → T s t → Begins T s
  unfolding Begins
  text_begins {s} {t} h = ([], t, subst (λ (x : List ℕ). T x t) (sym (append-nil s)) h)

  -- bytes that some text begins with break at none of their places
  no_earlier : (j k : ℕ) (s : List ℕ) → (Begins T (take (suc j) s) → ⊥) → Begins T (take k s) → k ≤ j
  no_earlier j k s fails b = go (ltb j k) refl
    where
      go : (x : Bool) → ltb j k ≡ x → k ≤ j
      go true e = absurd (fails (begins_shorter (suc j) k s (ltb-true j k e) b))
      go false e = ltb-false j k e

  pub text_no_break : {s : List ℕ} {t : Tree} {k : ℕ} → T s t → BreaksAt T s k → ⊥
  text_no_break {s} {t} {k} h (broken l b fails) = fails (begins_less (suc k) s (text_begins h))
  text_no_break {s} {t} h (ended b fails) = fails t h

  pub breaks_unique : {s : List ℕ} {j k : ℕ} → BreaksAt T s j → BreaksAt T s k → j ≡ k
  breaks_unique {s} {j} {k} (broken l b fails) (broken l' b' fails') = omega (arith, no_earlier j k s fails b', no_earlier k j s fails' b)
  breaks_unique {s} {j} (broken l b fails) (ended b' fails') = absurd (fails (begins_less (suc j) s b'))
  breaks_unique {s} {j} {k} (ended b fails) (broken l' b' fails') = absurd (fails' (begins_less (suc k) s b))
  breaks_unique {s} (ended b fails) (ended b' fails') = refl
