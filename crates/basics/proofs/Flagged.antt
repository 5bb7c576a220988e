-- A flag for each name says which names were used. Main results: flagged_none, flagged_next, name_free, name_taken.
use Rattle.std.specs.Prelude.{Bool, List, [], ◌∷◌, ◌≢◌, ◌≡◌, length, get_or, set}
use Rattle.std.proofs.Math.Bool.{true, false, cond}
use Rattle.std.proofs.Math.Option.{none, some}
use Rattle.std.proofs.Math.Path.{refl}
use Rattle.std.proofs.Common.{sym, ◌∙◌, arith, length-set, get_or-set_same, get_or-set_other, eq-eqb, ne_eqb}
use Prim.Native.Nat.{ℕ, zero, ◌≤◌, ◌<◌}
use Rattle.rules.specs.Building.{member}
use Rattle.rules.specs.Names.{used_before, name_fault}
use Rattle.basics.proofs.Cases.{by_eq}
use Rattle.basics.proofs.Names.{name_fine, name_used}
use Rattle.basics.specs.Sums.{one}
use Rattle.basics.specs.Flagged.{Flagged}

pub flagged_none : {flags : List ℕ} → length flags ≡ 1024 → ((y : ℕ) → y < 1024 → get_or flags y 0 ≡ 0) → Flagged [] flags
unfolding member one
flagged_none l h = record { size = l; each = h }

pub flagged_next : {used flags : List ℕ} {x : ℕ} → x < 1024 → Flagged used flags → Flagged (x ∷ used) (set flags x 1)
unfolding member one
flagged_next {used} {flags} {x} l M = record {
  size = length-set flags x 1 ∙ M.size;
  each = λ y k. by_eq y x
      (λ e. rw (e, eq-eqb x x refl) (get_or-set_same flags x 1 0 (omega (arith, M.size))))
      (λ d. rw (ne_eqb y x d) (get_or-set_other flags x y 1 0 d ∙ M.each y k));
}

-- what the flag of a name below n says of it
module _ {used flags : List ℕ} {n x : ℕ} (few : n ≤ 1024) (low : x < n) (M : Flagged used flags) where
  is_flag : get_or flags x 0 ≡ one (member x used)
  is_flag = M.each x (omega arith)

  pub name_free : get_or flags x 0 ≡ 0 → name_fault n used x ≡ none
  unfolding one
  name_free e = name_fine n used x low (go (member x used) (sym is_flag ∙ e))
    where
      go : (b : Bool) → cond b 1 0 ≡ zero → b ≡ false
      go true q = absurd (omega arith)
      go false q = refl

  pub name_taken : get_or flags x 0 ≢ 0 → name_fault n used x ≡ some used_before
  unfolding one
  name_taken d = name_used n used x low (go (member x used) (λ q. d (is_flag ∙ q)))
    where
      go : (b : Bool) → cond b 1 0 ≢ zero → b ≡ true
      go true q = refl
      go false q = absurd (q refl)
