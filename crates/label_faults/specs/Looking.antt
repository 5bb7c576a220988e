-- The second look at a text, byte by byte, for the first label at fault.
-- Main definitions: placed, reading, Looking. Main results: look_start, look_digit, look_large, look_used, look_fresh, look_pass,
-- look_some, look_end.
use Rattle.std.specs.Prelude.{◌≡◌, Bool, not, ◌||◌, ℕ, ◌+◌, ◌-◌, ◌*◌, ◌≤◌, ◌<◌, ltb, length, get_or, set, drop, Option, Some, None, IfSome, IsSome}
use Rattle.std.proofs.Math.Path.{refl, ap, sym, subst}
use Rattle.std.proofs.Common.{◌∙◌, arith, add-one, drop_of_length-le, drop-cons}
use Rattle.std.proofs.Math.Bool.{true, false, cond}
use mathlib.Core.List.{List, [], ◌∷◌}
use Rattle.std.proofs.Math.Option.{Option as Perhaps, none, some}
use Rattle.rules.specs.Building.{member}
use Rattle.rules.specs.Names.{NameFault, not_below, used_before, Placed, first_fault}
use Rattle.rules.specs.Newick.{is_digit, with_digit, ending, labels_from, labels_of}
use Rattle.basics.specs.Flagged.{Flagged}
use Rattle.basics.proofs.Flagged.{flagged_none, flagged_next, name_free, name_taken}
use Rattle.basics.proofs.Names.{name_large, fault_small, first_fine, first_wrong, first_step}
use Rattle.text_laws.specs.Cells.{AllZero}
use Rattle.label_faults.specs.declared.Label.{Label}

-- a label as the code has it, and the one being read, if one is, in the words of the rules
abbrev pub placed : Label → Placed
placed l = (l.start, l.number)

abbrev pub reading : Option Label → Perhaps Placed
reading None = none
reading (Some l) = some (placed l)

-- the bytes before a place are looked at: no label that ends there is at fault
pub record Looking (s : List ℕ) (n : ℕ) (used : List ℕ) (at : ℕ) (label : Option Label) : Type 0 where
  pub seen : List ℕ
  pub few : n ≤ 1024
  pub within : at ≤ length s
  pub small : IfSome label (λ l. l.number < n)
  pub marks : Flagged seen used
  pub rest : first_fault n [] (labels_of s) ≡ first_fault n seen (labels_from at (reading label) (drop at s))

pub look_start : {s : List ℕ} {n : ℕ} {used : List ℕ} → n ≤ 1024 → length used ≡ 1024 → AllZero used → Looking s n used 0 None
unfolding labels_of
look_start h r u = record { seen = []; few = h; within = omega arith; small = tt; marks = flagged_none r (λ y l. u y); rest = refl }

-- a label that is not below n is at fault, whatever labels follow
large : (n : ℕ) (seen : List ℕ) (start x : ℕ) (ls : List Placed) → n ≤ x → first_fault n seen ((start, x) ∷ ls) ≡ some (not_below, start)
large n seen start x ls h = first_wrong n seen (start, x) ls _ (name_large n seen x h)

-- a label that reaches n is at fault, whatever digits follow
grown_fault : (n : ℕ) (seen : List ℕ) (start x at : ℕ) (s : List ℕ) → n ≤ x → first_fault n seen (labels_from at (some (start, x)) s) ≡ some (not_below, start)
unfolding labels_from ending with_digit
grown_fault n seen start x at [] h = large n seen start x [] h
grown_fault n seen start x at (c ∷ s) h = go (is_digit c) refl (grown_fault n seen start (10 * x + (c - 48)) (at + 1) s (omega arith))
  where
    go : (b : Bool) → is_digit c ≡ b → first_fault n seen (labels_from (at + 1) (some (start, 10 * x + (c - 48))) s) ≡ some (not_below, start)
        → first_fault n seen (ending (cond b none (some (start, x))) (labels_from (at + 1) (cond b (with_digit at c (some (start, x))) none) s)) ≡ some (not_below, start)
    go true e more = more
    go false e more = large n seen start x (labels_from (at + 1) none s) h

module _ {s : List ℕ} {n : ℕ} {used : List ℕ} {at : ℕ} {label : Option Label} (L : Looking s n used at label) where
  -- at the end the label being read is the one at fault, since one is; it is below n, so it was used before
  module _ (h : length s ≤ at) (some_fault : first_fault n [] (labels_of s) ≡ none → ⊥) where
    ends : (o : Option Label) → label ≡ o → first_fault n [] (labels_of s) ≡ first_fault n L.seen (labels_from at (reading o) [])
    ends o e =
        L.rest ∙ ap (λ (r : List ℕ). first_fault n L.seen (labels_from at (reading label) r)) (drop_of_length-le s h)
        ∙ ap (λ (x : Option Label). first_fault n L.seen (labels_from at (reading x) [])) e

    pub look_some : IsSome label
    unfolding first_fault labels_from ending
    look_some = go label refl
      where
        go : (o : Option Label) → label ≡ o → IsSome o
        go None e = absurd (some_fault (ends None e))
        go (Some l) e = refl

    pub look_end : (l : Label) → label ≡ Some l → some (used_before, l.start) ≡ first_fault n [] (labels_of s)
    unfolding labels_from ending first_fault
    look_end l e =
        let wrong = not (ltb l.number n) || member l.number L.seen in
        last wrong
        (ends (Some l) e ∙ first_step n L.seen (placed l) []
        ∙ ap (λ (w : NameFault). cond wrong (some (w, l.start)) none) (fault_small n l.number (subst (λ (o : Option Label). IfSome o (λ x. x.number < n)) e L.small)))
      where
        last : (b : Bool) → first_fault n [] (labels_of s) ≡ cond b (some (used_before, l.start)) none → some (used_before, l.start) ≡ first_fault n [] (labels_of s)
        last true q = sym q
        last false q = absurd (some_fault q)

  module _ (h : at < length s) where
    this_sign : drop at s ≡ get_or s at 0 ∷ drop (at + 1) s
    this_sign = rw (add-one, drop-cons s at 0 h)

    step : (b : Bool) → is_digit (get_or s at 0) ≡ b
        → first_fault n [] (labels_of s) ≡ first_fault n L.seen (ending (cond b none (reading label)) (labels_from (at + 1) (cond b (with_digit at (get_or s at 0) (reading label)) none) (drop (at + 1) s)))
    unfolding labels_from
    step b d =
        L.rest ∙ ap (λ (r : List ℕ). first_fault n L.seen (labels_from at (reading label) r)) this_sign
        ∙ ap (λ (c : Bool). first_fault n L.seen (ending (cond c none (reading label)) (labels_from (at + 1) (cond c (with_digit at (get_or s at 0) (reading label)) none) (drop (at + 1) s)))) d

    -- a digit: the label being read goes on, or one begins
    module _ (d : is_digit (get_or s at 0) ≡ true) (next : Label) (e : some (placed next) ≡ with_digit at (get_or s at 0) (reading label)) where
      more : first_fault n [] (labels_of s) ≡ first_fault n L.seen (labels_from (at + 1) (some (placed next)) (drop (at + 1) s))
      unfolding ending
      more = step true d ∙ ap (λ (l : Perhaps Placed). first_fault n L.seen (labels_from (at + 1) l (drop (at + 1) s))) (sym e)

      pub look_large : n ≤ next.number → some (not_below, next.start) ≡ first_fault n [] (labels_of s)
      look_large g = sym (more ∙ grown_fault n L.seen next.start next.number (at + 1) (drop (at + 1) s) g)

      pub look_digit : next.number < n → Looking s n used (at + 1) (Some next)
      look_digit g = record { seen = L.seen; few = L.few; within = omega arith; small = g; marks = L.marks; rest = more }

    -- another sign: the label being read ends
    module _ (d : is_digit (get_or s at 0) ≡ false) where
      pub look_pass : label ≡ None → Looking s n used (at + 1) label
      unfolding ending
      look_pass e = record {
        seen = L.seen;
        few = L.few;
        within = omega arith;
        small = L.small;
        marks = L.marks;
        rest =
            step false d ∙ ap (λ (o : Option Label). first_fault n L.seen (ending (reading o) (labels_from (at + 1) none (drop (at + 1) s)))) e
            ∙ sym (ap (λ (o : Option Label). first_fault n L.seen (labels_from (at + 1) (reading o) (drop (at + 1) s))) e);
      }

      module _ (l : Label) (e : label ≡ Some l) where
        this_label : first_fault n [] (labels_of s) ≡ first_fault n L.seen (placed l ∷ labels_from (at + 1) none (drop (at + 1) s))
        unfolding ending
        this_label = step false d ∙ ap (λ (o : Option Label). first_fault n L.seen (ending (reading o) (labels_from (at + 1) none (drop (at + 1) s)))) e

        pub look_below : l.number < n
        look_below = subst (λ (o : Option Label). IfSome o (λ x. x.number < n)) e L.small

        pub look_used : (get_or used l.number 0 ≡ 0 → ⊥) → some (used_before, l.start) ≡ first_fault n [] (labels_of s)
        look_used u = sym (this_label ∙ first_wrong n L.seen (placed l) _ _ (name_taken L.few look_below L.marks u))

        pub look_fresh : get_or used l.number 0 ≡ 0 → Looking s n (set used l.number 1) (at + 1) None
        look_fresh u = record {
          seen = l.number ∷ L.seen;
          few = L.few;
          within = omega arith;
          small = tt;
          marks = flagged_next (omega (arith, look_below, L.few)) L.marks;
          rest = this_label ∙ first_fine n L.seen (placed l) _ (name_free L.few look_below L.marks u);
        }

pub looking_as : {s : List ℕ} {n : ℕ} {used used' : List ℕ} {at : ℕ} {label label' : Option Label} → used' ≡ used → label' ≡ label → Looking s n used at label → Looking s n used' at label'
looking_as e f L = rw (e, f) L
