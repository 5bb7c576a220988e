-- No label of bytes that are labelled as a tree is at fault exactly when the leaves of its tree are 0 to n-1, each once. Main results:
-- no_fault_leaves, leaves_no_fault.
use Rattle.std.specs.Prelude.{◌≡◌, refl, Bool, true, false, cond, ◌||◌, not, List, [], ◌∷◌, ◌++◌, map, ℕ, ◌<◌, eqb, ltb, length}
use Rattle.std.proofs.Common.{ap, sym, ◌∙◌, true≢false, ⊎_elim, append-nil, append_assoc, eq-eqb, eqb-true, lt-ltb, ltb-true}
use Rattle.std.proofs.Math.Option.{Option, none, some}
use Rattle.rules.specs.Building.{member}
use Rattle.rules.specs.Names.{Placed, PlacedFault, first_fault}
use Rattle.rules.specs.Newick.{labels_of, label_fault}
use Rattle.rules.specs.Tree.{Tree, leaf, node, has, Distinct, LeavesBelow}
use Rattle.basics.proofs.Bools.{or_no}
use Rattle.basics.specs.Names.{fault_of}
use Rattle.basics.proofs.Names.{first_step}
use Rattle.clades.proofs.Leaves.{has_left, has_right, has_cases}
use Rattle.clades.proofs.Size.{every_leaf, size_below}
use Rattle.grammar.specs.Labels.{value, leaves_of, LabelledAs}
use Rattle.grammar.proofs.Labels.{label_count}
use Rattle.grammar.specs.Faults.{fits, is_none, used_by, Fitting}

pub fault_fits : (n : ℕ) (used : List ℕ) (ls : List Placed) → is_none (first_fault n used ls) ≡ fits n used (map value ls)
unfolding first_fault fits
fault_fits n used [] = refl
fault_fits n used (l ∷ ls) =
    ap is_none (first_step n used l ls) ∙ go (not (ltb l.1 n) || member l.1 used) (fault_fits n (l.1 ∷ used) ls)
  where
    go : (b : Bool) → is_none (first_fault n (l.1 ∷ used) ls) ≡ fits n (l.1 ∷ used) (map value ls)
        → is_none (cond b (some (fault_of n l.1, l.0)) (first_fault n (l.1 ∷ used) ls)) ≡ cond b false (fits n (l.1 ∷ used) (map value ls))
    go true h = refl
    go false h = h

used_has : (t : Tree) (used : List ℕ) (x : ℕ) → member x (used_by t used) ≡ has t x || member x used
unfolding used_by has member
used_has (leaf y) used x = ap (λ (b : Bool). b || member x used) (eqb_comm x y)
  where
    eqb_comm : (a b : ℕ) → eqb a b ≡ eqb b a
    eqb_comm a b = go (eqb a b) refl
      where
        other : (c : Bool) → eqb b a ≡ c → eqb a b ≡ false → false ≡ c
        other true e g = absurd (true≢false (sym (eq-eqb a b (sym (eqb-true b a e))) ∙ g))
        other false e g = refl

        go : (c : Bool) → eqb a b ≡ c → c ≡ eqb b a
        go true e = sym (eq-eqb b a (sym (eqb-true a b e)))
        go false e = other (eqb b a) refl e ∙ refl
used_has (node l r) used x = used_has r (used_by l used) x ∙ ap (λ (b : Bool). has r x || b) (used_has l used x) ∙ swap (has r x) (has l x) (member x used)
  where
    swap : (a b c : Bool) → a || (b || c) ≡ (b || a) || c
    swap true true c = refl
    swap true false c = refl
    swap false true c = refl
    swap false false c = refl

one_fits : (n x : ℕ) (used rest : List ℕ) → fits n used (x ∷ rest) ≡ true → (x < n) × (member x used ≡ false) × (fits n (x ∷ used) rest ≡ true)
unfolding fits
one_fits n x used rest h = go (ltb x n) refl (member x used) refl h
  where
    go : (a : Bool) → ltb x n ≡ a → (b : Bool) → member x used ≡ b → cond (not a || b) false (fits n (x ∷ used) rest) ≡ true
        → (x < n) × (member x used ≡ false) × (fits n (x ∷ used) rest ≡ true)
    go true e true g q = absurd (true≢false (sym q))
    go true e false g q = (ltb-true x n e, g, q)
    go false e b g q = absurd (true≢false (sym q))

fit_leaves : (n : ℕ) (t : Tree) (used rest : List ℕ) → fits n used (leaves_of t ++ rest) ≡ true → Fitting n used t × (fits n (used_by t used) rest ≡ true)
unfolding leaves_of used_by has Distinct
fit_leaves n (leaf y) used rest h =
    let q : (y < n) × (member y used ≡ false) × (fits n (y ∷ used) rest ≡ true) = one_fits n y used rest h in (
      record {
        once = tt;
        small = λ x e. rw (← eqb-true y x e) q.0;
        fresh = λ x e. rw (← eqb-true y x e) q.1;
      },
      q.2,
    )
fit_leaves n (node l r) used rest h =
    let a : Fitting n used l × (fits n (used_by l used) (leaves_of r ++ rest) ≡ true) = fit_leaves n l used (leaves_of r ++ rest) (rw append_assoc at h) in
    let b : Fitting n (used_by l used) r × (fits n (used_by r (used_by l used)) rest ≡ true) = fit_leaves n r (used_by l used) rest a.1 in
    (both a.0 b.0, b.1)
  where
    both : Fitting n used l → Fitting n (used_by l used) r → Fitting n used (node l r)
    both a b =
        record {
          once = ((λ x e g. true≢false (sym (used_has l used x ∙ ap (λ (c : Bool). c || member x used) e) ∙ b.fresh x g)), a.once, b.once);
          small = λ x e. ⊎_elim (λ g. a.small x g) (λ g. b.small x g) (has_cases l r x e);
          fresh = λ x e. ⊎_elim (λ g. a.fresh x g) (λ g. (or_no (has l x) (member x used) (sym (used_has l used x) ∙ b.fresh x g)).1) (has_cases l r x e);
        }

leaves_fit : (n : ℕ) (t : Tree) (used rest : List ℕ) → Fitting n used t → fits n used (leaves_of t ++ rest) ≡ fits n (used_by t used) rest
unfolding leaves_of used_by has Distinct fits
leaves_fit n (leaf y) used rest h =
    let e : eqb y y ≡ true = eq-eqb y y refl in
    rw (lt-ltb y n (h.small y e), h.fresh y e)
leaves_fit n (node l r) used rest h =
    let a : Fitting n used l = record { once = h.once.1; small = λ x e. h.small x (has_left l r x e); fresh = λ x e. h.fresh x (has_left l r x e) } in
    let b : Fitting n (used_by l used) r = record {
      once = h.once.2;
      small = λ x e. h.small x (has_right l r x e);
      fresh = λ x e. used_has l used x ∙ apart x (has l x) refl e ∙ h.fresh x (has_right l r x e);
    } in
    ap (fits n used) (append_assoc (leaves_of l) (leaves_of r) rest) ∙ leaves_fit n l used (leaves_of r ++ rest) a ∙ leaves_fit n r (used_by l used) rest b
  where
    apart : (x : ℕ) (c : Bool) → has l x ≡ c → has r x ≡ true → has l x || member x used ≡ member x used
    apart x true e g = absurd (h.once.0 x e g)
    apart x false e g = rw e

pub is_none_lem : (o : Option PlacedFault) → is_none o ≡ true → o ≡ none
is_none_lem none e = refl
is_none_lem (some x) e = absurd (true≢false (sym e))

-- labels without a fault are the leaves 0 to n-1
pub no_fault_leaves : {s : List ℕ} {t : Tree} → LabelledAs s t → label_fault s ≡ none → LeavesBelow (length (labels_of s)) t
unfolding label_fault
no_fault_leaves {s} {t} h e =
    let n : ℕ = length (labels_of s) in
    let f : fits n [] (leaves_of t ++ []) ≡ true =
    ap (fits n []) (append-nil (leaves_of t) ∙ sym h.leaves) ∙ sym (fault_fits n [] (labels_of s)) ∙ ap is_none e in
    let g : Fitting n [] t = (fit_leaves n t [] [] f).0 in
    every_leaf n t g.once g.small (sym (label_count h))

-- and the leaves 0 to n-1 are labels without a fault
pub leaves_count : {s : List ℕ} {t : Tree} (n : ℕ) → LabelledAs s t → LeavesBelow n t → length (labels_of s) ≡ n
leaves_count {s} {t} n h b = label_count h ∙ size_below n t b

pub leaves_no_fault : {s : List ℕ} {t : Tree} (n : ℕ) → LabelledAs s t → LeavesBelow n t → label_fault s ≡ none
unfolding label_fault member fits
leaves_no_fault {s} {t} n h b =
    let g : Fitting n [] t = record { once = b.once; small = λ x e. ltb-true x n (sym (b.all x) ∙ e); fresh = λ x e. refl } in
    is_none_lem (first_fault (length (labels_of s)) [] (labels_of s))
    (fault_fits (length (labels_of s)) [] (labels_of s)
    ∙ rw (leaves_count n h b) (ap (fits n []) (h.leaves ∙ sym (append-nil (leaves_of t))) ∙ leaves_fit n t [] [] g))
