-- The counts add up to trees times (n-1); the order of the trees does not count. Main results: counts_add_up, table_length, reordered_table.
use Rattle.std.specs.Prelude.{◌≡◌, refl, Bool, true, false, cond, ◌||◌, List, [], ◌∷◌, ℕ, suc, ◌+◌, ◌-◌, ◌*◌, ◌≤◌, eqb, length}
use Rattle.std.proofs.Common.{sym, ap, ap₂, ◌∙◌, inl, inr, ⊎_elim, arith, suc-mul, eqb-true}
use Rattle.std.proofs.Math.Bool.{true≢false}
use Rattle.std.proofs.lemmas.Bool.{eqb-false}
use Rattle.rules.specs.Building.{member}
use Rattle.rules.specs.Tree.{Tree, LeavesBelow}
use Rattle.rules.specs.declared.Clade.{Clade as Entry}
use Rattle.rules.specs.CladeTable.{inner, occurs, clade_table}
use Rattle.basics.proofs.Cases.{by_test}
use Rattle.clade_laws.specs.Inner.{Different}
use Rattle.clade_laws.proofs.Inner.{member_head, member_tail, member_cases, inner_different}
use Rattle.clade_laws.proofs.InnerLength.{inner_length_below}
use Rattle.clade_laws.proofs.Rising.{from_different}
use Rattle.clade_laws.specs.Entries.{Each, leaves_of, IsTable, InSome}
use Rattle.clade_laws.proofs.Entries.{table_is, table_same}
use Rattle.clade_laws.specs.Totals.{sum_counts, sum_over, Reordered, same, swap, keep, after}

over_cong : (f g : ℕ → ℕ) (l : List ℕ) → ((m : ℕ) → f m ≡ g m) → sum_over f l ≡ sum_over g l
unfolding sum_over
over_cong f g [] h = refl
over_cong f g (m ∷ l) h = ap₂ ◌+◌ (h m) (over_cong f g l h)

over_plus : (f g : ℕ → ℕ) (l : List ℕ) → sum_over (λ m. f m + g m) l ≡ sum_over f l + sum_over g l
unfolding sum_over
over_plus f g [] = refl
over_plus f g (m ∷ l) = omega (arith, over_plus f g l)

over_zero : (l : List ℕ) → sum_over (λ m. 0) l ≡ 0
unfolding sum_over
over_zero [] = refl
over_zero (m ∷ l) = omega (arith, over_zero l)

never : (a : ℕ) (l : List ℕ) → member a l ≡ false → sum_over (λ m. cond (eqb m a) 1 0) l ≡ 0
unfolding sum_over
never a [] h = refl
never a (k ∷ l) h = go (eqb k a) refl (never a l)
  where
    go : (b : Bool) → eqb k a ≡ b → (member a l ≡ false → sum_over (λ m. cond (eqb m a) 1 0) l ≡ 0) → cond b 1 0 + sum_over (λ m. cond (eqb m a) 1 0) l ≡ 0
    go true q ih = absurd (true≢false (sym (ap (λ (x : ℕ). member x (k ∷ l)) (sym (eqb-true k a q)) ∙ member_head k l) ∙ h))
    go false q ih = omega (arith, ih (by_test (member a l) (λ p. absurd (true≢false (sym (member_tail a k l p) ∙ h))) (λ p. p)))

once : (a : ℕ) (l : List ℕ) → Different l → member a l ≡ true → sum_over (λ m. cond (eqb m a) 1 0) l ≡ 1
unfolding sum_over Different
once a [] D h = absurd (unfold member in true≢false (sym h))
once a (k ∷ l) D h = go (eqb k a) refl (once a l D.1)
  where
    go : (b : Bool) → eqb k a ≡ b → (member a l ≡ true → sum_over (λ m. cond (eqb m a) 1 0) l ≡ 1) → cond b 1 0 + sum_over (λ m. cond (eqb m a) 1 0) l ≡ 1
    go true q ih = omega (arith, never a l (rw (eqb-true k a q) at D.0))
    go false q ih = omega (arith, ih (⊎_elim (λ p. absurd (eqb-false k a q (sym p))) (λ p. p) (member_cases a k l h)))

-- the members of a list without doubles, found in a list without doubles that has them all
found : (a l : List ℕ) → Different a → Different l → ((m : ℕ) → member m a ≡ true → member m l ≡ true) → sum_over (λ m. cond (member m a) 1 0) l ≡ length a
unfolding Different member
found [] l D E h = over_zero l
found (k ∷ a) l D E h =
    over_cong (λ m. cond (eqb m k || member m a) 1 0) (λ m. cond (eqb m k) 1 0 + cond (member m a) 1 0) l (λ m. either m (eqb m k) refl)
    ∙ over_plus (λ m. cond (eqb m k) 1 0) (λ m. cond (member m a) 1 0) l
    ∙ ap₂ ◌+◌ (once k l E (h k (member_head k a))) (found a l D.1 E (λ m p. h m (member_tail m k a p))) ∙ omega arith
  where
    either : (m : ℕ) (b : Bool) → eqb m k ≡ b → cond (b || member m a) 1 0 ≡ cond b 1 0 + cond (member m a) 1 0
    either m true q = let e : member m a ≡ false = rw (sym (eqb-true m k q)) at D.0 in rw e
    either m false q = omega arith

-- all trees together
over_trees : (n : ℕ) (ts : List Tree) (l : List ℕ) → Each (LeavesBelow n) ts → Different l → ((m : ℕ) → InSome m ts → member m l ≡ true)
    → sum_over (λ m. occurs m ts) l ≡ length ts * (n - 1)
unfolding Each InSome occurs
over_trees n [] l L D h = over_zero l ∙ omega arith
over_trees n (t ∷ ts) l L D h =
    over_plus (λ m. cond (member m (inner t)) 1 0) (λ m. occurs m ts) l
    ∙ ap₂ ◌+◌ (found (inner t) l (inner_different t L.0.once) D (λ m p. h m (inl p)) ∙ inner_length_below n t L.0)
    (over_trees n ts l L.1 D (λ m p. h m (inr p)))
    ∙ times (n - 1) (length ts)
  where
    times : (a k : ℕ) → a + k * a ≡ suc k * a
    times a k = omega (arith, suc-mul k a)

counts_over : (ts : List Tree) (es : List Entry) → Each (λ e. e.count ≡ occurs e.leaves ts) es → sum_counts es ≡ sum_over (λ m. occurs m ts) (leaves_of es)
unfolding Each sum_counts leaves_of sum_over
counts_over ts [] c = refl
counts_over ts (e ∷ es) c = ap₂ ◌+◌ c.0 (counts_over ts es c.1)

-- "The counts, each defined from the trees and not from the table, add up to trees times (n-1)."
pub counts_add_up : (n : ℕ) (ts : List Tree) (es : List Entry) → Each (LeavesBelow n) ts → IsTable ts es → sum_counts es ≡ length ts * (n - 1)
counts_add_up n ts es L T =
    counts_over ts es T.counts ∙ over_trees n ts (leaves_of es) L (from_different 0 (leaves_of es) T.rises) (λ m p. (T.holds m).1 p)

pub counts_some : (es : List Entry) (k : ℕ) → Each (λ e. (1 ≤ e.count) × (e.count ≤ k)) es → length es ≤ sum_counts es
unfolding Each sum_counts
counts_some [] k c = omega arith
counts_some (e ∷ es) k c = omega (arith, c.0.0, counts_some es k c.1)

reordered_occurs : {ts us : List Tree} → Reordered ts us → (m : ℕ) → occurs m ts ≡ occurs m us
unfolding occurs
reordered_occurs same m = refl
reordered_occurs (swap {t} {u} {ts}) m = omega arith
reordered_occurs (keep {t} r) m = ap (λ (k : ℕ). cond (member m (inner t)) 1 0 + k) (reordered_occurs r m)
reordered_occurs (after r s) m = reordered_occurs r m ∙ reordered_occurs s m

-- the table does not depend on the order of the trees
pub reordered_table : {ts us : List Tree} → Reordered ts us → clade_table ts ≡ clade_table us
reordered_table {ts} {us} r = table_same ts us (clade_table ts) (clade_table us) (reordered_occurs r) (table_is ts) (table_is us)
