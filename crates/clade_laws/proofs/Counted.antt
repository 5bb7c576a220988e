-- In how many trees, by 01's clades as sets: `occurs` counts the trees that have the clade. Main results: occurs_counted, pair_counted, counted_once.
use Rattle.std.specs.Prelude.{◌≡◌, refl, Bool, true, false, cond, List, [], ◌∷◌, ℕ, suc, ◌+◌}
use Rattle.std.proofs.Common.{sym, ap, true≢false, arith}
use Rattle.rules.specs.Building.{member}
use Rattle.rules.specs.Tree.{Tree, node, has, Distinct, Clade}
use Rattle.rules.specs.CladeTable.{leaf_set, inner, occurs}
use Rattle.clade_laws.specs.Inner.{CladeNumber}
use Rattle.clade_laws.proofs.Inner.{inner_clades, pair_occurs}
use Rattle.clade_laws.specs.Entries.{Each}
use Rattle.clade_laws.specs.Counted.{Counted, none, one, skip}

pub counted_once : (P : Tree → Type 0) (ts : List Tree) (j k : ℕ) → Counted P ts j → Counted P ts k → j ≡ k
counted_once P ts j k none none = refl
counted_once P ts j k (one p c) (one q d) = ap suc (counted_once P _ _ _ c d)
counted_once P ts j k (one p c) (skip q d) = absurd (q p)
counted_once P ts j k (skip p c) (one q d) = absurd (p q)
counted_once P ts j k (skip p c) (skip q d) = counted_once P _ _ _ c d

counted_step : (P : Tree → Type 0) (t : Tree) (ts : List Tree) (b : Bool) (k : ℕ) → (b ≡ true → P t) → (P t → b ≡ true) → Counted P ts k → Counted P (t ∷ ts) (cond b 1 0 + k)
counted_step P t ts true k f g c = let e : 1 + k ≡ suc k = omega arith in rw e (one (f refl) c)
counted_step P t ts false k f g c = let e : 0 + k ≡ k = omega arith in rw e (skip (λ p. true≢false (sym (g p))) c)

-- `occurs m` counts the trees of which m is the number of a clade of two leaves or more
pub occurs_counted : (m : ℕ) (ts : List Tree) → Each Distinct ts → Counted (λ t. CladeNumber t m) ts (occurs m ts)
unfolding Each occurs
occurs_counted m [] D = none
occurs_counted m (t ∷ ts) D =
    counted_step (λ u. CladeNumber u m) t ts (member m (inner t)) (occurs m ts) (inner_clades t D.0 m).0 (inner_clades t D.0 m).1 (occurs_counted m ts D.1)

-- for a pair it counts the trees that have the pair's leaves as a clade
pub pair_counted : (l r : Tree) → Distinct (node l r) → (ts : List Tree) → Each Distinct ts
    → Counted (λ t. Clade t (has (node l r))) ts (occurs (leaf_set (node l r)) ts)
unfolding Each occurs
pair_counted l r E [] D = none
pair_counted l r E (t ∷ ts) D =
    counted_step (λ u. Clade u (has (node l r))) t ts (member (leaf_set (node l r)) (inner t)) (occurs (leaf_set (node l r)) ts)
    (pair_occurs t l r D.0 E).0 (pair_occurs t l r D.0 E).1 (pair_counted l r E ts D.1)
