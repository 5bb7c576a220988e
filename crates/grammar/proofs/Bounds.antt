-- The codes of the children of a tree's pairs are small. Main result: pairs_small.
use Rattle.std.specs.Prelude.{refl, List, [], ◌∷◌, ◌++◌, ℕ, ◌+◌, ◌≤◌, ◌<◌}
use Rattle.std.proofs.Common.{arith, eq-eqb}
use Rattle.rules.specs.Tree.{Tree, leaf, node, has}
use Rattle.grammar.specs.Pairs.{pair_count, child_code, pairs_from}
use Rattle.grammar.specs.Closed.{Small}
use Rattle.grammar.proofs.Closed.{small_left, small_right}
use Rattle.grammar.specs.Bounds.{SecondsBelow}

seconds_append : (m : ℕ) (a b : List (ℕ × ℕ)) → SecondsBelow m a → SecondsBelow m b → SecondsBelow m (a ++ b)
seconds_append m [] b p q = q
seconds_append m (x ∷ a) b p q = (p.0, seconds_append m a b p.1 q)

code_small : (n k : ℕ) (t : Tree) → Small n t → child_code k t < 16384 + n + k + pair_count t
unfolding child_code pair_count has
code_small n k (leaf x) h = let l : x < n = h.below x (eq-eqb x x refl) in omega arith
code_small n k (node l r) h = omega arith

pub pairs_small : (n k m : ℕ) (t : Tree) → Small n t → 16384 + n + k + pair_count t ≤ m → SecondsBelow m (pairs_from k t)
unfolding pairs_from pair_count
pairs_small n k m (leaf x) h b = tt
pairs_small n k m (node l r) h b =
    seconds_append m (pairs_from k l) (pairs_from (k + pair_count l) r ++ ((child_code k l, child_code (k + pair_count l) r) ∷ [])) (pairs_small n k m l (small_left h) (omega arith))
    (seconds_append m (pairs_from (k + pair_count l) r) ((child_code k l, child_code (k + pair_count l) r) ∷ []) (pairs_small n (k + pair_count l) m r (small_right h) (omega arith))
    (omega (arith, code_small n (k + pair_count l) r (small_right h)), tt))
