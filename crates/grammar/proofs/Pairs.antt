-- The pairs of a tree in the order in which their brackets close, each as its two children. Main results: pairs_length, size_pairs.
use Rattle.std.specs.Prelude.{◌≡◌, refl, [], ◌∷◌, ◌++◌, ℕ, ◌+◌, length}
use Rattle.std.proofs.Common.{arith, length-append}
use Rattle.rules.specs.Tree.{Tree, leaf, node, size}
use Rattle.grammar.specs.Pairs.{pair_count, child_code, pairs_from}

pub pairs_length : (k : ℕ) (t : Tree) → length (pairs_from k t) ≡ pair_count t
unfolding pairs_from pair_count
pairs_length k (leaf x) = refl
pairs_length k (node l r) =
    let behind : ℕ = k + pair_count l in
    omega (arith, length-append (pairs_from k l) (pairs_from behind r ++ ((child_code k l, child_code behind r) ∷ [])), length-append (pairs_from behind r) ((child_code k l, child_code behind r) ∷ []), pairs_length k l, pairs_length behind r)

-- one leaf more than pairs
pub size_pairs : (t : Tree) → size t ≡ pair_count t + 1
unfolding size pair_count
size_pairs (leaf x) = refl
size_pairs (node l r) = omega (arith, size_pairs l, size_pairs r)
