-- The pairs of a tree in the order in which their brackets close, each as its two children. Main definitions: pair_count, child_code, pairs_from.
use Rattle.std.specs.Prelude.{List, [], ◌∷◌, ◌++◌, ℕ, ◌+◌}
use Rattle.rules.specs.Tree.{Tree, leaf, node}

unfoldable pub pair_count : Tree → ℕ
pair_count (leaf x) = 0
pair_count (node l r) = pair_count l + pair_count r + 1

-- a child: a label as it stands, a pair by its number behind all labels; k pairs are closed before it
unfoldable pub child_code : ℕ → Tree → ℕ
unfolding pair_count
child_code k (leaf x) = x
child_code k (node l r) = 16384 + (k + pair_count l + pair_count r)

unfoldable pub pairs_from : ℕ → Tree → List (ℕ × ℕ)
unfolding pair_count child_code
pairs_from k (leaf x) = []
pairs_from k (node l r) =
    pairs_from k l ++ (pairs_from (k + pair_count l) r ++ ((child_code k l, child_code (k + pair_count l) r) ∷ []))
