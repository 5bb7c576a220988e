-- The reader of a Newick text as a definition: what is read of some bytes and what is left of them, or where they break off.
-- Main definitions: Reading, node_read, pair_read, text_read.
use Rattle.std.specs.Prelude.{cond, List, [], ◌∷◌, ℕ, zero, suc, ◌+◌, ◌-◌, ◌*◌, eqb}
use Rattle.rules.specs.Newick.{is_digit, levels}
use Rattle.rules.specs.Tree.{Tree, leaf, node}

-- A tree is read and these bytes are left; or these bytes are left, and the first of them breaks the grammar.
pub data Reading : Type 0 where
  read : List ℕ → Tree → Reading
  broken : List ℕ → Reading

abbrev pub Reader : Type 0
Reader = List ℕ → Reading

unfoldable pub and_then : Reading → (Tree → Reader) → Reading
and_then (read r t) g = g t r
and_then (broken r) g = broken r

-- one reader and then another, which knows what the first has read
unfoldable pub seq : Reader → (Tree → Reader) → Reader
unfolding and_then
seq f g s = and_then (f s) g

-- the sign c, behind a tree
unfoldable pub sign : ℕ → Tree → Reader
sign c t [] = broken []
sign c t (b ∷ s) = cond (eqb b c) (read s t) (broken (b ∷ s))

-- nothing, behind a tree
unfoldable pub nothing : Tree → Reader
nothing t [] = read [] t
nothing t (b ∷ s) = broken (b ∷ s)

-- at most k digits more, behind the number x
unfoldable pub more_digits : ℕ → ℕ → Reader
unfolding is_digit
more_digits zero x s = read s (leaf x)
more_digits (suc k) x [] = read [] (leaf x)
more_digits (suc k) x (c ∷ s) = cond (is_digit c) (more_digits k (10 * x + (c - 48)) s) (read (c ∷ s) (leaf x))

-- "A label is "0", or one to four digits of which the first is not 0."
unfoldable pub label_read : Reader
unfolding more_digits is_digit
label_read [] = broken []
label_read (c ∷ s) =
    cond (is_digit c) (cond (eqb c 48) (read s (leaf 0)) (more_digits 3 (c - 48) s)) (broken (c ∷ s))

-- node "," node ")", by a reader of nodes
unfoldable pub pair_read : Reader → Reader
unfolding seq sign
pair_read f = seq f (λ t. seq (sign 44 t) (λ same. seq f (λ u. sign 41 (node t u))))

-- "(" and what follows it, or a label
unfoldable pub bracket_or_label : Reader → Reader
unfolding label_read
bracket_or_label f [] = broken []
bracket_or_label f (c ∷ s) = cond (eqb c 40) (f s) (label_read (c ∷ s))

-- a node, where d brackets may be open at once
unfoldable pub node_read : ℕ → Reader
unfolding bracket_or_label pair_read label_read
node_read zero s = label_read s
node_read (suc d) s = bracket_or_label (pair_read (node_read d)) s

-- "A text is a node and then ";", and nothing else."
unfoldable pub text_read : Reader
unfolding node_read seq sign nothing
text_read = seq (node_read levels) (λ t. seq (sign 59 t) nothing)
