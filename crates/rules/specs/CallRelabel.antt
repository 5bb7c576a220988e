-- Relabelling by a permutation p: "1, 4, then for relabelling 2 (permutation length not n) and 11, then 3".
-- Main definitions: relabel, relabel_call.
use Rattle.std.specs.Prelude.{List, [], ℕ, length}
use Rattle.rules.specs.Tree.{tree_of}
use Rattle.rules.specs.Order.{vector_of}
use Rattle.rules.specs.Shuffle.{renamed, permutation_fault}
use Rattle.rules.specs.Answer.{Made, made}
use Rattle.rules.specs.Guards.{refuse_at, refuse_length, from_vector}
use Rattle.rules.specs.Promise.{Call, makes, list}

unfoldable pub relabel : List ℕ → List ℕ → Made
unfolding from_vector refuse_length refuse_at permutation_fault vector_of renamed tree_of
relabel v p =
    from_vector v (refuse_length (length v) (length p)
    (refuse_at 11 (permutation_fault (length v) 0 [] p) (made (vector_of (renamed p (tree_of v))))))

abbrev pub relabel_call : List ℕ → List ℕ → Call (List ℕ) (List ℕ)
relabel_call v p = makes list (relabel v p)
