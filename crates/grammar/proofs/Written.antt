-- The text of a tree is a text, which reads as the tree with each pair turned so that its smaller least leaf stands first. Main results:
-- written_plain, plain_node, written_text, leaves_text.
use Rattle.std.specs.Prelude.{◌≡◌, refl, Bool, true, false, cond, ℕ, zero, suc, ◌+◌, ◌≤◌, ◌<◌, max, ltb}
use Rattle.std.proofs.Common.{ap₂, sym, ◌∙◌, arith, ltb-true, eq-eqb}
use Rattle.rules.specs.Newick.{pair_text, node_text, text_of, levels, Node, label, pair, Text, text}
use Rattle.rules.specs.Tree.{Tree, leaf, node, has, least, LeavesBelow}
use Rattle.clades.proofs.Leaves.{has_left, has_right}
use Rattle.clades.proofs.Size.{size_below}
use Rattle.clades.specs.Form.{join, form}
use Rattle.clades.proofs.Form.{join_cases, form_least, form_has}
use Rattle.grammar.proofs.Decimal.{digits_label}
use Rattle.grammar.specs.Pairs.{pair_count}
use Rattle.grammar.proofs.Pairs.{size_pairs}
use Rattle.grammar.specs.Written.{plain_text, nesting}

form_nesting : (t : Tree) → nesting (form t) ≡ nesting t
unfolding form nesting
form_nesting (leaf x) = refl
form_nesting (node l r) = go (form_nesting l) (form_nesting r)
  where
    go : nesting (form l) ≡ nesting l → nesting (form r) ≡ nesting r → nesting (join (form l) (form r)) ≡ max (nesting l) (nesting r) + 1
    go p q = join_cases (λ t. nesting t ≡ max (nesting l) (nesting r) + 1) (form l) (form r) (omega arith) (omega arith)

-- the text of a tree is the plain text of its form
pub written_plain : (t : Tree) → node_text t ≡ plain_text (form t)
unfolding node_text form plain_text join
written_plain (leaf x) = refl
written_plain (node l r) =
    ap₂ (λ (a b : ℕ). cond (ltb a b) (pair_text (node_text l) (node_text r)) (pair_text (node_text r) (node_text l))) (sym (form_least l)) (sym (form_least r))
    ∙ go (ltb (least (form l)) (least (form r))) (written_plain l) (written_plain r)
  where
    go : (b : Bool) → node_text l ≡ plain_text (form l) → node_text r ≡ plain_text (form r)
        → cond b (pair_text (node_text l) (node_text r)) (pair_text (node_text r) (node_text l)) ≡ plain_text (cond b (node (form l) (form r)) (node (form r) (form l)))
    go true p q = ap₂ pair_text p q
    go false p q = ap₂ pair_text q p

-- a tree with labels of four digits reads back from its plain text
pub plain_node : (d : ℕ) (t : Tree) → ((x : ℕ) → has t x ≡ true → x < 10000) → nesting t ≤ d → Node d (plain_text t) t
unfolding plain_text has nesting
plain_node d (leaf x) h n = label (digits_label x (h x (eq-eqb x x refl)))
plain_node zero (node l r) h n = absurd (omega arith)
plain_node (suc d) (node l r) h n =
    pair (plain_node d l (λ x e. h x (has_left l r x e)) (omega arith)) (plain_node d r (λ x e. h x (has_right l r x e)) (omega arith))

-- the text of a tree is a text, which reads as the tree's form
pub written_text : (t : Tree) → ((x : ℕ) → has t x ≡ true → x < 10000) → nesting t ≤ levels → Text (text_of t) (form t)
unfolding text_of
written_text t h n =
    let b : nesting (form t) ≤ levels = omega (arith, form_nesting t) in
    rw (written_plain t) (text (plain_node levels (form t) (λ x e. h x (sym (form_has t x) ∙ e)) b))

nesting_pairs : (t : Tree) → nesting t ≤ pair_count t
unfolding nesting pair_count
nesting_pairs (leaf x) = omega arith
nesting_pairs (node l r) = omega (arith, nesting_pairs l, nesting_pairs r)

-- with at most 1,024 leaves
pub leaves_text : (n : ℕ) (t : Tree) → LeavesBelow n t → n ≤ 1024 → Text (text_of t) (form t)
leaves_text n t h l =
    written_text t (λ x e. let k : x < n = ltb-true x n (sym (h.all x) ∙ e) in omega arith)
    (omega (arith, nesting_pairs t, size_pairs t, size_below n t h))
