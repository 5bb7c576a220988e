-- Queue Shuffle over inner nodes alone: a leaf's label is known when its parent is taken. It gives the same labels in the same order. Main results:
-- taken_handed, outcome_take, outcome_leaf, outcome_node, outcome_new.
use Rattle.std.specs.Prelude.{◌≡◌, refl, List, [], ◌∷◌, ◌++◌, ℕ, zero, suc, ◌+◌, ◌-◌, ◌*◌, ◌≤◌, ◌<◌, length, get_or, set, drop}
use Rattle.std.proofs.Common.{sym, ap, ◌∙◌, append_assoc, append-nil, arith, length-append, length-drop, length-set, get_or-append-add, get_or-drop, get_or-set_same, get_or-set_other, ext_get_or, eq-eqb, ne_eqb, lt-ltb}
use Rattle.std.proofs.Math.ListN.{get_or-append}
use Rattle.rules.specs.Tree.{Tree, leaf, node, least, size, LeavesBelow}
use Rattle.rules.specs.Order.{listed}
use Rattle.rules.specs.Shuffle.{Queue, Given, behind, taken, given, new_of}
use Rattle.basics.proofs.Listed.{length_listed, listed_at}
use Rattle.basics.proofs.Cases.{by_lt, by_eq}
use Rattle.basics.proofs.Sums.{one_lt, one_ge}
use Rattle.clades.proofs.Size.{size_below}
use Rattle.merging.proofs.Once.{hit_same, hit_other}
use Rattle.shuffle_laws.proofs.Count.{below_times}
use Rattle.shuffle_laws.specs.Taken.{inner, inner_in, nodes, nodes_in, weigh, sum_given, leaf_given, all_given}
use Rattle.shuffle_laws.proofs.Taken.{nodes_behind, nodes_inner, inner_behind, size_inner, leaf_given_lem}
use Rattle.shuffle_laws.specs.Handed.{at_once, waiting, handed, fill, outcome}

once_append : (q q' : Queue) → at_once (q ++ q') ≡ at_once q ++ at_once q'
unfolding at_once
once_append [] q' = refl
once_append ((leaf x, b) ∷ q) q' = ap (λ (gs : List Given). (x, b) ∷ gs) (once_append q q')
once_append ((node l r, b) ∷ q) q' = once_append q q'

waiting_append : (q q' : Queue) → waiting (q ++ q') ≡ waiting q ++ waiting q'
unfolding waiting
waiting_append [] q' = refl
waiting_append ((leaf x, b) ∷ q) q' = waiting_append q q'
waiting_append ((node l r, b) ∷ q) q' = ap (λ (w : Queue). (node l r, b) ∷ w) (waiting_append q q')

handed_none : (k next : ℕ) → handed k next [] ≡ []
unfolding handed
handed_none zero next = refl
handed_none (suc k) next = refl

-- the leaves come out of the queue in the order in which they went in, whether the inner nodes wait with them or not
pub taken_handed : (k j next : ℕ) (q : Queue) → nodes_in q ≤ k → inner_in q ≤ j → taken k next q ≡ at_once q ++ handed j next (waiting q)
unfolding taken handed at_once waiting weigh inner nodes
taken_handed zero j next [] h i = sym (handed_none j next)
taken_handed zero j next (e ∷ q) h i = absurd (omega (arith, nodes_inner e.0))
taken_handed (suc k) j next [] h i = sym (handed_none j next)
taken_handed (suc k) j next ((leaf x, b) ∷ q) h i =
    ap (λ (gs : List Given). (x, b) ∷ gs) (taken_handed k j next q (omega arith) (omega arith))
taken_handed (suc k) zero next ((node l r, b) ∷ q) h i = absurd (omega arith)
taken_handed (suc k) (suc j) next ((node l r, b) ∷ q) h i =
    taken_handed k j (next + 1) (q ++ behind l r b next) (omega (arith, nodes_behind l r b next q)) (omega (arith, inner_behind l r b next q))
    ∙ rw (once_append q (behind l r b next), waiting_append q (behind l r b next))
    (append_assoc (at_once q) (at_once (behind l r b next)) (handed j (next + 1) (waiting q ++ waiting (behind l r b next))))

length_fill : (gs : List Given) (new : List ℕ) → length (fill gs new) ≡ length new
unfolding fill
length_fill [] new = refl
length_fill (g ∷ gs) new = length_fill gs (set new g.0 g.1) ∙ length-set new g.0 g.1

fill_other : (gs : List Given) (new : List ℕ) (x : ℕ) → leaf_given x gs ≡ 0 → get_or (fill gs new) x 0 ≡ get_or new x 0
unfolding fill sum_given
fill_other [] new x h = refl
fill_other (g ∷ gs) new x h =
    fill_other gs (set new g.0 g.1) x (omega arith)
    ∙ get_or-set_other new g.0 x g.1 0 (λ e. absurd (omega (arith, hit_same x g.0 e)))

fill_given : (gs : List Given) (new : List ℕ) (x : ℕ) → x < length new → leaf_given x gs ≡ 1 → get_or (fill gs new) x 0 ≡ given gs x
unfolding fill sum_given given
fill_given [] new x l h = absurd (omega arith)
fill_given (g ∷ gs) new x l h =
    by_eq x g.0
    (λ e. rw (eq-eqb x g.0 e)
    (fill_other gs (set new g.0 g.1) x (omega (arith, hit_same x g.0 e))
    ∙ rw (sym e) (get_or-set_same new x g.1 0 l)))
    (λ d. rw (ne_eqb x g.0 d)
    (fill_given gs (set new g.0 g.1) x (omega (arith, length-set new g.0 g.1)) (omega (arith, hit_other x g.0 d))))

-- nothing waits any more
pub outcome_end : (next : ℕ) (q : Queue) (new : List ℕ) → outcome 0 next q [] new ≡ new
unfolding outcome at_once waiting handed fill
outcome_end next q new = refl

-- the front is taken: its children join the queue
pub outcome_take : (k next : ℕ) (l r : Tree) (b : ℕ) (q : Queue) (new : List ℕ) → least l < least r
    → outcome (suc k) next ((node l r, b) ∷ q) [] new ≡ outcome k (next + 1) q ((l, b) ∷ (r, next) ∷ []) new
unfolding outcome at_once waiting handed behind
outcome_take k next l r b q new h = rw (append-nil q, lt-ltb (least l) (least r) h)

-- a node joins the queue: a leaf gets its label, an inner node goes to the back
pub outcome_leaf : (k next x b : ℕ) (q B : Queue) (new : List ℕ) → outcome k next q ((leaf x, b) ∷ B) new ≡ outcome k next q B (set new x b)
unfolding outcome at_once waiting fill
outcome_leaf k next x b q B new = refl

pub outcome_node : (k next : ℕ) (l r : Tree) (b : ℕ) (q B : Queue) (new : List ℕ)
    → outcome k next q ((node l r, b) ∷ B) new ≡ outcome k next (q ++ ((node l r, b) ∷ [])) B new
unfolding outcome at_once waiting
outcome_node k next l r b q B new = rw (append_assoc q ((node l r, b) ∷ []) (waiting B))

getD_behind : (a old : List ℕ) (n i : ℕ) → length a ≡ n → n ≤ i → get_or (a ++ drop n old) i 0 ≡ get_or old i 0
getD_behind a old n i e h =
    let z : i ≡ length a + (i - n) = omega arith in
    let y : n + (i - n) ≡ i = omega arith in
    ap (λ (j : ℕ). get_or (a ++ drop n old) j 0) z
    ∙ get_or-append-add a (drop n old) (i - n) 0
    ∙ get_or-drop n old (i - n) 0
    ∙ ap (λ (j : ℕ). get_or old j 0) y

-- what is given to the leaves of a tree, stored, is the permutation, and the rest stays
fill_new : {n : ℕ} {t : Tree} → LeavesBelow n t → (old : List ℕ) → n ≤ length old → fill (all_given t) old ≡ new_of t ++ drop n old
unfolding new_of
fill_new {n} {t} b old h =
    ext_get_or 0 (fill (all_given t) old) (listed (size t) (given (all_given t)) ++ drop n old)
    (omega (
      arith,
      length_fill (all_given t) old,
      length-append (listed (size t) (given (all_given t))) (drop n old),
      length_listed (size t) (given (all_given t)),
      length-drop n old,
      size_below _ _ b,
    ))
    (λ i l. by_lt i n
    (λ k. fill_given (all_given t) old i (omega (arith, length_fill (all_given t) old)) (leaf_given_lem i t ∙ below_times b i ∙ one_lt i n k)
    ∙ sym (get_or-append (listed (size t) (given (all_given t))) (drop n old) 0 i (omega (arith, size_below _ _ b, length_listed (size t) (given (all_given t)))) ∙ listed_at (size t) (given (all_given t)) i (omega (arith, size_below _ _ b))))
    (λ k. fill_other (all_given t) old i (leaf_given_lem i t ∙ below_times b i ∙ one_ge i n k)
    ∙ sym (getD_behind (listed (size t) (given (all_given t))) old n i (length_listed (size t) (given (all_given t)) ∙ size_below _ _ b) k)))

-- the whole of Queue Shuffle: the root joins an empty queue with label 0, the next label is 1, and n-1 inner nodes are taken
pub outcome_new : {n : ℕ} {t : Tree} → LeavesBelow n t → (old : List ℕ) → n ≤ length old
    → outcome (n - 1) 1 [] ((t, 0) ∷ []) old ≡ new_of t ++ drop n old
unfolding outcome weigh
outcome_new {n} {t} b old h =
    ap (λ (gs : List Given). fill gs old)
    (sym (taken_handed (2 * size t - 1) (n - 1) 1 ((t, 0) ∷ [])
    (omega (arith, nodes_inner t, size_inner t)) (omega (arith, size_inner t, size_below _ _ b))))
    ∙ fill_new b old h
