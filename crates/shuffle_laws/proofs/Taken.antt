-- What Queue Shuffle gives: each leaf one label, and each label below n to one leaf. Main results: taken_sum, leaf_given_lem, label_given_lem,
-- new_permutes, new_no_fault.
use Rattle.std.specs.Prelude.{◌≡◌, refl, ◌≢◌, Bool, true, false, cond, List, [], ◌∷◌, ◌++◌, ℕ, zero, suc, ◌+◌, ◌-◌, ◌*◌, ◌≤◌, ◌<◌, ltb, length}
use Rattle.std.proofs.Common.{sym, subst, ◌∙◌, add-one, arith, eq-eqb, ne_eqb}
use Rattle.std.proofs.Math.Option.{none}
use Rattle.rules.specs.Tree.{Tree, leaf, node, least, size, LeavesBelow}
use Rattle.rules.specs.Order.{listed}
use Rattle.rules.specs.Shuffle.{permutation_fault, Queue, Given, behind, taken, given, new_of}
use Rattle.basics.proofs.Cases.{by_eq}
use Rattle.basics.specs.Sums.{one}
use Rattle.basics.proofs.Sums.{one_le, one_lt, one_ge, one_lt_below}
use Rattle.clades.proofs.Size.{size_below}
use Rattle.merging.specs.Once.{hit}
use Rattle.merging.proofs.Once.{hit_same, hit_other}
use Rattle.shuffle_laws.specs.Count.{leaf_times}
use Rattle.shuffle_laws.proofs.Count.{one_more, below_times}
use Rattle.shuffle_laws.specs.Permutation.{Permutes}
use Rattle.shuffle_laws.proofs.Permutation.{no_fault, one_to_one}
use Rattle.shuffle_laws.specs.Taken.{inner, nodes, spread, weigh, inner_in, nodes_in, run, sum_given, leaf_given, label_given, all_given}

pub size_inner : (t : Tree) → size t ≡ suc (inner t)
unfolding size inner
size_inner (leaf x) = refl
size_inner (node l r) = omega (arith, size_inner l, size_inner r)

pub nodes_inner : (t : Tree) → nodes t ≡ suc (2 * inner t)
unfolding nodes inner
nodes_inner (leaf x) = refl
nodes_inner (node l r) = omega (arith, nodes_inner l, nodes_inner r)

spread_hit : (x : ℕ) (t : Tree) → spread (hit x) t ≡ leaf_times x t
unfolding spread leaf_times
spread_hit x (leaf y) = refl
spread_hit x (node l r) = omega (arith, spread_hit x l, spread_hit x r)

spread_zero : (t : Tree) → spread (λ x. 0) t ≡ 0
unfolding spread
spread_zero (leaf y) = refl
spread_zero (node l r) = omega (arith, spread_zero l, spread_zero r)

pub weigh_append : (g : Tree → ℕ) (w : ℕ → ℕ) (q q' : Queue) → weigh g w (q ++ q') ≡ weigh g w q + weigh g w q'
unfolding weigh
weigh_append g w [] q' = omega arith
weigh_append g w (e ∷ q) q' = omega (arith, weigh_append g w q q')

pub weigh_behind : (g : Tree → ℕ) (w : ℕ → ℕ) (l r : Tree) (b next : ℕ) → weigh g w (behind l r b next) ≡ g l + g r + w b + w next
unfolding weigh behind
weigh_behind g w l r b next = go (ltb (least l) (least r))
  where
    go : (c : Bool) → weigh g w (cond c ((l, b) ∷ (r, next) ∷ []) ((r, b) ∷ (l, next) ∷ [])) ≡ g l + g r + w b + w next
    go true = omega arith
    go false = omega arith

pub inner_behind : (l r : Tree) (b next : ℕ) (q : Queue) → inner_in (q ++ behind l r b next) ≡ inner l + inner r + inner_in q
inner_behind l r b next q =
    omega (arith, weigh_append inner (λ b. 0) q (behind l r b next), weigh_behind inner (λ b. 0) l r b next)

pub nodes_behind : (l r : Tree) (b next : ℕ) (q : Queue) → nodes_in (q ++ behind l r b next) ≡ nodes l + nodes r + nodes_in q
nodes_behind l r b next q =
    omega (arith, weigh_append nodes (λ b. 0) q (behind l r b next), weigh_behind nodes (λ b. 0) l r b next)

-- Each leaf under the queue gets one label; the labels are those in the queue and one more for each inner node.
pub taken_sum : (u w : ℕ → ℕ) (k next : ℕ) (q : Queue) → nodes_in q ≤ k
    → sum_given u w (taken k next q) ≡ weigh (spread u) w q + run w next (inner_in q)
unfolding taken sum_given weigh inner nodes spread run
taken_sum u w zero next [] h = refl
taken_sum u w zero next (e ∷ q) h = absurd (omega (arith, nodes_inner e.0))
taken_sum u w (suc k) next [] h = refl
taken_sum u w (suc k) next ((leaf x, b) ∷ q) h =
    let same : 0 + 0 + inner_in q ≡ inner_in q = omega arith in
    rw same (omega (arith, taken_sum u w k next q (omega arith)))
taken_sum u w (suc k) next ((node l r, b) ∷ q) h =
    let same : suc (inner l + inner r) + 0 + inner_in q ≡ suc (inner_in (q ++ behind l r b next)) = omega (arith, inner_behind l r b next q) in
    rw same (omega (
      arith,
      taken_sum u w k (next + 1) (q ++ behind l r b next) (omega (arith, nodes_behind l r b next q)),
      weigh_append (spread u) w q (behind l r b next),
      weigh_behind (spread u) w l r b next,
    ))

run_zero : (next k : ℕ) → run (λ b. 0) next k ≡ 0
unfolding run
run_zero next zero = refl
run_zero next (suc k) = omega (arith, run_zero (next + 1) k)

run_hit : (b next k : ℕ) → one (ltb b next) + run (hit b) next k ≡ one (ltb b (next + k))
unfolding run
run_hit b next zero = let z : next + 0 ≡ next = omega arith in rw z (omega arith)
run_hit b next (suc k) =
    let z : next + suc k ≡ next + 1 + k = omega arith in
    let more : one (ltb b (next + 1)) ≡ one (ltb b next) + hit b next = rw (add-one next) (one_more b next) in
    rw z (omega (arith, run_hit b (next + 1) k))

leaf_label : (x : ℕ) (gs : List Given) → 1 ≤ leaf_given x gs → 1 ≤ label_given (given gs x) gs
unfolding sum_given given
leaf_label x [] h = h
leaf_label x (g ∷ gs) h =
    by_eq x g.0
    (λ e. rw (eq-eqb x g.0 e) (omega (arith, hit_same g.1 g.1 refl)))
    (λ d. let z : given (g ∷ gs) x ≡ given gs x = rw (ne_eqb x g.0 d) in
    subst (λ (k : ℕ). 1 ≤ label_given k (g ∷ gs)) (sym z) (omega (arith, leaf_label x gs (omega (arith, hit_other x g.0 d)))))

leaves_label : (x y : ℕ) (gs : List Given) → x ≢ y → 1 ≤ leaf_given x gs → 1 ≤ leaf_given y gs → given gs x ≡ given gs y
    → 2 ≤ label_given (given gs x) gs
unfolding sum_given given
leaves_label x y [] d h k e = absurd (omega arith)
leaves_label x y (g ∷ gs) d h k e =
    by_eq x g.0
    (λ ex. let ny : y ≢ g.0 = λ q. d (ex ∙ sym q) in
    let same : g.1 ≡ given gs y = rw (eq-eqb x g.0 ex, ne_eqb y g.0 ny) at e in
    let first : given (g ∷ gs) x ≡ given gs y = rw (eq-eqb x g.0 ex) same in
    let other : 1 ≤ label_given (given gs y) gs = leaf_label y gs (omega (arith, hit_other y g.0 ny)) in
    subst (λ (k : ℕ). 2 ≤ label_given k (g ∷ gs)) (sym first) (omega (arith, hit_same (given gs y) g.1 (sym same), other)))
    (λ nx. let first : 1 ≤ leaf_given x gs = omega (arith, hit_other x g.0 nx) in
    let later : given (g ∷ gs) x ≡ given gs x = rw (ne_eqb x g.0 nx) in
    by_eq y g.0
    (λ ey. let same : given gs x ≡ g.1 = rw (ne_eqb x g.0 nx, eq-eqb y g.0 ey) at e in
    subst (λ (k : ℕ). 2 ≤ label_given k (g ∷ gs)) (sym later) (omega (arith, hit_same (given gs x) g.1 same, leaf_label x gs first)))
    (λ ny. let second : 1 ≤ leaf_given y gs = omega (arith, hit_other y g.0 ny) in
    let same : given gs x ≡ given gs y = rw (ne_eqb x g.0 nx, ne_eqb y g.0 ny) at e in
    subst (λ (k : ℕ). 2 ≤ label_given k (g ∷ gs)) (sym later) (omega (arith, leaves_label x y gs d first second same))))

pub leaf_given_lem : (x : ℕ) (t : Tree) → leaf_given x (all_given t) ≡ leaf_times x t
unfolding weigh
leaf_given_lem x t =
    omega (
      arith,
      taken_sum (hit x) (λ b. 0) (2 * size t - 1) 1 ((t, 0) ∷ []) (omega (arith, nodes_inner t, size_inner t)),
      spread_hit x t,
      run_zero 1 (inner_in ((t, 0) ∷ [])),
    )

pub label_given_lem : (b : ℕ) (t : Tree) → label_given b (all_given t) ≡ one (ltb b (size t))
unfolding weigh
label_given_lem b t =
    let z : 1 + inner_in ((t, 0) ∷ []) ≡ size t = omega (arith, size_inner t) in
    let r : one (ltb b 1) + run (hit b) 1 (inner_in ((t, 0) ∷ [])) ≡ one (ltb b (size t)) = rw z at (run_hit b 1 (inner_in ((t, 0) ∷ []))) in
    omega (
      arith,
      taken_sum (λ x. 0) (hit b) (2 * size t - 1) 1 ((t, 0) ∷ []) (omega (arith, nodes_inner t, size_inner t)),
      spread_zero t,
      one_more b 0,
      one_ge b 0 (omega arith),
    )

-- Queue Shuffle's result is a permutation: n values, each number below n once.
pub new_permutes : {n : ℕ} {t : Tree} → LeavesBelow n t → Permutes n (new_of t)
unfolding new_of
new_permutes {n} {t} b = subst (λ (m : ℕ). Permutes m (listed (size t) (given (all_given t)))) (size_below _ _ b) main
  where
    once : (x : ℕ) → x < size t → 1 ≤ leaf_given x (all_given t)
    once x h = omega (arith, leaf_given_lem x t, below_times b x, one_lt x n (omega (arith, size_below _ _ b)))

    main : Permutes (size t) (listed (size t) (given (all_given t)))
    main =
        one_to_one (size t) (given (all_given t))
        (λ x h. one_lt_below (given (all_given t) x) (size t)
        (omega (arith, leaf_label x (all_given t) (once x h), label_given_lem (given (all_given t) x) t)))
        (λ x z h k e. by_eq x z (λ s. s)
        (λ d. absurd (omega (
          arith,
          leaves_label x z (all_given t) d (once x h) (once z k) e,
          label_given_lem (given (all_given t) x) t,
          one_le (ltb (given (all_given t) x) (size t)),
        ))))

pub new_no_fault : {n : ℕ} {t : Tree} → LeavesBelow n t → (length (new_of t) ≡ n) × (permutation_fault n 0 [] (new_of t) ≡ none)
new_no_fault b = ((new_permutes b).count, no_fault (new_permutes b))
