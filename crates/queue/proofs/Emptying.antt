-- The whole loop: the queue is emptied, over plain lists.
-- Main definitions: result, Emptying. Main results: emptying_start, start_result, emptying_end.
use mathlib.Core.Path.{◌≡◌, refl, sym, ap, ◌∙◌}
use mathlib.Core.List.{List, [], ◌∷◌, ◌++◌}
use Prim.Native.Nat.{ℕ, ◌+◌, ◌-◌, ◌*◌, ◌≤◌, ◌<◌}
use native.Mathlib.Omega.{arith}
use lib.ListN.{length, drop}
use Rattle.rules.specs.Tree.{Tree}
use Rattle.rules.specs.Table.{table_tree}
use Rattle.rules.specs.Shuffle.{new_of, Queue}
use Rattle.shuffle_laws.specs.Handed.{outcome}
use Rattle.shuffle_laws.proofs.Handed.{outcome_end, outcome_new}
use Rattle.shuffle_laws.specs.Zipped.{zipped_rows, zipped_nodes, zipped_tree, Tabled}
use Rattle.shuffle_laws.proofs.Zipped.{some_leaf, length_zipped, zipped_nodes_lem}
use Rattle.queue.specs.Waits.{queue_at, Waits, Lent, Placed, waits_place, outcome_place, waits_start, queue_none}

pub root_tree : (n : ℕ) (left right : List ℕ) → 1 ≤ n → zipped_tree n left right ≡ zipped_nodes n left right (2 * n - 2)
unfolding table_tree
root_tree n left right h =
    let z : n + length (zipped_rows n left right) - 1 ≡ 2 * n - 2 = omega (arith, length_zipped n left right) in ap (zipped_nodes n left right) z

-- what comes out of the queue where head nodes have been taken
abbrev pub result : ℕ → List ℕ → List ℕ → List ℕ → List ℕ → List ℕ → ℕ → ℕ → List ℕ
result n left right nodes labels new head tail =
    outcome (n - 1 - head) (head + 1) (queue_at (zipped_nodes n left right) nodes labels head tail) [] new

-- The loop, which began with the lists of index ₀ and the end tail₀: the state of the queue, and that its result stays.
pub record Emptying (n : ℕ) (left right nodes₀ labels₀ new₀ : List ℕ) (tail₀ : ℕ) (nodes labels new : List ℕ) (head tail : ℕ) : Type 0 where
  pub within : head ≤ n - 1
  pub state : Waits n (zipped_nodes n left right) nodes labels head tail 0
  pub same : result n left right nodes₀ labels₀ new₀ 0 tail₀ ≡ result n left right nodes labels new head tail

-- the root has joined the queue
pub emptying_start : {n tail : ℕ} {left right nodes labels new nodes' labels' new' : List ℕ}
    → length nodes ≡ 1024 → length labels ≡ 1024 → Lent n left right × Tabled n left right
    → Placed n (2 * n - 2) 0 0 nodes labels new tail nodes' labels' new'
    → Emptying n left right nodes' labels' new' tail nodes' labels' new' 0 tail
emptying_start {n} {tail} {left} {right} {nodes} {labels} k l (L, B) P =
    let h = some_leaf B in
    let e = root_tree n left right h in
    record {
      within = omega arith;
      state =
          waits_place (zipped_nodes_lem n left right B.accepted) (waits_start nodes labels (2 * n - 2) (rw e at B.leaves))
          (omega arith) (rw e at B.turned) (omega (arith, L.small)) (omega (arith, L.small)) P;
      same = refl;
    }

-- what comes out once the root has joined the queue
pub start_result : {n tail : ℕ} {left right nodes labels new nodes' labels' new' : List ℕ}
    → length nodes ≡ 1024 → length labels ≡ 1024 → length new ≡ 1024 → Lent n left right × Tabled n left right
    → Placed n (2 * n - 2) 0 0 nodes labels new tail nodes' labels' new'
    → result n left right nodes' labels' new' 0 tail ≡ new_of (zipped_tree n left right) ++ drop n new
start_result {n} {tail} {left} {right} {nodes} {labels} {new} {nodes'} {labels'} {new'} k l m (L, B) P =
    let h = some_leaf B in
    let all : n - 1 ≡ n - 1 - 0 = omega arith in
    let high : 2 * n - 2 < n + (n - 1) = omega arith in
    sym (sym (outcome_new B.leaves new (omega (arith, L.small)))
    ∙ ap (λ (t : Tree). outcome (n - 1) 1 [] ((t, 0) ∷ []) new) (root_tree n left right h)
    ∙ ap (λ (q : Queue). outcome (n - 1) 1 q ((zipped_nodes n left right (2 * n - 2), 0) ∷ []) new) (sym (queue_none (zipped_nodes n left right) nodes labels 0))
    ∙ outcome_place (zipped_nodes_lem n left right B.accepted) (n - 1) 1 [] (omega arith) high (omega (arith, L.small)) (omega (arith, L.small)) P
    ∙ ap (λ (k : ℕ). outcome k 1 (queue_at (zipped_nodes n left right) nodes' labels' 0 tail) [] new') all)

-- every inner node has been taken
pub emptying_end : {n head tail tail₀ : ℕ} {left right nodes₀ labels₀ new₀ nodes labels new : List ℕ}
    → Emptying n left right nodes₀ labels₀ new₀ tail₀ nodes labels new head tail → n - 1 ≤ head → new ≡ result n left right nodes₀ labels₀ new₀ 0 tail₀
emptying_end {n} {head} {tail} {left = left} {right = right} {nodes = nodes} {labels = labels} {new = new} T h =
    let z : n - 1 - head ≡ 0 = omega arith in
    sym (T.same
    ∙ ap (λ (k : ℕ). outcome k (head + 1) (queue_at (zipped_nodes n left right) nodes labels head tail) [] new) z
    ∙ outcome_end (head + 1) (queue_at (zipped_nodes n left right) nodes labels head tail) new)
