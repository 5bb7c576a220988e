-- One node taken from the queue, over plain lists.
-- Main results: front_row, after_first, after_second.
use mathlib.Core.Path.{◌≡◌, ap, ◌∙◌}
use mathlib.Core.List.{List, [], ◌∷◌}
use Prim.Native.Nat.{ℕ, ◌+◌, ◌-◌, ◌≤◌, ◌<◌}
use native.Mathlib.Omega.{arith}
use lib.ListN.{length, get_or, length-set}
use Rattle.rules.specs.Tree.{Clusters}
use Rattle.basics.proofs.Cases.{by_lt}
use Rattle.shuffle_laws.specs.Taken.{inner}
use Rattle.shuffle_laws.specs.Handed.{outcome}
use Rattle.shuffle_laws.specs.Zipped.{NodesFrom}
use Rattle.queue.specs.Waits.{queue_at, Waits, CanTake, Placed, Front, some_waits, waits_room, waits_place, outcome_place, waits_take}

-- a node that joins the queue changes no length
pub placed_nodes : {n c b tail tail' : ℕ} {nodes labels new nodes' labels' new' : List ℕ}
    → Placed n c b tail nodes labels new tail' nodes' labels' new' → length nodes' ≡ length nodes
placed_nodes {n} {c} {b} {tail} {nodes = nodes} P =
    by_lt c n (λ h. ap length (P.of_leaf h).1) (λ h. ap length (P.of_inner h).1 ∙ length-set nodes tail c)

pub placed_labels : {n c b tail tail' : ℕ} {nodes labels new nodes' labels' new' : List ℕ}
    → Placed n c b tail nodes labels new tail' nodes' labels' new' → length labels' ≡ length labels
placed_labels {n} {c} {b} {tail} {labels = labels} P =
    by_lt c n (λ h. ap length (P.of_leaf h).2) (λ h. ap length (P.of_inner h).2 ∙ length-set labels tail b)

module _ {n : ℕ} {T : Clusters} {left right nodes labels : List ℕ} {head tail : ℕ} (R : CanTake n T left right nodes labels head tail) where
  S : NodesFrom n T left right
  S = R.shape

  W : Waits n T nodes labels head tail 0
  W = R.state

  small : n ≤ 1024
  small = R.lent.small

  h : head < n - 1
  h = R.more

  -- the front waits, is an inner node, and has a row
  pub front_row : (head < 1024) × (n ≤ get_or nodes head 0) × (get_or nodes head 0 - n < n - 1) × (tail < 1024)
  front_row =
      let l = some_waits S W h in
      let a = W.low head l in let b = W.high head l in let r = waits_room S W in
      (omega arith, a, omega arith, omega arith)

  module _ {k mid : ℕ} {new nodes₁ labels₁ new₁ : List ℕ} (nodes_room : length nodes ≡ 1024) (labels_room : length labels ≡ 1024)
      (e : k ≡ get_or nodes head 0)
      (P : Placed n (get_or left (k - n) 0) (get_or labels head 0) tail nodes labels new mid nodes₁ labels₁ new₁) where
    front : Front S nodes labels head tail (get_or left (k - n) 0) (get_or right (k - n) 0) (get_or labels head 0)
    front = rw e (waits_take S W h)

    in_room : (tail < length nodes) × (tail < length labels)
    in_room = let r = front_row.3 in (omega arith, omega arith)

    -- after the first child the second is still to join
    between : Waits n T nodes₁ labels₁ (head + 1) mid (inner (T (get_or right (k - n) 0)) + 0)
    between =
        let z : inner (T (get_or right (k - n) 0)) + 0 ≡ inner (T (get_or right (k - n) 0)) = omega arith in
        rw z (waits_place S front.state front.first_high front.first_turned in_room.0 in_room.1 P)

    pub after_first : mid < 1024
    after_first = let r = waits_room S between in omega (arith, small, front_row.2)

    second_room : (mid < length nodes₁) × (mid < length labels₁)
    second_room = (omega (arith, after_first, nodes_room, placed_nodes P), omega (arith, after_first, labels_room, placed_labels P))

    pub after_second : {r : ℕ} {nodes₂ labels₂ new₂ : List ℕ}
        → Placed n (get_or right (k - n) 0) (head + 1) mid nodes₁ labels₁ new₁ r nodes₂ labels₂ new₂
        → Waits n T nodes₂ labels₂ (head + 1) r 0
        × (outcome (n - 1 - head) (head + 1) (queue_at T nodes labels head tail) [] new
        ≡ outcome (n - 1 - (head + 1)) (head + 1 + 1) (queue_at T nodes₂ labels₂ (head + 1) r) [] new₂)
    after_second P₂ = (
      waits_place S between front.second_high front.second_turned second_room.0 second_room.1 P₂,
      front.result new
          ∙ outcome_place S (n - 1 - (head + 1)) (head + 1 + 1) ((T (get_or right (k - n) 0), head + 1) ∷ []) front.state.places front.first_high in_room.0 in_room.1 P
          ∙ outcome_place S (n - 1 - (head + 1)) (head + 1 + 1) [] between.places front.second_high second_room.0 second_room.1 P₂,
    )
