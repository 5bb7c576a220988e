-- The queue in two lists: the numbers of the nodes that joined it, and their labels. The nodes from head on wait.
-- Main definitions: joined, queue_at, Waits, Lent, CanTake, Placed. Main results: waits_start, waits_place, waits_take.
use Rattle.std.specs.Prelude.{◌≡◌, refl, ◌≢◌, List, [], ◌∷◌, ◌++◌, length, set, drop}
use Rattle.std.proofs.Common.{sym, ◌∙◌, add-one, length-append, drop-cons, get_or-set_same, get_or-set_other}
use Rattle.std.proofs.Math.Path.{ap}
use Prim.Native.Nat.{ℕ, zero, suc, ◌+◌, ◌-◌, ◌≤◌, ◌<◌}
use native.Mathlib.Omega.{arith}
use Rattle.std.proofs.Math.ListN.{get_or, get_or-append}
use Rattle.std.proofs.lemmas.List.{drop-append-le, get_or_at}
use Rattle.std.proofs.Math.Seq.{drop-length}
use Rattle.rules.specs.Tree.{Tree, leaf, node, least, Clusters, LeavesBelow}
use Rattle.rules.specs.Shuffle.{Queue}
use Rattle.basics.proofs.Cases.{by_lt, by_eq}
use Rattle.clades.proofs.Size.{size_below}
use Rattle.shuffle_laws.specs.Taken.{inner, inner_in, weigh}
use Rattle.shuffle_laws.proofs.Taken.{weigh_append, size_inner}
use Rattle.shuffle_laws.specs.Handed.{outcome}
use Rattle.shuffle_laws.proofs.Handed.{outcome_take, outcome_leaf, outcome_node}
use Rattle.clades.specs.Form.{Turned}
use Rattle.shuffle_laws.specs.Zipped.{NodesFrom}

-- all that joined the queue, in order, with their labels
unfoldable pub joined : Clusters → List ℕ → List ℕ → ℕ → Queue
joined T nodes labels zero = []
joined T nodes labels (suc j) = joined T nodes labels j ++ ((T (get_or nodes j 0), get_or labels j 0) ∷ [])

-- the queue: the first head of them have been taken
unfoldable pub queue_at : Clusters → List ℕ → List ℕ → ℕ → ℕ → Queue
unfolding joined
queue_at T nodes labels head tail = drop head (joined T nodes labels tail)

-- The state of the queue: its nodes are inner nodes, and the inner nodes taken, under the queue and still to join it (more) are n - 1.
pub record Waits (n : ℕ) (T : Clusters) (nodes labels : List ℕ) (head tail more : ℕ) : Type 0 where
  pub places : head ≤ tail
  pub low : (j : ℕ) → j < tail → n ≤ get_or nodes j 0
  pub high : (j : ℕ) → j < tail → get_or nodes j 0 < n + (n - 1)
  pub turned : (j : ℕ) → j < tail → Turned (T (get_or nodes j 0))
  pub count : head + inner_in (queue_at T nodes labels head tail) + more ≡ n - 1

-- The lent rows are long enough.
pub record Lent (n : ℕ) (left right : List ℕ) : Type 0 where
  pub small : n ≤ 1024
  pub lefts : n - 1 ≤ length left
  pub rights : n - 1 ≤ length right

-- The next node can be taken from the queue.
pub record CanTake (n : ℕ) (T : Clusters) (left right nodes labels : List ℕ) (head tail : ℕ) : Type 0 where
  pub lent : Lent n left right
  pub shape : NodesFrom n T left right
  pub state : Waits n T nodes labels head tail 0
  pub more : head < n - 1

-- A leaf c gets its label b; another node goes to the back of the queue with it.
pub record Placed (n c b tail : ℕ) (nodes labels new : List ℕ) (tail' : ℕ) (nodes' labels' new' : List ℕ) : Type 0 where
  pub of_leaf : c < n → (tail' ≡ tail) × (nodes' ≡ nodes) × (labels' ≡ labels) × (new' ≡ set new c b)
  pub of_inner : n ≤ c → (tail' ≡ tail + 1) × (nodes' ≡ set nodes tail c) × (labels' ≡ set labels tail b) × (new' ≡ new)

length_joined : (T : Clusters) (nodes labels : List ℕ) (k : ℕ) → length (joined T nodes labels k) ≡ k
unfolding joined
length_joined T nodes labels zero = refl
length_joined T nodes labels (suc k) =
    omega (arith, length-append (joined T nodes labels k) ((T (get_or nodes k 0), get_or labels k 0) ∷ []), length_joined T nodes labels k)

getD_joined : (T : Clusters) (nodes labels : List ℕ) (k j : ℕ) (d : Tree × ℕ) → j < k
    → get_or (joined T nodes labels k) j d ≡ (T (get_or nodes j 0), get_or labels j 0)
unfolding joined
getD_joined T nodes labels zero j d h = absurd (omega arith)
getD_joined T nodes labels (suc k) j d h =
    by_eq j k
    (λ e. rw e (get_or_at (joined T nodes labels k) (T (get_or nodes k 0), get_or labels k 0) [] d k (length_joined T nodes labels k)))
    (λ ne. get_or-append (joined T nodes labels k) ((T (get_or nodes k 0), get_or labels k 0) ∷ []) d j (omega (arith, length_joined T nodes labels k, ne))
    ∙ getD_joined T nodes labels k j d (omega (arith, ne)))

-- a store at k or later changes nothing of what joined before
joined_set : (T : Clusters) (nodes labels : List ℕ) (k at c b : ℕ) → k ≤ at
    → joined T (set nodes at c) (set labels at b) k ≡ joined T nodes labels k
unfolding joined
joined_set T nodes labels zero at c b h = refl
joined_set T nodes labels (suc k) at c b h =
    rw (
      joined_set T nodes labels k at c b (omega arith),
      get_or-set_other nodes at k c 0 (λ e. absurd (omega arith)),
      get_or-set_other labels at k b 0 (λ e. absurd (omega arith)),
    )

-- a node at the back
pub queue_back : (T : Clusters) (nodes labels : List ℕ) (head tail c b : ℕ) → head ≤ tail → tail < length nodes → tail < length labels
    → queue_at T (set nodes tail c) (set labels tail b) head (tail + 1) ≡ queue_at T nodes labels head tail ++ ((T c, b) ∷ [])
unfolding queue_at joined
queue_back T nodes labels head tail c b h k l =
    rw (add-one tail, joined_set T nodes labels tail tail c b (omega arith), get_or-set_same nodes tail c 0 k, get_or-set_same labels tail b 0 l)
    (drop-append-le head (joined T nodes labels tail) ((T c, b) ∷ []) (omega (arith, length_joined T nodes labels tail)))

-- the node at the front
pub queue_front : (T : Clusters) (nodes labels : List ℕ) (head tail : ℕ) → head < tail
    → queue_at T nodes labels head tail ≡ (T (get_or nodes head 0), get_or labels head 0) ∷ queue_at T nodes labels (head + 1) tail
unfolding queue_at
queue_front T nodes labels head tail h =
    rw (add-one head)
    (drop-cons (joined T nodes labels tail) head (leaf 0, 0) (omega (arith, length_joined T nodes labels tail))
    ∙ rw (getD_joined T nodes labels tail head (leaf 0, 0) h))

pub queue_none : (T : Clusters) (nodes labels : List ℕ) (head : ℕ) → queue_at T nodes labels head head ≡ []
unfolding queue_at
queue_none T nodes labels head =
    let e = length_joined T nodes labels head in
    ap (λ (k : ℕ). drop k (joined T nodes labels head)) (sym e) ∙ drop-length (joined T nodes labels head)

module _ {n : ℕ} {T : Clusters} {left right : List ℕ} (S : NodesFrom n T left right) where
  -- an inner node is the pair of its row's children
  pub pair_of : (k : ℕ) → n ≤ k → k < n + (n - 1) → T k ≡ node (T (get_or left (k - n) 0)) (T (get_or right (k - n) 0))
  pair_of k h l = let z : k ≡ n + (k - n) = omega arith in ap T z ∙ S.pairs (k - n) (omega arith)

  inner_of : (k : ℕ) → n ≤ k → k < n + (n - 1) → inner (T k) ≡ suc (inner (T (get_or left (k - n) 0)) + inner (T (get_or right (k - n) 0)))
  unfolding inner
  inner_of k h l = ap inner (pair_of k h l)

  -- no more nodes wait than there are inner nodes under the queue
  queue_inner : (nodes labels : List ℕ) (tail d head : ℕ) → head + d ≡ tail
      → ((j : ℕ) → j < tail → n ≤ get_or nodes j 0) → ((j : ℕ) → j < tail → get_or nodes j 0 < n + (n - 1)) → d ≤ inner_in (queue_at T nodes labels head tail)
  unfolding weigh
  queue_inner nodes labels tail zero head e low high = omega arith
  queue_inner nodes labels tail (suc d) head e low high =
      rw (queue_front T nodes labels head tail (omega arith))
      (omega (
        arith,
        inner_of (get_or nodes head 0) (low head (omega arith)) (high head (omega arith)),
        queue_inner nodes labels tail d (head + 1) (omega arith) low high,
      ))

  pub waits_room : {nodes labels : List ℕ} {head tail more : ℕ} → Waits n T nodes labels head tail more → tail + more ≤ n - 1
  waits_room {nodes} {labels} {head} {tail} {more} W =
      omega (arith, W.places, W.count, queue_inner nodes labels tail (tail - head) head (omega (arith, W.places)) W.low W.high)

  place_leaf : (c : ℕ) {nodes labels : List ℕ} {head tail more : ℕ} → c < n → Waits n T nodes labels head tail (inner (T c) + more)
      → Waits n T nodes labels head tail more
  unfolding inner
  place_leaf c h W = record {
    places = W.places;
    low = W.low;
    high = W.high;
    turned = W.turned;
    count = omega (arith, W.count, ap inner (S.leaves c h));
  }

  place_inner : (c b : ℕ) {nodes labels : List ℕ} {head tail more : ℕ} → n ≤ c → c < n + (n - 1) → Turned (T c)
      → tail < length nodes → tail < length labels → Waits n T nodes labels head tail (inner (T c) + more)
      → Waits n T (set nodes tail c) (set labels tail b) head (tail + 1) more
  unfolding weigh
  place_inner c b {nodes} {labels} {head} {tail} {more} h m u k l W = record {
    places = omega (arith, W.places);
    low = λ j q. by_eq j tail (λ e. rw (at_back j e) h) (λ d. rw (before j d) (W.low j (omega (arith, d))));
    high = λ j q. by_eq j tail (λ e. rw (at_back j e) m) (λ d. rw (before j d) (W.high j (omega (arith, d))));
    turned = λ j q. by_eq j tail (λ e. rw (at_back j e) u) (λ d. rw (before j d) (W.turned j (omega (arith, d))));
    count = rw (queue_back T nodes labels head tail c b W.places k l)
        (omega (arith, W.count, weigh_append inner (λ x. 0) (queue_at T nodes labels head tail) ((T c, b) ∷ [])));
  }
    where
      at_back : (j : ℕ) → j ≡ tail → get_or (set nodes tail c) j 0 ≡ c
      at_back j e = rw e (get_or-set_same nodes tail c 0 k)

      before : (j : ℕ) → j ≢ tail → get_or (set nodes tail c) j 0 ≡ get_or nodes j 0
      before j d = get_or-set_other nodes tail j c 0 d

  -- a node joins the queue: the state stays
  pub waits_place : {c b tail tail' : ℕ} {nodes labels new nodes' labels' new' : List ℕ} {head more : ℕ}
      → Waits n T nodes labels head tail (inner (T c) + more) → c < n + (n - 1) → Turned (T c) → tail < length nodes → tail < length labels
      → Placed n c b tail nodes labels new tail' nodes' labels' new'
      → Waits n T nodes' labels' head tail' more
  waits_place {c} {b} W h u k l P =
      by_lt c n
      (λ q. let e = P.of_leaf q in rw (e.0, e.1, e.2) (place_leaf c q W))
      (λ q. let e = P.of_inner q in rw (e.0, e.1, e.2) (place_inner c b q h u k l W))

  -- a node joins the queue: what comes out stays
  pub outcome_place : {c b tail tail' : ℕ} {nodes labels new nodes' labels' new' : List ℕ} {head : ℕ} (k next : ℕ) (B : Queue)
      → head ≤ tail → c < n + (n - 1) → tail < length nodes → tail < length labels
      → Placed n c b tail nodes labels new tail' nodes' labels' new'
      → outcome k next (queue_at T nodes labels head tail) ((T c, b) ∷ B) new ≡ outcome k next (queue_at T nodes' labels' head tail') B new'
  outcome_place {c} {b} {tail} {tail'} {nodes} {labels} {new} {nodes'} {labels'} {new'} {head} k next B o h m l P =
      by_lt c n
      (λ q. let e = P.of_leaf q in
      rw (e.0, e.1, e.2, e.3, S.leaves c q) (outcome_leaf k next c b (queue_at T nodes labels head tail) B new))
      (λ q. let e = P.of_inner q in
      rw (e.0, e.1, e.2, e.3, queue_back T nodes labels head tail c b o m l, pair_of c q h)
      (outcome_node k next (T (get_or left (c - n) 0)) (T (get_or right (c - n) 0)) b (queue_at T nodes labels head tail) B new))

  turned_pair : (k : ℕ) → n ≤ k → k < n + (n - 1) → Turned (T k)
      → (least (T (get_or left (k - n) 0)) < least (T (get_or right (k - n) 0))) × Turned (T (get_or left (k - n) 0)) × Turned (T (get_or right (k - n) 0))
  unfolding Turned
  turned_pair k h l u = rw (pair_of k h l) at u

  -- while inner nodes are left, one waits
  pub some_waits : {nodes labels : List ℕ} {head tail : ℕ} → Waits n T nodes labels head tail 0 → head < n - 1 → head < tail
  unfolding weigh
  some_waits {nodes} {labels} {head} {tail} W h =
      by_lt head tail (λ l. l)
      (λ l. let e : tail ≡ head = omega (arith, W.places) in
      let none : inner_in (queue_at T nodes labels head tail) ≡ 0 = rw (e, queue_none T nodes labels head) in
      absurd (omega (arith, W.count)))

  -- The front is taken: number k, with label b. Its children, first and second, are to join the queue.
  pub record Front (nodes labels : List ℕ) (head tail first second b : ℕ) : Type 0 where
    pub state : Waits n T nodes labels (head + 1) tail (inner (T first) + inner (T second))
    pub first_high : first < n + (n - 1)
    pub second_high : second < n + (n - 1)
    pub first_turned : Turned (T first)
    pub second_turned : Turned (T second)
    pub result : (new : List ℕ) → outcome (n - 1 - head) (head + 1) (queue_at T nodes labels head tail) [] new
        ≡ outcome (n - 1 - (head + 1)) (head + 1 + 1) (queue_at T nodes labels (head + 1) tail) ((T first, b) ∷ (T second, head + 1) ∷ []) new

  pub waits_take : {nodes labels : List ℕ} {head tail : ℕ} → Waits n T nodes labels head tail 0 → head < n - 1
      → Front nodes labels head tail (get_or left (get_or nodes head 0 - n) 0) (get_or right (get_or nodes head 0 - n) 0) (get_or labels head 0)
  unfolding weigh
  waits_take {nodes} {labels} {head} {tail} W h =
      let l : head < tail = some_waits W h in
      let low : n ≤ get_or nodes head 0 = W.low head l in
      let high : get_or nodes head 0 < n + (n - 1) = W.high head l in
      let u = turned_pair (get_or nodes head 0) low high (W.turned head l) in
      let front = queue_front T nodes labels head tail l in
      record {
        state = record {
          places = omega arith;
          low = W.low;
          high = W.high;
          turned = W.turned;
          count = omega (arith, W.count, ap inner_in front, inner_of (get_or nodes head 0) low high);
        };
        first_high = omega (arith, S.first (get_or nodes head 0 - n) (omega arith));
        second_high = omega (arith, S.second (get_or nodes head 0 - n) (omega arith));
        first_turned = u.1;
        second_turned = u.2;
        result = λ new.
            let z : n - 1 - head ≡ suc (n - 1 - (head + 1)) = omega arith in
            rw (z, front, pair_of (get_or nodes head 0) low high)
            (outcome_take (n - 1 - (head + 1)) (head + 1) (T (get_or left (get_or nodes head 0 - n) 0)) (T (get_or right (get_or nodes head 0 - n) 0))
            (get_or labels head 0) (queue_at T nodes labels (head + 1) tail) new u.0);
      }

-- the root is to join an empty queue
pub waits_start : {n : ℕ} {T : Clusters} (nodes labels : List ℕ) (root : ℕ) → LeavesBelow n (T root) → Waits n T nodes labels 0 0 (inner (T root) + 0)
unfolding weigh
waits_start {n} {T} nodes labels root b = record {
  places = omega arith;
  low = λ j h. absurd (omega arith);
  high = λ j h. absurd (omega arith);
  turned = λ j h. absurd (omega arith);
  count = omega (arith, ap inner_in (queue_none T nodes labels 0), size_below _ _ b, size_inner (T root));
}
