-- The arrays of a tree as its rows are added one by one.
-- Main definitions: Tells, Built, Adds. Main results: built_start, built_next, built_end.
use Rattle.std.specs.Prelude.{◌≡◌, ◌≢◌, ◌⊎◌, Bool, true, false, not, ◌||◌, cond, ℕ, ◌+◌, ◌-◌, ◌*◌, ◌≤◌, ◌<◌, min, max, eqb, length, set}
use Rattle.std.proofs.Math.Path.{refl}
use Rattle.std.proofs.Common.{sym, ap, ap₂, ◌∙◌, inl, inr, arith, length-set, length-append, get_or-set_other, eqb-true, eq-eqb, ne_eqb, lt-ltb}
use Rattle.std.proofs.Math.Logic.{⊎_elim}
use mathlib.Core.List.{List, [], ◌∷◌, ◌++◌}
use Rattle.std.proofs.Math.Seq.{get_or-set_same}
use Rattle.std.proofs.lemmas.Bool.{eqb-false}
use Rattle.rules.specs.Tree.{Tree, leaf, node, has, least, Distinct, Clusters}
use Rattle.rules.specs.Table.{Row, nodes_of, table_tree}
use Rattle.basics.proofs.Bools.{or_false}
use Rattle.clades.proofs.Leaves.{has_left, has_right, has_cases, least_has, least_apart}
use Rattle.written_tables.specs.Nodes.{noded}
use Rattle.read_tables.specs.Larger.{Pair}
use Rattle.read_tables.proofs.Larger.{lesser, top_has, pair_has, pair_above, top_left, top_right}
use Rattle.read_tables.proofs.Count.{last_or_before, count_pos, count_without}
use Rattle.read_tables.specs.Forest.{named_also, named_in, RowOk, Forest}
use Rattle.read_tables.proofs.Forest.{forest_start, forest_next, forest_end, named_snoc, nodes_snoc, named_no}
use Rattle.read_tables.specs.Chains.{lowest, chain, Smaller, In, Bounded}
use Rattle.read_tables.proofs.Chains.{in_left, chain_own, chain_other, chain_in, lowest_starts}
use Rattle.chains.specs.Key.{no_key}
use Rattle.chains.specs.Walk.{cell, ChainIs, last_cases, chain_kept, chain_more}
use Rattle.chains.specs.Chain.{one_chain, smaller_cong, chain_of_left, chain_of_right}
use Rattle.chains.specs.Drawn.{Drawn}

-- the children that rows name, and their nodes as trees
abbrev pub taken : List Row → ℕ → Bool
taken rs = named_in (λ c. false) rs

abbrev pub nodes : List Row → Clusters
nodes rs = nodes_of rs leaf

-- what the arrays tell of node k, whose tree is t: its name, its key, the smaller names of its pairs, the chains of its leaves, and that
-- its name, which is not yet in a chain, leads nowhere
pub record Tells (k : ℕ) (t : Tree) (names lows small next last : List ℕ) : Type 0 where
  pub name : cell names k ≡ least t
  pub key : cell lows k ≡ lowest no_key t
  pub smaller : Smaller (cell small) t
  pub chained : (x : ℕ) → has t x ≡ true → ChainIs (cell next) (cell last) x (chain no_key t x)
  pub loose : 1 ≤ least t → cell next (least t) ≡ 0

-- the rows are added: the arrays tell of each node that no row has taken as a child
pub record Built (n : ℕ) (rs : List Row) (names lows small next last : List ℕ) : Type 0 where
  pub forest : Forest n (length rs) (taken rs) (nodes rs)
  pub free : (k : ℕ) → k < n + length rs → taken rs k ≡ false → Tells k (nodes rs k) names lows small next last
  pub few : n ≤ 1024
  pub names_room : 2 * n ≤ length names
  pub lows_room : 2 * n ≤ length lows
  pub small_room : n ≤ length small
  pub next_room : n ≤ length next
  pub last_room : n ≤ length last

-- a row with the children l and r and the parent p can be added. a and i are the smaller and the larger of the children's names, which names need
-- not have any more.
pub record Adds (n : ℕ) (rs : List Row) (p l r a i : ℕ) (names lows small next last : List ℕ) : Type 0 where
  pub before : List ℕ
  pub built : Built n rs before lows small next last
  pub others : (k : ℕ) → k ≢ l → k ≢ r → cell names k ≡ cell before k
  pub same : length names ≡ length before
  pub smaller_name : a ≡ min (cell before l) (cell before r)
  pub larger_name : i ≡ max (cell before l) (cell before r)
  pub count : p ≡ n + length rs
  pub row : RowOk n (length rs) (taken rs) (l, r, p)

-- no rows: every node is a leaf
pub built_start : {n : ℕ} {names lows small next last : List ℕ} → n ≤ 1024 → 2 * n ≤ length names → 2 * n ≤ length lows → n ≤ length small → n ≤ length next → n ≤ length last
    → ((k : ℕ) → k < n → cell names k ≡ k) → ((k : ℕ) → k < n → cell lows k ≡ no_key) → ((k : ℕ) → k < n → cell next k ≡ 0) → ((k : ℕ) → k < n → cell last k ≡ 0) → Built n [] names lows small next last
unfolding named_in nodes_of least lowest Smaller ChainIs chain has
built_start {n} few a b c d e named keyed ends none = record {
  forest = forest_start n;
  free = λ k h f. record {
    name = named k (omega arith);
    key = keyed k (omega arith);
    smaller = tt;
    chained = λ x q. none x (omega (arith, eqb-true k x q));
    loose = λ l. ends k (omega arith);
  };
  few = few;
  names_room = a;
  lows_room = b;
  small_room = c;
  next_room = d;
  last_room = e;
}

-- n-1 rows: the arrays are those of the table's tree
pub built_end : {n : ℕ} {rs : List Row} {names lows small next last : List ℕ} → Built n rs names lows small next last → length rs ≡ n - 1 → 1 ≤ n
    → Drawn n (table_tree n rs) small next last
unfolding table_tree
built_end {n} {rs} B e h =
    let L = forest_end n (length rs) (taken rs) (nodes rs) B.forest (omega arith) in
    let T = B.free (n + length rs - 1) (omega arith) (B.forest.last h) in
    record {
      below = L;
      smaller = T.smaller;
      chained = λ k l. T.chained k (L.all k ∙ lt-ltb k n l);
      some_leaf = h;
      few = B.few;
      small_room = B.small_room;
      next_room = B.next_room;
      last_room = B.last_room;
    }

least_of_three : (a b c : ℕ) → min (min a b) c ≡ min a (min b c)
least_of_three a b c = omega arith

-- One row more.
module _ {n : ℕ} {rs : List Row} {p l r a i : ℕ} {names lows small next last : List ℕ} (A : Adds n rs p l r a i names lows small next last) where
  B : Built n rs A.before lows small next last
  B = A.built

  F : Forest n (length rs) (taken rs) (nodes rs)
  F = A.built.forest

  R : RowOk n (length rs) (taken rs) (l, r, p)
  R = A.row

  -- the two parts, their larger name and their key
  abbrev L' : Tree
  L' = nodes rs l

  abbrev R' : Tree
  R' = nodes rs r

  abbrev I : ℕ
  I = max (least L') (least R')

  abbrev S : ℕ
  S = min (least L') (least R')

  abbrev K : ℕ
  K = min I (min (lowest no_key L') (lowest no_key R'))

  left : Tells l L' A.before lows small next last
  left = B.free l R.first R.first_new

  right : Tells r R' A.before lows small next last
  right = B.free r R.second R.second_new

  -- two free nodes are left before, so that n leaves have room for one row more
  adds_few : length rs + 2 ≤ n
  adds_few =
      let one = count_without (λ k. not (taken rs k)) (λ k. not (taken rs k || eqb k l)) l (n + length rs) R.first
      (rw R.first_new) (rw (R.first_new, eq-eqb l l refl)) (λ x h. rw (ne_eqb x l h) (ap not (or_false (taken rs x)))) in
      let two = count_pos (λ k. not (taken rs k || eqb k l)) r (n + length rs) R.second (rw (R.second_new, ne_eqb r l (λ q. R.differ (sym q)))) in
      omega (arith, F.left)

  parts_once : Distinct (node L' R')
  unfolding Distinct
  parts_once = (
    λ x a b. R.differ (F.apart l r x R.first R.second R.first_new R.second_new a b),
    F.once l R.first,
    F.once r R.second,
  )

  parts_below : (x : ℕ) → has (node L' R') x ≡ true → x < n
  parts_below x e = ⊎_elim (F.below l x R.first) (F.below r x R.second) (has_cases L' R' x e)

  parts_bounded : Bounded no_key (node L' R')
  parts_bounded x e = omega (arith, parts_below x e, B.few)

  I_below : I < n
  I_below = parts_below I (top_has L' R')

  I_pos : 1 ≤ I
  I_pos = let a = least_apart L' R' parts_once in omega arith

  -- the key is a leaf of the new node
  K_has : has (node L' R') K ≡ true
  unfolding lowest In
  K_has =
      let s = lowest_starts no_key (node L' R') parts_once parts_bounded (omega (arith, I_below, B.few)) in
      pair_has (node L' R') K (chain_in no_key (node L' R') K K (rw s.1 (inl refl)))

  K_below : K < n
  K_below = parts_below K K_has

  -- the chain of a leaf of the new node, before
  old_chain : (x : ℕ) → has (node L' R') x ≡ true
      → (c : List ℕ) × (chain no_key L' x ++ chain no_key R' x ≡ c) × ChainIs (cell next) (cell last) x c × ((y : ℕ) → In y c → Pair L' y ⊎ Pair R' y)
  old_chain x e = ⊎_elim
      (λ h. (chain no_key L' x, chain_of_left no_key L' R' parts_once parts_bounded x h, left.chained x h, λ y i. inl (chain_in no_key L' x y i)))
      (λ h. (chain no_key R' x, chain_of_right no_key L' R' parts_once parts_bounded x h, right.chained x h, λ y i. inr (chain_in no_key R' x y i)))
      (has_cases L' R' x e)

  abbrev J : ℕ
  J = cell last K

  -- the last name of the key's chain: none, or a larger name of the parts
  J_cases : (J ≡ 0) ⊎ ((1 ≤ J) × (Pair L' J ⊎ Pair R' J) × In J (chain no_key L' K ++ chain no_key R' K))
  J_cases =
      let o = old_chain K K_has in
      ⊎_elim (λ e. inl e) (λ q. inr (q.0, o.3 J q.1, rw o.1 q.1)) (last_cases (cell next) (cell last) K o.0 o.2)

  old_not_new : (y : ℕ) → Pair L' y ⊎ Pair R' y → y ≢ I
  old_not_new y q e = ⊎_elim (λ a. top_left L' R' parts_once (rw e at a)) (λ a. top_right L' R' parts_once (rw e at a)) q

  J_below : J < n
  J_below = ⊎_elim (λ e. omega (arith, I_below)) (λ q. ⊎_elim (λ a. F.below l J R.first (pair_has L' J a)) (λ a. F.below r J R.second (pair_has R' J a)) q.1) J_cases

  J_not_new : I ≢ J
  J_not_new e = ⊎_elim (λ z. omega (arith, I_pos)) (λ q. old_not_new J q.1 (sym e)) J_cases

  abbrev next' : List ℕ
  next' = set next J I

  abbrev last' : List ℕ
  last' = set last K I

  next_last : cell next' J ≡ I
  next_last = get_or-set_same next J I 0 (omega (arith, J_below, B.next_room))

  next_other : (y : ℕ) → y ≢ J → cell next' y ≡ cell next y
  next_other y h = get_or-set_other next J y I 0 h

  -- the names of the two parts led nowhere: the larger one still does, and the smaller one
  next_new : cell next' I ≡ 0
  next_new = next_other I J_not_new ∙ go (lesser (least L') (least R')) I_pos
    where
      go : ((S ≡ least L') × (I ≡ least R')) ⊎ ((S ≡ least R') × (I ≡ least L')) → 1 ≤ I → cell next I ≡ 0
      go (inl q) h = rw q.1 (right.loose (rw q.1 at h))
      go (inr q) h = rw q.1 (left.loose (rw q.1 at h))

  next_smaller : 1 ≤ S → cell next' S ≡ 0
  next_smaller h = next_other S S_not_last ∙ go (lesser (least L') (least R')) h
    where
      S_not_last : S ≢ J
      S_not_last e = ⊎_elim (λ z. omega arith)
          (λ q. ⊎_elim (λ a. omega (arith, pair_above L' J (F.once l R.first) a)) (λ a. omega (arith, pair_above R' J (F.once r R.second) a)) q.1) J_cases

      go : ((S ≡ least L') × (I ≡ least R')) ⊎ ((S ≡ least R') × (I ≡ least L')) → 1 ≤ S → cell next S ≡ 0
      go (inl q) k = rw q.0 (left.loose (rw q.0 at k))
      go (inr q) k = rw q.0 (right.loose (rw q.0 at k))

  last_new : cell last' K ≡ I
  last_new = get_or-set_same last K I 0 (omega (arith, K_below, B.last_room))

  last_other : (x : ℕ) → x ≢ K → cell last' x ≡ cell last x
  last_other x h = get_or-set_other last K x I 0 h

  pair_pos : (y : ℕ) → Pair L' y ⊎ Pair R' y → 1 ≤ y
  pair_pos y q = ⊎_elim (λ a. omega (arith, pair_above L' y (F.once l R.first) a)) (λ a. omega (arith, pair_above R' y (F.once r R.second) a)) q

  in_whole : (k y : ℕ) → In y (chain no_key L' k ++ chain no_key R' k) → In y (chain no_key (node L' R') k)
  unfolding chain
  in_whole k y i = in_left y (chain no_key L' k ++ chain no_key R' k) (cond (eqb k (lowest no_key (node L' R'))) (I ∷ []) []) i

  -- the chains of the new node: that of its key is longer by its own pair
  key_chain : ChainIs (cell next') (cell last') K (chain no_key (node L' R') K)
  unfolding lowest
  key_chain =
      let o = old_chain K K_has in
      rw (chain_own no_key L' R' K refl, o.1)
      (chain_more (cell next) (cell last) (cell next') (cell last') K o.0 I o.2 I_pos last_new next_new (λ h. next_last)
      (λ y i. next_other y))

  other_chain : (x : ℕ) → has (node L' R') x ≡ true → x ≢ K → ChainIs (cell next') (cell last') x (chain no_key (node L' R') x)
  unfolding lowest
  other_chain x e d =
      let o = old_chain x e in
      rw (chain_other no_key L' R' x d, o.1)
      (chain_kept (cell next) (cell last) (cell next') (cell last') x o.0 (last_other x d)
      (λ y i. next_other y (not_last o.0 o.1 o.3 y i)) o.2)
    where
      -- the last name of the key's chain is in no other
      not_last : (c : List ℕ) → chain no_key L' x ++ chain no_key R' x ≡ c → ((y : ℕ) → In y c → Pair L' y ⊎ Pair R' y) → (y : ℕ) → In y c → y ≢ J
      not_last c f g y i q = ⊎_elim
          (λ z. omega (arith, pair_pos y (g y i)))
          (λ w. d (one_chain no_key (node L' R') x K J parts_once (in_whole x J (rw f (rw q at i))) (in_whole K J w.2))) J_cases

  new_chain : (x : ℕ) → has (node L' R') x ≡ true → ChainIs (cell next') (cell last') x (chain no_key (node L' R') x)
  new_chain x e = go (eqb x K) refl
    where
      go : (b : Bool) → eqb x K ≡ b → ChainIs (cell next') (cell last') x (chain no_key (node L' R') x)
      go true q = rw (eqb-true x K q) key_chain
      go false q = other_chain x e (eqb-false x K q)

  -- ---- the new state
  abbrev small' : List ℕ
  small' = set small I S

  abbrev names' : List ℕ
  names' = set names p S

  abbrev lows' : List ℕ
  lows' = set lows p K

  small_other : (x : ℕ) → x ≢ I → cell small' x ≡ cell small x
  small_other x h = get_or-set_other small I x S 0 h

  pub adds_parent : (p < length names) × (p < length lows) × (l < length lows) × (r < length lows)
  adds_parent = let g = adds_few in let c = A.count in omega (arith, R.first, R.second, B.names_room, B.lows_room, A.same)

  new_tells : Tells p (node L' R') names' lows' small' next' last'
  unfolding least lowest Smaller
  new_tells = record {
    name = get_or-set_same names p S 0 adds_parent.0;
    key = get_or-set_same lows p K 0 adds_parent.1;
    smaller = (
      get_or-set_same small I S 0 (omega (arith, I_below, B.small_room)),
      smaller_cong (cell small) (cell small') L' (λ x a. small_other x (old_not_new x (inl a))) left.smaller,
      smaller_cong (cell small) (cell small') R' (λ x a. small_other x (old_not_new x (inr a))) right.smaller,
    );
    chained = new_chain;
    loose = next_smaller;
  }

  -- a free node that the row does not take has none of the row's leaves
  old_tells : (k : ℕ) → k < n + length rs → taken rs k ≡ false → k ≢ l → k ≢ r → Tells k (nodes rs k) names' lows' small' next' last'
  old_tells k h e f g =
      let T = B.free k h e in
      let c = A.count in
      record {
        name = get_or-set_other names p k S 0 (omega arith) ∙ A.others k f g ∙ T.name;
        key = get_or-set_other lows p k K 0 (omega arith) ∙ T.key;
        smaller = smaller_cong (cell small) (cell small') (nodes rs k) (λ x a. small_other x (apart x (pair_has (nodes rs k) x a) I (top_has L' R'))) T.smaller;
        chained = λ x q. chain_kept (cell next) (cell last) (cell next') (cell last') x (chain no_key (nodes rs k) x) (last_other x (apart x q K K_has))
            (λ y i. next_other y (not_last y (in_tree x y i) (positive x y i))) (T.chained x q);
        loose = λ a. next_other (least (nodes rs k)) (not_last (least (nodes rs k)) (least_has (nodes rs k)) a) ∙ T.loose a;
      }
    where
      apart : (x : ℕ) → has (nodes rs k) x ≡ true → (z : ℕ) → has (node L' R') z ≡ true → x ≢ z
      apart x a z b q = ⊎_elim
          (λ d. f (F.apart k l z h R.first e R.first_new (rw q at a) d))
          (λ d. g (F.apart k r z h R.second e R.second_new (rw q at a) d)) (has_cases L' R' z b)

      in_tree : (x y : ℕ) → In y (chain no_key (nodes rs k) x) → has (nodes rs k) y ≡ true
      in_tree x y i = pair_has (nodes rs k) y (chain_in no_key (nodes rs k) x y i)

      positive : (x y : ℕ) → In y (chain no_key (nodes rs k) x) → 1 ≤ y
      positive x y i = omega (arith, pair_above (nodes rs k) y (F.once k h) (chain_in no_key (nodes rs k) x y i))

      not_last : (y : ℕ) → has (nodes rs k) y ≡ true → 1 ≤ y → y ≢ J
      not_last y a b q = ⊎_elim (λ z. omega arith)
          (λ w. ⊎_elim (λ d. apart y a J (has_left L' R' J (pair_has L' J d)) q) (λ d. apart y a J (has_right L' R' J (pair_has R' J d)) q) w.1) J_cases

  abbrev row' : Row
  row' = (l, r, p)

  abbrev rs' : List Row
  rs' = rs ++ (row' ∷ [])

  long : length rs' ≡ length rs + 1
  long = length-append rs (row' ∷ [])

  forest' : Forest n (length rs') (taken rs') (nodes rs')
  forest' = rw (long, named_snoc (λ c. false) rs row', nodes_snoc leaf rs row') (forest_next n (length rs) (taken rs) (nodes rs) row' F R)

  free' : (k : ℕ) → k < n + length rs' → taken rs' k ≡ false → Tells k (nodes rs' k) names' lows' small' next' last'
  free' k h e = go (last_or_before p k (omega (arith, long, A.count)))
    where
      there : nodes rs' k ≡ noded (nodes rs) row' k
      there = ap (λ (c : Clusters). c k) (nodes_snoc leaf rs row')

      none : named_also (taken rs) row' k ≡ false
      none = ap (λ (f : ℕ → Bool). f k) (sym (named_snoc (λ c. false) rs row')) ∙ e

      go : (k ≡ p) ⊎ (k < p) → Tells k (nodes rs' k) names' lows' small' next' last'
      go (inl q) = rw (there, eq-eqb k p q) (rw q new_tells)
      go (inr q) =
          let f = named_no (taken rs) row' k none in
          rw (there, ne_eqb k p (omega arith)) (old_tells k (omega (arith, A.count)) f.0 f.1 f.2)

  built' : Built n rs' names' lows' small' next' last'
  built' = record {
    forest = forest';
    free = free';
    few = B.few;
    names_room = omega (arith, length-set names p S, A.same, B.names_room);
    lows_room = omega (arith, length-set lows p K, B.lows_room);
    small_room = omega (arith, length-set small I S, B.small_room);
    next_room = omega (arith, length-set next J I, B.next_room);
    last_room = omega (arith, length-set last K I, B.last_room);
  }

  is_smaller : a ≡ S
  is_smaller = A.smaller_name ∙ ap₂ min left.name right.name

  is_larger : i ≡ I
  is_larger = A.larger_name ∙ ap₂ max left.name right.name

  -- k is the key of the row's pair, and j the last name with that key
  module _ {u v w k : ℕ} (eu : u ≡ cell lows l) (ev : v ≡ cell lows r) (ew : w ≡ min i u) (ek : k ≡ min w v) where
    is_key : k ≡ K
    is_key = ek ∙ ap₂ min (ew ∙ ap₂ min is_larger (eu ∙ left.key)) (ev ∙ right.key) ∙ least_of_three I (lowest no_key L') (lowest no_key R')

    pub adds_room : (p < 2048) × (a < 1024) × (i < 1024) × (k < 1024) × (i < length small) × (k < length last)
    adds_room =
        let few = adds_few in
        let c = A.count in
        rw (is_smaller, is_larger, is_key) (
          omega (arith, B.few),
          omega (arith, I_below, B.few),
          omega (arith, I_below, B.few),
          parts_bounded K K_has,
          omega (arith, I_below, B.small_room),
          omega (arith, K_below, B.last_room),
        )

    pub adds_last : {j : ℕ} → j ≡ cell last k → (j < 1024) × (j < length next)
    adds_last {j} e = let z : j ≡ J = e ∙ ap (cell last) is_key in (omega (arith, J_below, B.few), omega (arith, J_below, B.next_room))

    pub built_next : {j : ℕ} → j ≡ cell last k → Built n (rs ++ ((l, r, p) ∷ [])) (set names p a) (set lows p k) (set small i a) (set next j i) (set last k i)
    built_next {j} e = let z : j ≡ J = e ∙ ap (cell last) is_key in rw (is_smaller, is_larger, z, is_key) built'
