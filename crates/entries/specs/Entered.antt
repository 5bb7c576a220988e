-- From chains to the entries of the vector: keys fall, and each chain is walked from its key.
-- Main definitions: MadeFrom, Planned, Holding, Entered, Headed. Main results: entered_start, entered_skip, entered_head, headed_next, headed_end, entered_end.
use Rattle.std.specs.Prelude.{◌≡◌, refl, ◌≢◌, ◌⊎◌, Bool, false, ℕ, zero, suc, ◌+◌, ◌-◌, ◌≤◌, ◌<◌, eqb, ltb, drop, set}
use Rattle.std.proofs.Math.Path.{sym, ap, ap₂, subst}
use Rattle.std.proofs.Common.{◌∙◌, add-one, length-set, get_or-set_same, get_or-set_other, drop-set-lt}
use Rattle.std.proofs.Math.Logic.{inl, inr, ⊎_elim}
use Rattle.std.proofs.Math.Bool.{true}
use Rattle.std.proofs.lemmas.Bool.{false≢true}
use mathlib.Core.List.{List, [], ◌∷◌, ◌++◌, append_assoc, append-nil}
use native.Mathlib.Omega.{arith}
use Rattle.std.proofs.Math.ListN.{length}
use borrow.Author.Tests.{eqb-true, eqb-false, ne_eqb, lt-ltb}
use Rattle.rules.specs.Order.{earlier, entry_from, entry_at, listed}
use Rattle.basics.proofs.Bools.{or_cases}
use Rattle.read_tables.specs.Count.{bit, count}
use Rattle.read_tables.proofs.Count.{count_none}
use Rattle.read_tables.specs.Chains.{falling, merges_of, In, Apart, Starts}
use Rattle.read_tables.proofs.Chains.{in_left, in_right, in_cases}
use Rattle.ranks.specs.Ranks.{Ranks, also, count_also, count_le}
use Rattle.chains.specs.Walk.{cell, Walk, ChainIs, chain_pos, far, far_is}
use Rattle.entries.specs.Entries.{less_in, less_snoc, less_none, less_some, partner_is, earlier_is, none_earlier, listed_from}

-- n leaves, the smaller name of each larger name, the chains by their keys, and what stood in the vector before
pub record MadeFrom : Type 0 where
  pub leaves : ℕ
  pub small : List ℕ
  pub chains : ℕ → List ℕ
  pub old : List ℕ

-- the larger names in the order of their merges, and the entries that these say
abbrev pub merged : MadeFrom → List ℕ
merged g = falling g.chains g.leaves

abbrev pub entry : MadeFrom → ℕ → ℕ
entry g = entry_at (merges_of (cell g.small) (merged g))

-- the chains hold each larger name of the leaves once, and a key comes first in its own
pub record Planned (g : MadeFrom) : Type 0 where
  pub some_leaf : 1 ≤ g.leaves
  pub few : g.leaves ≤ 1024
  pub small_room : g.leaves ≤ length g.small
  pub out_room : g.leaves ≤ length g.old
  pub starts : (k : ℕ) → Starts k (g.chains k)
  pub short : (k : ℕ) → length (g.chains k) ≤ 1024
  pub named : (x : ℕ) → In x (merged g) → (cell g.small x < x) × (x < g.leaves)
  pub apart : Apart (merged g)
  pub every : (x : ℕ) → 1 ≤ x → x < g.leaves → In x (merged g)

-- the arrays hold the chains
pub record Holding (g : MadeFrom) (next last : List ℕ) : Type 0 where
  pub chained : (k : ℕ) → k < g.leaves → ChainIs (cell next) (cell last) k (g.chains k)
  pub next_there : g.leaves ≤ length next
  pub last_there : g.leaves ≤ length last

-- the names of done have their entries, those of rest come next. f has the done names that are no keys, all of them from k on; keys
-- counts the others. A name from k on that is not done has in out how many keys were above it.
pub record Entered (g : MadeFrom) (k keys : ℕ) (rest blocks names out : List ℕ) : Type 0 where
  pub planned : Planned g
  pub done : List ℕ
  pub f : ℕ → Bool
  pub split : merged g ≡ done ++ rest
  pub ranked : Ranks f blocks names
  pub inserted : (y : ℕ) → f y ≡ true → In y done
  pub above : (y : ℕ) → In y done → k ≤ y
  pub made : (y : ℕ) → In y done → cell out y ≡ entry g y
  pub waiting : (x : ℕ) → k ≤ x → x < g.leaves → (In x done → ⊥) → less_in x done + cell out x ≡ count f x + keys
  pub keys_few : keys + k ≤ g.leaves
  pub behind : drop g.leaves out ≡ drop g.leaves g.old
  pub same : length out ≡ length g.old

apart_here : (a : List ℕ) (j : ℕ) (b : List ℕ) → Apart (a ++ (j ∷ b)) → In j a → ⊥
unfolding Apart In
apart_here [] j b A h = h
apart_here (x ∷ a) j b A (inl e) = A.0 (in_right x a (j ∷ b) (inl (sym e)))
apart_here (x ∷ a) j b A (inr h) = apart_here a j b A.1 h

in_one : (x y : ℕ) → In x (y ∷ []) → x ≡ y
unfolding In
in_one x y (inl e) = e
in_one x y (inr h) = absurd h

in_first : (y : ℕ) (l : List ℕ) → In y (y ∷ l)
unfolding In
in_first y l = inl refl

pub entered_start : {n : ℕ} {small : List ℕ} {c : ℕ → List ℕ} {old blocks names : List ℕ} → let g : MadeFrom = record { leaves = n; small = small; chains = c; old = old } in Planned g
    → Ranks (λ y. false) blocks names → Entered g n 0 (falling c n) blocks names old
unfolding In
entered_start P R = record {
  planned = P;
  done = [];
  f = λ y. false;
  split = refl;
  ranked = R;
  inserted = λ y e. absurd (false≢true e);
  above = λ y h. absurd h;
  made = λ y h. absurd h;
  waiting = λ x a b h. absurd (omega arith);
  keys_few = omega arith;
  behind = refl;
  same = refl;
}

-- The next name.
module _ {g : MadeFrom} {k keys j : ℕ} {rest blocks names out : List ℕ} (E : Entered g k keys (j ∷ rest) blocks names out) where
  P : Planned g
  P = E.planned

  next_in : In j (merged g)
  next_in = rw E.split (in_right j E.done (j ∷ rest) (in_first j rest))

  pub next_room : (1 ≤ j) × (j < g.leaves) × (j < 1024) × (j < length out)
  next_room =
      let a = P.named j next_in in
      omega (arith, P.few, P.out_room, E.same)

  next_new : In j E.done → ⊥
  next_new = apart_here E.done j rest (rw E.split at P.apart)

  next_absent : E.f j ≡ false
  next_absent = go (E.f j) refl
    where
      go : (b : Bool) → E.f j ≡ b → b ≡ false
      go true e = absurd (next_new (E.inserted j e))
      go false e = refl

  next_entry : entry g j ≡ entry_from j (cell g.small j) (less_in j E.done)
  unfolding entry_at
  next_entry = ap₂ (entry_from j) (partner_is (cell g.small) (merged g) j next_in)
      (ap (λ (l : List ℕ). earlier j (merges_of (cell g.small) l)) E.split
      ∙ earlier_is (cell g.small) E.done j rest next_new (λ y h. (P.named y (rw E.split (in_left y E.done (j ∷ rest) h))).0))

  -- its entry v is made, and it counts as a key or as a member
  entered_more : {k' keys' v : ℕ} {f' : ℕ → Bool} {blocks' names' : List ℕ} → v ≡ entry g j → Ranks f' blocks' names' → ((y : ℕ) → f' y ≡ true → (E.f y ≡ true) ⊎ (y ≡ j))
      → k' ≤ k → k' ≤ j → ((x : ℕ) → k' ≤ x → x ≢ j → k ≤ x) → ((x : ℕ) → k' ≤ x → x ≢ j → count f' x + keys' ≡ count E.f x + keys + bit (ltb j x)) → keys' + k' ≤ g.leaves
      → Entered g k' keys' rest blocks' names' (set out j v)
  entered_more {k'} {keys'} {v} {f'} e R m lo at up counts few = record {
    planned = P;
    done = E.done ++ (j ∷ []);
    f = f';
    split = E.split ∙ sym (append_assoc E.done (j ∷ []) rest);
    ranked = R;
    inserted = λ y q. ⊎_elim (λ p. in_left y E.done (j ∷ []) (E.inserted y p)) (λ p. in_right y E.done (j ∷ []) (rw p (in_first j []))) (m y q);
    above = λ y h. ⊎_elim (λ p. omega (arith, E.above y p)) (λ p. omega (arith, in_one y j p)) (in_cases y E.done (j ∷ []) h);
    made = λ y h. ⊎_elim (old y) (λ p. rw (in_one y j p) (get_or-set_same out j v 0 next_room.3 ∙ e)) (in_cases y E.done (j ∷ []) h);
    waiting = waits;
    keys_few = few;
    behind = drop-set-lt g.leaves out j v next_room.1 ∙ E.behind;
    same = length-set out j v ∙ E.same;
  }
    where
      old : (y : ℕ) → In y E.done → cell (set out j v) y ≡ entry g y
      old y h = get_or-set_other out j y v 0 (λ q. next_new (rw q at h)) ∙ E.made y h

      waits : (x : ℕ) → k' ≤ x → x < g.leaves → (In x (E.done ++ (j ∷ [])) → ⊥) → less_in x (E.done ++ (j ∷ [])) + cell (set out j v) x ≡ count f' x + keys'
      waits x a b h =
          let d : x ≢ j = λ q. h (in_right x E.done (j ∷ []) (rw q (in_first j []))) in
          omega (arith, less_snoc x j E.done, get_or-set_other out j x v 0 d, E.waiting x (up x a d) b (λ q. h (in_left x E.done (j ∷ []) q)), counts x a d)

-- The chain of key k is walked, and stands at j: js are the names from j on.
pub record Headed (g : MadeFrom) (k keys : ℕ) (next blocks names out : List ℕ) (j : ℕ) : Type 0 where
  pub js : List ℕ
  pub walk : Walk (cell next) j js
  pub short : length js ≤ 1024
  pub higher : (y : ℕ) → In y js → k < y
  pub entered : Entered g k keys (js ++ falling g.chains k) blocks names out
  pub key_done : In k entered.done
  pub next_there : g.leaves ≤ length next

-- j is the next of these names, with js behind it
record NextName (g : MadeFrom) (k keys : ℕ) (next blocks names out : List ℕ) (j : ℕ) (js : List ℕ) : Type 0 where
  walk : Walk (cell next) (cell next j) js
  short : length js < 1024
  own : k < j
  higher : (y : ℕ) → In y js → k < y
  entered : Entered g k keys (j ∷ (js ++ falling g.chains k)) blocks names out
  key_done : In k entered.done
  next_there : g.leaves ≤ length next

module _ {g : MadeFrom} {k keys : ℕ} {next blocks names out : List ℕ} {j : ℕ} where
  next_name : Headed g k keys next blocks names out j → j ≢ 0 → (js : List ℕ) × NextName g k keys next blocks names out j js
  unfolding Walk In
  next_name H d = go H.js H.walk H.short H.higher (H.entered, H.key_done)
    where
      go : (js : List ℕ) → Walk (cell next) j js → length js ≤ 1024 → ((y : ℕ) → In y js → k < y) → ((E : Entered g k keys (js ++ falling g.chains k) blocks names out) × In k E.done) → (js : List ℕ) × NextName g k keys next blocks names out j js
      go [] w s h E = absurd (d w)
      go (y ∷ ys) w s h E =
          let e : y ≡ j = sym w.0 in (
            ys,
            record {
              walk = subst (λ (x : ℕ). Walk (cell next) (cell next x) ys) e w.2;
              short = omega arith;
              own = subst (λ (x : ℕ). k < x) e (h y (inl refl));
              higher = λ z i. h z (inr i);
              entered = (subst (λ (x : ℕ). (E : Entered g k keys (x ∷ (ys ++ falling g.chains k)) blocks names out) × In k E.done) e E).0;
              key_done = (subst (λ (x : ℕ). (E : Entered g k keys (x ∷ (ys ++ falling g.chains k)) blocks names out) × In k E.done) e E).1;
              next_there = H.next_there;
            },
          )

  -- the walk is at its end
  pub headed_end : Headed g k keys next blocks names out j → j ≡ 0 → Entered g k keys (falling g.chains k) blocks names out
  unfolding Walk
  headed_end H e = go H.js H.walk H.entered
    where
      go : (js : List ℕ) → Walk (cell next) j js → Entered g k keys (js ++ falling g.chains k) blocks names out → Entered g k keys (falling g.chains k) blocks names out
      go [] w E = E
      go (y ∷ ys) w E = absurd (omega (arith, w.0, w.1))

  -- the key itself is a larger name
  pub headed_key : Headed g k keys next blocks names out j → k < length next
  headed_key H =
      let E = H.entered in
      omega (arith, E.planned.named k (rw E.split (in_left k E.done (H.js ++ falling g.chains k) H.key_done)), H.next_there)

  -- The name j, with the rank r.
  module _ (H : Headed g k keys next blocks names out j) (d : j ≢ 0) where
    abbrev T : (js : List ℕ) × NextName g k keys next blocks names out j js
    T = next_name H d

    abbrev E : Entered g k keys (j ∷ (T.0 ++ falling g.chains k)) blocks names out
    E = T.1.entered

    pub headed_room : (1 ≤ j) × (j < 1024) × (j < length out) × (j < length next)
    headed_room = let a = next_room E in omega (arith, T.1.next_there)

    pub headed_ranked : (f : ℕ → Bool) × Ranks f blocks names × (f j ≡ false)
    headed_ranked = (E.f, E.ranked, next_absent E)

    pub headed_less : far (cell next) 1024 (cell next j) < far (cell next) 1024 j
    unfolding Walk
    headed_less =
        let a = far_is (cell next) 1024 (cell next j) T.0 T.1.walk (omega (arith, T.1.short)) in
        let b = far_is (cell next) 1024 j (j ∷ T.0) (refl, headed_room.0, T.1.walk) (omega (arith, T.1.short)) in
        omega arith

    module _ {r : ℕ} (er : (f : ℕ → Bool) → Ranks f blocks names → r ≡ count f j) where
      less : keys + r ≡ less_in j E.done + cell out j
      less = omega (arith, er E.f E.ranked, E.waiting j (omega (arith, T.1.own)) (next_room E).1 (next_new E))

      pub headed_few : (keys + r ≤ 2048) × (cell out j ≤ keys + r)
      headed_few =
          let p = E.planned in
          let q = headed_room in
          omega (arith, E.keys_few, p.few, er E.f E.ranked, count_le E.f j, less)

      entry_is : j - 1 + (keys + r - cell out j) ≡ entry g j
      unfolding entry_from
      entry_is =
          let s : keys + r - cell out j ≡ less_in j E.done = omega (arith, less) in
          let p = less_some j k E.done T.1.key_done T.1.own in
          rw (s, next_entry E, ne_eqb (less_in j E.done) 0 (omega arith))

      pub headed_next : {blocks' names' : List ℕ} → ((f : ℕ → Bool) → Ranks f blocks names → f j ≡ false → Ranks (also f j) blocks' names')
          → Headed g k keys next blocks' names' (set out j (j - 1 + (keys + r - cell out j))) (cell next j)
      unfolding entered_more
      headed_next I = record {
        js = T.0;
        walk = T.1.walk;
        short = omega (arith, T.1.short);
        higher = T.1.higher;
        entered = entered_more E entry_is (I E.f E.ranked (next_absent E)) also_cases (omega arith) (omega (arith, T.1.own)) (λ x a b. a)
            (λ x a b. omega (arith, count_also E.f j x (next_absent E))) E.keys_few;
        key_done = in_left k E.done (j ∷ []) T.1.key_done;
        next_there = T.1.next_there;
      }
        where
          also_cases : (y : ℕ) → also E.f j y ≡ true → (E.f y ≡ true) ⊎ (y ≡ j)
          also_cases y q = ⊎_elim (λ a. inl a) (λ a. inr (eqb-true y j a)) (or_cases (E.f y) (eqb y j) q)

-- The key k, below the keys that are done.
module _ (k : ℕ) {g : MadeFrom} {keys : ℕ} {next last blocks names out : List ℕ} (E : Entered g (k + 1) keys (falling g.chains (k + 1)) blocks names out)
    (A : Holding g next last) where
  H : ChainIs (cell next) (cell last) k (g.chains k)
  H = A.chained k (omega (arith, E.keys_few))

  rest_is : falling g.chains (k + 1) ≡ g.chains k ++ falling g.chains k
  unfolding falling
  rest_is = rw (add-one k)

  pub key_room : (k < length out) × (k < length g.small) × (k < length next) × (k < length last) × (keys < 1024) × (k < 1024)
  key_room =
      let p = E.planned in
      omega (arith, E.keys_few, E.same, p.few, p.out_room, p.small_room, A.next_there, A.last_there)

  -- it heads no chain
  pub entered_skip : cell last k ≡ 0 → Entered g k keys (falling g.chains k) blocks names (set out k keys)
  entered_skip e = record {
    planned = E.planned;
    done = E.done;
    f = E.f;
    split = E.split ∙ ap (λ (l : List ℕ). E.done ++ l) (rest_is ∙ ap (λ (l : List ℕ). l ++ falling g.chains k) none);
    ranked = E.ranked;
    inserted = E.inserted;
    above = λ y i. omega (arith, E.above y i);
    made = λ y i. get_or-set_other out k y keys 0 (omega (arith, E.above y i)) ∙ E.made y i;
    waiting = λ x a b h. go x b h a (eqb x k) refl;
    keys_few = omega (arith, E.keys_few);
    behind = drop-set-lt g.leaves out k keys (omega (arith, E.keys_few)) ∙ E.behind;
    same = length-set out k keys ∙ E.same;
  }
    where
      none : g.chains k ≡ []
      none = ⊎_elim (λ p. p) (λ p. absurd (omega (arith, chain_pos (cell next) (cell last) k k p.0 (subst (ChainIs (cell next) (cell last) k) p.1 H)))) (E.planned.starts k)

      member_none : count E.f k ≡ 0
      member_none = count_none E.f k (λ x l. not_yet x l (E.f x) refl)
        where
          not_yet : (x : ℕ) → x < k → (b : Bool) → E.f x ≡ b → b ≡ false
          not_yet x l true q = absurd (omega (arith, E.above x (E.inserted x q)))
          not_yet x l false q = refl

      go : (x : ℕ) → x < g.leaves → (In x E.done → ⊥) → k ≤ x → (b : Bool) → eqb x k ≡ b → less_in x E.done + cell (set out k keys) x ≡ count E.f x + keys
      go x b h a true q = rw (eqb-true x k q) (omega (arith, less_none k E.done (λ y i. omega (arith, E.above y i)), member_none, get_or-set_same out k keys 0 key_room.0))
      go x b h a false q = let z = eqb-false x k q in omega (arith, get_or-set_other out k x keys 0 z, E.waiting x (omega arith) b h)

  -- it heads a chain: no name that is done is below it
  pub entered_head : cell last k ≢ 0 → Headed g k (keys + 1) next blocks names (set out k (cell g.small k)) (cell next k)
  unfolding ChainIs In bit entry_from entered_more
  entered_head d = go (E.planned.starts k)
    where
      go : Starts k (g.chains k) → Headed g k (keys + 1) next blocks names (set out k (cell g.small k)) (cell next k)
      go (inl e) = absurd (d (subst (ChainIs (cell next) (cell last) k) e H))
      go (inr (ys, e, h)) = record {
        js = ys;
        walk = (subst (ChainIs (cell next) (cell last) k) e H).2;
        short = omega (arith, E.planned.short k, ap length e);
        higher = h;
        entered = entered_more F (sym (next_entry F ∙ rw no_less)) F.ranked (λ y q. inl q) (omega arith) (omega arith) (λ x a b. omega arith)
            (λ x a b. rw (lt-ltb k x (omega arith)) (omega arith)) (omega (arith, E.keys_few));
        key_done = in_right k F.done (k ∷ []) (in_first k []);
        next_there = A.next_there;
      }
        where
          F : Entered g (k + 1) keys (k ∷ (ys ++ falling g.chains k)) blocks names out
          F = subst (λ (l : List ℕ). Entered g (k + 1) keys l blocks names out) (rest_is ∙ ap (λ (l : List ℕ). l ++ falling g.chains k) e) E

          no_less : less_in k F.done ≡ 0
          no_less = less_none k F.done (λ y i. omega (arith, F.above y i))

-- all keys from 1 on are done
pub entered_end : {g : MadeFrom} {keys : ℕ} {blocks names out : List ℕ} → Entered g 1 keys (falling g.chains 1) blocks names out
    → set out 0 0 ≡ listed g.leaves (entry g) ++ drop g.leaves g.old
unfolding entry_at entry_from falling In
entered_end {g} {keys} {blocks} {names} {out} E =
    listed_from g.leaves (entry g) (set out 0 0) (omega (arith, E.same, length-set out 0 0, P.out_room)) at_each
    ∙ ap (λ (r : List ℕ). listed g.leaves (entry g) ++ r) (drop-set-lt g.leaves out 0 0 P.some_leaf ∙ E.behind)
  where
    P : Planned g
    P = E.planned

    last_none : falling g.chains 1 ≡ []
    last_none = go (P.starts 0)
      where
        go : Starts 0 (g.chains 0) → falling g.chains 1 ≡ []
        go (inl e) = rw e
        go (inr (ys, e, h)) =
            let i : In 0 (falling g.chains 1) = rw e (inl refl) in
            absurd (omega (arith, (P.named 0 (rw E.split (in_right 0 E.done (falling g.chains 1) i))).0))

    all_done : (x : ℕ) → In x (merged g) → In x E.done
    all_done x i = rw (E.split ∙ ap (λ (l : List ℕ). E.done ++ l) last_none ∙ append-nil E.done) at i

    at_each : (x : ℕ) → x < g.leaves → cell (set out 0 0) x ≡ entry g x
    at_each zero y =
        let q = none_earlier (cell g.small) (merged g) (λ z i. (P.named z i).0) in
        get_or-set_same out 0 0 0 (omega (arith, E.same, P.out_room)) ∙ sym (rw (q.0, q.1))
    at_each (suc x) y = get_or-set_other out 0 (suc x) 0 0 (omega arith) ∙ E.made (suc x) (all_done (suc x) (P.every (suc x) (omega arith) y))
