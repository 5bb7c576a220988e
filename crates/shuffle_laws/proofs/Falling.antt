-- Falling trees: the larger name of each pair is smaller than those of the pairs under it. Their merges go n-1, n-2, .., 1. Main results:
-- tops_leaves, next_of, ordered_down, down_entry.
use Rattle.std.specs.Prelude.{◌≡◌, refl, ◌≢◌, false, cond, List, [], ◌∷◌, ℕ, zero, suc, ◌+◌, ◌≤◌, ◌<◌, min, max, eqb, ltb}
use Rattle.std.proofs.Common.{ap, ap₂, arith, lt-ltb, le-ltb, eq-eqb, ne_eqb}
use Rattle.std.proofs.Math.Option.{none, some}
use Rattle.rules.specs.Building.{Merge, follow}
use Rattle.rules.specs.Tree.{Tree, leaf, node, least}
use Rattle.rules.specs.Order.{ready, greater, best, is_merge, collapse, ordered, earlier, partner, entry_from, entry_at}
use Rattle.basics.proofs.Bools.{and_false}
use Rattle.basics.proofs.Cases.{by_lt, by_eq}
use Rattle.basics.proofs.Sums.{one_le, one_lt, one_lt_below}
use Rattle.merging.specs.Once.{hit}
use Rattle.merging.proofs.Once.{hit_same, hit_other}
use Rattle.shuffle_laws.specs.Count.{leaf_times}
use Rattle.shuffle_laws.proofs.Count.{one_more, hit_one}
use Rattle.shuffle_laws.specs.Falling.{higher, tops, Falling, Left, Once, Next, NextOf, Down, Names}

pub falling_down : (lo lo' : ℕ) (t : Tree) → lo ≤ lo' → Falling lo' t → Falling lo t
unfolding Falling
falling_down lo lo' (leaf x) h f = tt
falling_down lo lo' (node l r) h f = let k = f.1 in (f.0, omega arith, f.2, f.3)

hit_min_max : (x a b : ℕ) → hit x (min a b) + hit x (max a b) ≡ hit x a + hit x b
hit_min_max x a b =
    by_lt a b
    (λ l. let low : min a b ≡ a = omega arith in let high : max a b ≡ b = omega arith in rw (low, high))
    (λ l. let low : min a b ≡ b = omega arith in let high : max a b ≡ a = omega arith in rw (low, high) (omega arith))

-- each leaf but the least is the larger name of one pair
pub tops_leaves : (x : ℕ) (t : Tree) → tops x t + hit x (least t) ≡ leaf_times x t
unfolding tops leaf_times least
tops_leaves x (leaf y) = omega arith
tops_leaves x (node l r) = omega (arith, hit_min_max x (least l) (least r), tops_leaves x l, tops_leaves x r)

falling_tops : (lo x : ℕ) (t : Tree) → Falling lo t → 1 ≤ tops x t → lo ≤ x
unfolding Falling tops
falling_tops lo x (leaf y) f h = absurd (omega arith)
falling_tops lo x (node l r) f h = let low = f.1 in
    by_eq x (higher l r) (λ e. omega arith)
    (λ d. by_lt 0 (tops x l)
    (λ k. omega (arith, falling_tops (suc (higher l r)) x l f.2 k))
    (λ k. omega (arith, hit_other x (higher l r) d, falling_tops (suc (higher l r)) x r f.3 (omega (arith, hit_other x (higher l r) d)))))

not_merge : (m : Merge) (l r : Tree) → m.1 ≢ higher l r → is_merge m (ready l r) ≡ false
unfolding is_merge ready least
not_merge m (leaf a) (leaf b) d = rw (ne_eqb m.1 (max a b) d) (and_false (eqb m.0 (min a b)))
not_merge m (leaf a) (node l r) d = refl
not_merge m (node l r) u d = refl

-- a merge that is none of a part's leaves the part as it is
collapse_same : (m : Merge) (t : Tree) → tops m.1 t ≡ 0 → collapse m t ≡ t
unfolding collapse tops
collapse_same m (leaf x) h = refl
collapse_same m (node l r) h =
    rw (not_merge m l r (λ e. absurd (omega (arith, hit_same m.1 (higher l r) e))))
    (ap₂ node (collapse_same m l (omega arith)) (collapse_same m r (omega arith)))

collapse_node : (m : Merge) (l r : Tree) → ready l r ≡ none → collapse m (node l r) ≡ node (collapse m l) (collapse m r)
unfolding collapse is_merge
collapse_node m l r w = rw w

left_node : (l l' r : Tree) (m : Merge) → Left l l' m → Left (node l r) (node l' r) m
unfolding tops Falling least
left_node l l' r m L = record {
  name = rw L.name;
  fewer = λ x. rw L.name (omega (arith, L.fewer x));
  falls = λ lo f. rw L.name (f.0, f.1, L.falls (suc (higher l r)) f.2, f.3);
}

right_node : (l r r' : Tree) (m : Merge) → Left r r' m → Left (node l r) (node l r') m
unfolding tops Falling least
right_node l r r' m L = record {
  name = rw L.name;
  fewer = λ x. rw L.name (omega (arith, L.fewer x));
  falls = λ lo f. rw L.name (f.0, f.1, f.2, L.falls (suc (higher l r)) f.3);
}

once_left : (l r : Tree) → Once (node l r) → Once l
unfolding tops
once_left l r o x = omega (arith, o x)

once_right : (l r : Tree) → Once (node l r) → Once r
unfolding tops
once_right l r o x = omega (arith, o x)

collapse_left : (l r : Tree) (m : Merge) → ready l r ≡ none → 1 ≤ tops m.1 l → Once (node l r) → Left l (collapse m l) m
    → Left (node l r) (collapse m (node l r)) m
unfolding tops
collapse_left l r m w c o L =
    rw (collapse_node m l r w, collapse_same m r (omega (arith, o m.1))) (left_node l (collapse m l) r m L)

collapse_right : (l r : Tree) (m : Merge) → ready l r ≡ none → 1 ≤ tops m.1 r → Once (node l r) → Left r (collapse m r) m
    → Left (node l r) (collapse m (node l r)) m
unfolding tops
collapse_right l r m w c o L =
    rw (collapse_node m l r w, collapse_same m l (omega (arith, o m.1))) (right_node l r (collapse m r) m L)

-- the next merge of two parts of which one is not complete: one of the next merges of the parts
lift : (l r : Tree) (m : Merge) → best (node l r) ≡ some m → m.0 < m.1 → 1 ≤ tops m.1 l + tops m.1 r → higher l r ≤ m.1
    → ((x : ℕ) → 1 ≤ tops x l + tops x r → x ≤ m.1) → (Once (node l r) → Left (node l r) (collapse m (node l r)) m) → Next (node l r) m
unfolding tops
lift l r m e i c h g a = record {
  found = e;
  rises = i;
  counted = omega arith;
  greatest = λ x k. by_eq x (higher l r) (λ s. omega arith) (λ d. g x (omega (arith, hit_other x (higher l r) d)));
  leaves = a;
}

best_left : (l r : Tree) (m : Merge) → ready l r ≡ none → best l ≡ some m → best r ≡ none → best (node l r) ≡ some m
unfolding best greater
best_left l r m w e e' = rw (w, e, e')

best_right : (l r : Tree) (m : Merge) → ready l r ≡ none → best l ≡ none → best r ≡ some m → best (node l r) ≡ some m
unfolding best greater
best_right l r m w e e' = rw (w, e, e')

best_both : (l r : Tree) (m m' : Merge) → ready l r ≡ none → best l ≡ some m → best r ≡ some m'
    → best (node l r) ≡ cond (ltb m.1 m'.1) (some m') (some m)
unfolding best greater
best_both l r m m' w e e' = rw (w, e, e')

module _ (lo : ℕ) (l r : Tree) (f : Falling lo (node l r)) (waits : ready l r ≡ none) where
  low_left : (x : ℕ) → 1 ≤ tops x l → higher l r < x
  unfolding Falling
  low_left x h = falling_tops (suc (higher l r)) x l f.2 h

  low_right : (x : ℕ) → 1 ≤ tops x r → higher l r < x
  unfolding Falling
  low_right x h = falling_tops (suc (higher l r)) x r f.3 h

  from_left : (m : Merge) → Next l m → Once (node l r) → Left (node l r) (collapse m (node l r)) m
  from_left m n o = collapse_left l r m waits n.counted o (n.leaves (once_left l r o))

  from_right : (m : Merge) → Next r m → Once (node l r) → Left (node l r) (collapse m (node l r)) m
  from_right m n o = collapse_right l r m waits n.counted o (n.leaves (once_right l r o))

  only_left : (m : Merge) → Next l m → best r ≡ none → ((x : ℕ) → tops x r ≡ 0) → Next (node l r) m
  only_left m n e z =
      lift l r m (best_left l r m waits n.found e) n.rises (omega (arith, n.counted)) (omega (arith, low_left m.1 n.counted))
      (λ x k. n.greatest x (omega (arith, z x))) (from_left m n)

  only_right : (m : Merge) → Next r m → best l ≡ none → ((x : ℕ) → tops x l ≡ 0) → Next (node l r) m
  only_right m n e z =
      lift l r m (best_right l r m waits e n.found) n.rises (omega (arith, n.counted)) (omega (arith, low_right m.1 n.counted))
      (λ x k. n.greatest x (omega (arith, z x))) (from_right m n)

  of_both : (m m' : Merge) → Next l m → Next r m' → (k : Merge) × Next (node l r) k
  of_both m m' n n' =
      by_lt m.1 m'.1
      (λ h. let e : best (node l r) ≡ some m' = rw (lt-ltb m.1 m'.1 h) at (best_both l r m m' waits n.found n'.found) in (
        m',
        lift l r m' e n'.rises (omega (arith, n'.counted)) (omega (arith, low_right m'.1 n'.counted))
            (λ x k. by_lt 0 (tops x l) (λ c. omega (arith, n.greatest x c)) (λ c. n'.greatest x (omega arith))) (from_right m' n'),
      ))
      (λ h. let e : best (node l r) ≡ some m = rw (le-ltb m.1 m'.1 h) at (best_both l r m m' waits n.found n'.found) in (
        m,
        lift l r m e n.rises (omega (arith, n.counted)) (omega (arith, low_left m.1 n.counted))
            (λ x k. by_lt 0 (tops x l) (λ c. n.greatest x c) (λ c. omega (arith, n'.greatest x (omega arith)))) (from_left m n),
      ))

left_pair : (a b : ℕ) → Left (node (leaf a) (leaf b)) (collapse (min a b, max a b) (node (leaf a) (leaf b))) (min a b, max a b)
unfolding collapse ready is_merge tops least Falling
left_pair a b =
    rw (eq-eqb (min a b) (min a b) refl, eq-eqb (max a b) (max a b) refl)
    (record { name = refl; fewer = λ x. omega arith; falls = λ lo f. tt })

next_pair : (a b : ℕ) → a ≢ b → Next (node (leaf a) (leaf b)) (min a b, max a b)
unfolding best ready greater tops least
next_pair a b d = record {
  leaves = λ o. left_pair a b;
  found = refl;
  rises = omega (arith, d);
  counted = omega (arith, hit_same (max a b) (max a b) refl);
  greatest = λ x k. omega (arith, hit_one x (max a b) (omega arith));
}

best_leaf : (a : ℕ) → best (leaf a) ≡ none
unfolding best
best_leaf a = refl

tops_leaf : (a x : ℕ) → tops x (leaf a) ≡ 0
unfolding tops
tops_leaf a x = refl

-- a falling tree that is not complete has a next merge, whose larger name is the greatest
pub next_of : (lo : ℕ) (t : Tree) → Falling lo t → NextOf t
unfolding NextOf Falling ready
next_of lo (leaf x) f = tt
next_of lo (node (leaf a) (leaf b)) f = ((min a b, max a b), next_pair a b f.0)
next_of lo (node (leaf a) (node l r)) f =
    let n = next_of (suc (higher (leaf a) (node l r))) (node l r) f.3 in
    (n.0, only_right lo (leaf a) (node l r) f refl n.0 n.1 (best_leaf a) (tops_leaf a))
next_of lo (node (node l r) (leaf b)) f =
    let n = next_of (suc (higher (node l r) (leaf b))) (node l r) f.2 in
    (n.0, only_left lo (node l r) (leaf b) f refl n.0 n.1 (best_leaf b) (tops_leaf b))
next_of lo (node (node l r) (node l' r')) f =
    let n = next_of (suc (higher (node l r) (node l' r'))) (node l r) f.2 in
    let n' = next_of (suc (higher (node l r) (node l' r'))) (node l' r') f.3 in
    of_both lo (node l r) (node l' r') f refl n.0 n'.0 n.1 n'.1

names_once : (k : ℕ) (t : Tree) → Names k t → Once t
names_once k t h x = omega (arith, h x, one_le (ltb x (suc k)))

next_name : (k : ℕ) (t : Tree) (m : Merge) → Names (suc k) t → Next t m → m.1 ≡ suc k
next_name k t m h n =
    omega (
      arith,
      n.greatest (suc k) (omega (arith, h (suc k), one_lt (suc k) (suc (suc k)) (omega arith), hit_other (suc k) 0 (λ e. absurd (omega arith)))),
      one_lt_below m.1 (suc (suc k)) (omega (arith, h m.1, n.counted)),
    )

names_left : (k : ℕ) (t t' : Tree) (m : Merge) → Names (suc k) t → m.1 ≡ suc k → Left t t' m → Names k t'
names_left k t t' m h e L x =
    let s : hit x m.1 ≡ hit x (suc k) = ap (hit x) e in omega (arith, h x, L.fewer x, one_more x (suc k))

ordered_step : (k : ℕ) (t : Tree) (m : Merge) → best t ≡ some m → ordered (suc k) t ≡ m ∷ ordered k (collapse m t)
unfolding ordered follow
ordered_step k t m e = rw e

-- the merges of a falling tree with the larger names 1 to k go k, k-1, .., 1
pub ordered_down : (k lo : ℕ) (t : Tree) → Falling lo t → Names k t → Down k (ordered k t)
unfolding Down NextOf tops
ordered_down zero lo t f h = tt
ordered_down (suc k) lo (leaf x) f h =
    absurd (omega (arith, h (suc k), one_lt (suc k) (suc (suc k)) (omega arith), hit_other (suc k) 0 (λ e. absurd (omega arith))))
ordered_down (suc k) lo (node l r) f h =
    let n = next_of lo (node l r) f in
    let e = next_name k (node l r) n.0 h n.1 in
    let L = n.1.leaves (names_once (suc k) (node l r) h) in
    rw (ordered_step k (node l r) n.0 n.1.found)
    (n.1.rises, e, ordered_down k lo (collapse n.0 (node l r)) (L.falls lo f) (names_left k (node l r) (collapse n.0 (node l r)) n.0 h e L))

-- where the larger names go down to 1, nothing came earlier, and each entry is the partner
down_earlier : (k : ℕ) (ms : List Merge) (i : ℕ) → Down k ms → 1 ≤ i → i ≤ k → earlier i ms ≡ 0
unfolding Down earlier
down_earlier zero ms i d h l = absurd (omega arith)
down_earlier (suc k) [] i d h l = absurd d
down_earlier (suc k) (m ∷ ms) i d h l = let e = d.1 in
    by_eq i m.1 (λ q. rw (eq-eqb i m.1 q))
    (λ n. rw (ne_eqb i m.1 n, le-ltb m.1 i (omega arith), and_false (ltb m.0 i))
    (omega (arith, down_earlier k ms i d.2 h (omega (arith, n)))))

down_partner : (k : ℕ) (ms : List Merge) (i : ℕ) → Down k ms → 1 ≤ i → i ≤ k → partner i ms < i
unfolding Down partner
down_partner zero ms i d h l = absurd (omega arith)
down_partner (suc k) [] i d h l = absurd d
down_partner (suc k) (m ∷ ms) i d h l = let e = d.1 in let s = d.0 in
    by_eq i m.1 (λ q. rw (eq-eqb i m.1 q) (omega arith))
    (λ n. rw (ne_eqb i m.1 n) (down_partner k ms i d.2 h (omega (arith, n))))

pub down_entry : (k : ℕ) (ms : List Merge) (i : ℕ) → Down k ms → 1 ≤ i → i ≤ k → entry_at ms i < i
unfolding entry_at entry_from
down_entry k ms i d h l =
    let z : earlier i ms ≡ 0 = down_earlier k ms i d h l in rw z (down_partner k ms i d h l)
