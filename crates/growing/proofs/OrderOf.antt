-- The order of a tree's merges: of the ready pairs the one with the greatest larger name comes first. Lists of merges in that order and trees up to
-- turning are the same thing. Main results: first_greatest, order_of_grown, order_induct, order_rising, order_good, order_greedy, order_named,
-- order_under, order_once, grown_order, order_turned, same_order.
use Rattle.std.specs.Prelude.{◌≡◌, refl, ◌≢◌, ◌⊎◌, Bool, true, false, not, ◌||◌, eqb, ltb, length}
use Rattle.std.proofs.Math.Path.{sym, ap}
use Rattle.std.proofs.Common.{◌∙◌, inl, inr, ⊎_elim, true≢false, arith, ltb-true, lt-ltb, ne_eqb}
use mathlib.Core.List.{List, [], ◌∷◌}
use Rattle.std.proofs.Math.Option.{some}
use Prim.Native.Nat.{ℕ, zero, suc, ◌-◌, ◌≤◌, ◌<◌}
use Rattle.std.proofs.lemmas.Bool.{eqb-false}
use Rattle.rules.specs.Building.{Merge}
use Rattle.rules.specs.Tree.{Tree, leaf, grown, has, least, size, Distinct, LeavesBelow, SameClades}
use Rattle.rules.specs.Order.{best, collapse, ordered, order}
use Rattle.basics.proofs.Bools.{or_no, and_left, and_right}
use Rattle.clades.proofs.Leaves.{below_least}
use Rattle.clades.proofs.Size.{size_some}
use Rattle.clades.specs.Form.{form}
use Rattle.clades.proofs.Form.{clades_up_to_turning}
use Rattle.merging.specs.Once.{times}
use Rattle.merging.specs.Greedy.{touch, free, Ahead, Greedy, Under}
use Rattle.merging.specs.Named.{named, Good, Rising}
use Rattle.merging.proofs.Named.{named_times, under_named}
use Rattle.growing.specs.Grown.{graft}
use Rattle.growing.proofs.Grown.{grown_graft, has_grown, size_grown}
use Rattle.growing.specs.Ready.{Ready, Greatest}
use Rattle.growing.proofs.Ready.{best_greatest, best_is, best_some, ready_has, ready_rising}
use Rattle.growing.specs.Collapse.{Clear}
use Rattle.growing.proofs.Collapse.{collapsed, collapsed_has, collapsed_least, collapsed_size, ready_before}
use Rattle.growing.proofs.Graft.{collapse_graft, ready_graft, ready_own}
use Rattle.growing.specs.OrderOf.{Step}

-- the order of the tree that merges build

untouched : (m p : Merge) → Clear m p → m.1 ≢ p.0 → m.1 ≢ p.1 → touch m p ≡ false
unfolding touch Clear
untouched m p k h₀ h₁ =
    rw (ne_eqb m.0 p.0 (λ e. k.0 (sym e)), ne_eqb m.0 p.1 (λ e. k.1 (sym e)), ne_eqb m.1 p.0 h₀, ne_eqb m.1 p.1 h₁)

-- a pair that is ready without the first merge, and has nothing of it, does not wait for it
still_free : (m : Merge) (Q P : List Merge) → Good (m ∷ P) → (p : Merge) → Ready p (grown P leaf 0) → Clear m p → free Q p ≡ true → free (m ∷ Q) p ≡ true
unfolding Good free
still_free m Q P G p h k e =
    let w = ready_has p (grown P leaf 0) h in
    let miss : has (grown P leaf 0) m.1 ≡ false = has_grown P G.2 m.1 ∙ G.1 in
    rw (untouched m p k (λ q. true≢false (sym w.0 ∙ ap (has (grown P leaf 0)) (sym q) ∙ miss)) (λ q. true≢false (sym w.1 ∙ ap (has (grown P leaf 0)) (sym q) ∙ miss)))
    e

-- the ready pairs are those that wait for nothing
front : (i : ℕ) (Q P : List Merge) → Rising P → Good P → Ahead i Q P → (p : Merge) → Ready p (grown P leaf 0) → free Q p ≡ true → p.1 < i
unfolding Rising Good Ahead
front i Q [] g G A p h e = absurd (unfold Ready grown in h)
front i Q (m ∷ P) g G A p h e = go (ready_graft m p g.0 (grown P leaf 0) (rw (grown_graft m P 0) at h)) (front i (m ∷ Q) P g.1 G.2 A.1 p)
  where
    go : (p ≡ m) ⊎ (Ready p (grown P leaf 0) × Clear m p) → (Ready p (grown P leaf 0) → free (m ∷ Q) p ≡ true → p.1 < i) → p.1 < i
    go (inl q) ih = rw q (A.0 (rw q at e))
    go (inr k) ih = ih k.0 (still_free m Q P G p k.0 k.1 e)

-- of the ready pairs of the tree that merges build, the first merge is the one whose larger name is greatest
pub first_greatest : (m : Merge) (P : List Merge) → Rising (m ∷ P) → Good (m ∷ P) → Greedy (m ∷ P) → Greatest (λ p. Ready p (grown (m ∷ P) leaf 0)) m
unfolding Rising Good Greedy
first_greatest m P g G H = rw (grown_graft m P 0) (record {
  is_one = ready_own m g.0 (grown P leaf 0) (has_grown P G.2 m.0 ∙ G.0);
  others_below = λ p h. ⊎_elim (λ e. inl e)
      (λ k. inr (front m.1 (m ∷ []) P g.1 G.2 H.0 p k.0 (still_free m [] P G p k.0 k.1 (unfold free in refl))))
      (ready_graft m p g.0 (grown P leaf 0) h);
})

ordered_grown : (P : List Merge) → Rising P → Good P → Greedy P → ordered (length P) (grown P leaf 0) ≡ P
unfolding Rising Good Greedy ordered
ordered_grown [] g G H = refl
ordered_grown (m ∷ P) g G H =
    let top : best (graft m (grown P leaf 0)) ≡ some m = rw (grown_graft m P 0) at (best_is (grown (m ∷ P) leaf 0) m (first_greatest m P g G H)) in
    rw (grown_graft m P 0, top, collapse_graft m g.0 (grown P leaf 0), ordered_grown P g.1 G.2 H.1)

-- merges in the order of the rule are the merges of the tree that they build, in its order
pub order_of_grown : (P : List Merge) → Rising P → Good P → Greedy P → order (grown P leaf 0) ≡ P
unfolding order
order_of_grown P g G H =
    let e : size (grown P leaf 0) - 1 ≡ length P = omega (arith, size_grown P g G) in ap (λ (k : ℕ). ordered k (grown P leaf 0)) e ∙ ordered_grown P g G H

step : (m : Merge) (t : Tree) → Distinct t → best t ≡ some m → Step m t
step m t D e =
    let g = best_greatest t m D e in record { is_best = e; top = g; rises = ready_rising m t D g.is_one; back = collapsed m t D g.is_one }

-- what holds of a leaf and no merges, and of each tree and its list when it holds of the tree and the list after the best merge
module _ (Q : Tree → List Merge → Type 0) (start : (x : ℕ) → Q (leaf x) []) (more : (m : Merge) (t : Tree) (P : List Merge) → Step m t → Q (collapse m t) P → Q t (m ∷ P)) where
  ordered_induct : (k : ℕ) (t : Tree) → Distinct t → size t ≡ suc k → Q t (ordered k t)
  unfolding ordered
  ordered_induct zero t D e = go (best_some t)
    where
      go : ((x : ℕ) × (t ≡ leaf x)) ⊎ ((m : Merge) × (best t ≡ some m)) → Q t []
      go (inl k) = rw k.1 (start k.0)
      go (inr k) = let s = step k.0 t D k.1 in
          absurd (omega (arith, collapsed_size k.0 t (collapse k.0 t) s.back, size_some (collapse k.0 t)))
  ordered_induct (suc n) t D e = go (best_some t) (ordered_induct n)
    where
      go : ((x : ℕ) × (t ≡ leaf x)) ⊎ ((m : Merge) × (best t ≡ some m)) → ((u : Tree) → Distinct u → size u ≡ suc n → Q u (ordered n u)) → Q t (ordered (suc n) t)
      go (inl k) ih = absurd (let s : size t ≡ 1 = rw k.1 (unfold size in refl) in omega arith)
      go (inr k) ih = let s = step k.0 t D k.1 in
          let f : size (collapse k.0 t) ≡ suc n = omega (arith, collapsed_size k.0 t (collapse k.0 t) s.back) in
          rw k.1 (more k.0 t (ordered n (collapse k.0 t)) s (ih (collapse k.0 t) s.back.once f))

  pub order_induct : (t : Tree) → Distinct t → Q t (order t)
  unfolding order
  order_induct t D = ordered_induct (size t - 1) t D (omega (arith, size_some t))

pub order_rising : (t : Tree) → Distinct t → Rising (order t)
unfolding Rising
order_rising = order_induct (λ t P. Rising P) (λ x. tt) (λ m t P s g. (s.rises, g))

-- the merges of a tree build its form again
grown_least : (t : Tree) → Distinct t → grown (order t) leaf (least t) ≡ form t
grown_least = order_induct (λ t P. grown P leaf (least t) ≡ form t) (λ x. unfold grown form least in refl)
    (λ m t P s e. grown_graft m P (least t) ∙ ap (graft m) (ap (grown P leaf) (sym (collapsed_least m t (collapse m t) s.rises s.back)) ∙ e) ∙ sym s.back.form_back)

-- the names are the leaves, and each merge takes a cluster that is there into another, where 0 is a leaf
order_names : (t : Tree) → Distinct t → least t ≡ 0 → ((x : ℕ) → named (order t) x ≡ has t x) × Good (order t)
unfolding named Good
order_names =
    order_induct (λ t P. least t ≡ 0 → ((x : ℕ) → named P x ≡ has t x) × Good P) (λ x z. (λ y. unfold least has in rw z, tt))
    (λ m t P s f z.
    let C = s.back in
    let k = f (collapsed_least m t (collapse m t) s.rises C ∙ z) in
    (λ x. rw (k.0 x, collapsed_has m t (collapse m t) C x), (k.0 m.0 ∙ C.smaller, k.0 m.1 ∙ C.larger, k.1)))

-- a pair that does not touch m has nothing of its cluster
touch_clear : (m p : Merge) → touch m p ≡ false → Clear m p × (m.1 ≢ p.1)
unfolding touch Clear
touch_clear m p e =
    let a = or_no (eqb m.0 p.0 || eqb m.0 p.1 || eqb m.1 p.0) (eqb m.1 p.1) e in
    let b = or_no (eqb m.0 p.0 || eqb m.0 p.1) (eqb m.1 p.0) a.0 in
    let c = or_no (eqb m.0 p.0) (eqb m.0 p.1) b.0 in
    ((λ q. eqb-false m.0 p.0 c.0 (sym q), λ q. eqb-false m.0 p.1 c.1 (sym q)), eqb-false m.1 p.1 a.1)

-- of the ready pairs, those that wait for nothing of Q have a larger name below i
Behind : ℕ → List Merge → Tree → Type 0
Behind i Q t = (p : Merge) → Ready p t → free Q p ≡ true → p.1 < i

free_first : (m : Merge) (Q : List Merge) (p : Merge) → free (m ∷ Q) p ≡ true → touch m p ≡ false
unfolding free
free_first m Q p e = go (touch m p) (and_left (not (touch m p)) (free Q p) e)
  where
    go : (b : Bool) → not b ≡ true → b ≡ false
    go true q = sym q
    go false q = refl

behind_next : (i : ℕ) (Q : List Merge) (m : Merge) (t : Tree) → Behind i Q t → Behind i (m ∷ Q) (collapse m t)
unfolding Behind
behind_next i Q m t b p h e =
    b p (ready_before m p t (touch_clear m p (free_first m Q p e)).0 h) (unfold free in and_right (not (touch m p)) (free Q p) e)

-- after the best pair, those that do not touch it are below it
behind_best : (m : Merge) (t : Tree) → Greatest (λ p. Ready p t) m → Behind m.1 (m ∷ []) (collapse m t)
unfolding Behind
behind_best m t g p h e =
    let k = touch_clear m p (free_first m [] p e) in
    ⊎_elim (λ q. absurd (k.1 (sym (ap (λ (x : Merge). x.1) q)))) (λ l. l) (g.others_below p (ready_before m p t k.0 h))

order_ahead : (t : Tree) → Distinct t → ((i : ℕ) (Q : List Merge) → Behind i Q t → Ahead i Q (order t)) × Greedy (order t)
unfolding Ahead Greedy
order_ahead = order_induct (λ t P. ((i : ℕ) (Q : List Merge) → Behind i Q t → Ahead i Q P) × Greedy P) (λ x. (λ i Q b. tt, tt))
    (λ m t P s f. (
      λ i Q b. ((unfold Behind in b m s.top.is_one), f.0 i (m ∷ Q) (behind_next i Q m t b)),
      (f.0 m.1 (m ∷ []) (behind_best m t s.top), f.1),
    ))

pub order_greedy : (t : Tree) → Distinct t → Greedy (order t)
order_greedy t D = (order_ahead t D).1

-- for a tree with the leaves 0 to n-1

pub order_named : (n : ℕ) (t : Tree) → LeavesBelow n t → (x : ℕ) → named (order t) x ≡ ltb x n
order_named n t L x = (order_names t L.once (below_least n t L)).0 x ∙ L.all x

pub order_good : (n : ℕ) (t : Tree) → LeavesBelow n t → Good (order t)
order_good n t L = (order_names t L.once (below_least n t L)).1

pub order_under : (n : ℕ) (t : Tree) → LeavesBelow n t → Under n (order t)
order_under n t L = under_named n (order t) (λ x e. ltb-true x n (sym (order_named n t L x) ∙ e))

-- each larger name stands once
pub order_once : (n : ℕ) (t : Tree) → LeavesBelow n t → (i : ℕ) → 1 ≤ i → i < n → times i (order t) ≡ 1
order_once n t L i h l = named_times i (order t) (order_good n t L) h (order_named n t L i ∙ lt-ltb i n l)

-- the merges of a tree build its form
pub grown_order : (n : ℕ) (t : Tree) → LeavesBelow n t → grown (order t) leaf 0 ≡ form t
grown_order n t L = ap (grown (order t) leaf) (sym (below_least n t L)) ∙ grown_least t L.once

-- turning pairs does not change the order
pub order_turned : (n : ℕ) (t : Tree) → LeavesBelow n t → order t ≡ order (form t)
order_turned n t L = sym (order_of_grown (order t) (order_rising t L.once) (order_good n t L) (order_greedy t L.once)) ∙ ap order (grown_order n t L)

-- the order depends on the clades alone
pub same_order : (n : ℕ) (t u : Tree) → LeavesBelow n t → LeavesBelow n u → SameClades t u → order t ≡ order u
same_order n t u L M s = order_turned n t L ∙ ap order ((clades_up_to_turning t u L.once M.once).0 s) ∙ sym (order_turned n u M)
