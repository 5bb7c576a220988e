-- The shuffled tree: each node in the queue has the least new leaf that is its label, and the pairs fall. So its vector is ordered. Main results:
-- taken_fits, shuffled_falls, shuffled_down, shuffled_ordered.
use Rattle.std.specs.Prelude.{◌≡◌, refl, ◌≢◌, Bool, true, false, cond, List, [], ◌∷◌, ◌++◌, ℕ, zero, suc, ◌+◌, ◌-◌, ◌*◌, ◌≤◌, ◌<◌, min, max, ltb}
use Rattle.std.proofs.Common.{sym, ap, ap₂, ◌∙◌, arith, eq-eqb, ne_eqb}
use Rattle.rules.specs.Vector.{entry}
use Rattle.rules.specs.Tree.{Tree, leaf, node, least, size, LeavesBelow}
use Rattle.rules.specs.Order.{order, entry_at, vector_of}
use Rattle.rules.specs.Shuffle.{renamed, Queue, Given, behind, taken, given, new_of}
use Rattle.basics.proofs.Listed.{listed_at}
use Rattle.basics.proofs.Sums.{one_le, one_lt_below}
use Rattle.clades.proofs.Size.{size_below}
use Rattle.merging.proofs.Once.{hit_same}
use Rattle.shuffle_laws.specs.Count.{leaf_times}
use Rattle.shuffle_laws.proofs.Count.{below_times}
use Rattle.shuffle_laws.specs.Taken.{nodes, nodes_in, weigh, all_given}
use Rattle.shuffle_laws.proofs.Taken.{weigh_append, weigh_behind, nodes_behind, nodes_inner, size_inner, new_permutes}
use Rattle.shuffle_laws.proofs.Renaming.{renamed_below}
use Rattle.shuffle_laws.specs.Falling.{Falling, Down}
use Rattle.shuffle_laws.proofs.Falling.{falling_down, tops_leaves, ordered_down, down_entry}
use Rattle.shuffle_laws.specs.Shuffled.{relabelled, Fits, AllFit, Labels, leaves_in}

relabelled_renamed : (p : List ℕ) (t : Tree) → relabelled (entry p) t ≡ renamed p t
unfolding relabelled renamed
relabelled_renamed p (leaf x) = refl
relabelled_renamed p (node l r) = ap₂ node (relabelled_renamed p l) (relabelled_renamed p r)

relabelled_cong : (f g : ℕ → ℕ) (t : Tree) → ((x : ℕ) → 1 ≤ leaf_times x t → f x ≡ g x) → relabelled f t ≡ relabelled g t
unfolding relabelled leaf_times
relabelled_cong f g (leaf y) h = ap leaf (h y (omega (arith, hit_same y y refl)))
relabelled_cong f g (node l r) h =
    ap₂ node (relabelled_cong f g l (λ x k. h x (omega arith))) (relabelled_cong f g r (λ x k. h x (omega arith)))

fits_down : (f : ℕ → ℕ) (next : ℕ) (q : Queue) → AllFit f (next + 1) q → AllFit f next q
unfolding AllFit Fits
fits_down f next [] a = tt
fits_down f next (e ∷ q) a =
    ((a.0.0, falling_down next (next + 1) (relabelled f e.0) (omega arith) a.0.1), fits_down f next q a.1)

fits_split : (f : ℕ → ℕ) (next : ℕ) (q q' : Queue) → AllFit f next (q ++ q') → AllFit f next q × AllFit f next q'
unfolding AllFit
fits_split f next [] q' a = (tt, a)
fits_split f next (e ∷ q) q' a = let s = fits_split f next q q' a.1 in ((a.0, s.0), s.1)

labels_join : (next : ℕ) (q q' : Queue) → Labels next q → Labels next q' → Labels next (q ++ q')
unfolding Labels
labels_join next [] q' h k = k
labels_join next (e ∷ q) q' h k = (h.0, labels_join next q q' h.1 k)

labels_up : (next : ℕ) (q : Queue) → Labels next q → Labels (next + 1) q
unfolding Labels
labels_up next [] h = tt
labels_up next (e ∷ q) h = let l = h.0 in (omega arith, labels_up next q h.1)

labels_behind : (l r : Tree) (b next : ℕ) → b < next → Labels (next + 1) (behind l r b next)
unfolding Labels behind
labels_behind l r b next h = go (ltb (least l) (least r))
  where
    go : (c : Bool) → Labels (next + 1) (cond c ((l, b) ∷ (r, next) ∷ []) ((r, b) ∷ (l, next) ∷ []))
    go true = (omega arith, (omega arith, tt))
    go false = (omega arith, (omega arith, tt))

fits_cong : (f g : ℕ → ℕ) (next : ℕ) (q : Queue) → ((y : ℕ) → 1 ≤ leaves_in y q → f y ≡ g y) → AllFit g next q → AllFit f next q
unfolding AllFit Fits weigh
fits_cong f g next [] h a = tt
fits_cong f g next (e ∷ q) h a =
    (rw (relabelled_cong f g e.0 (λ x k. h x (omega arith))) a.0, fits_cong f g next q (λ y k. h y (omega arith)) a.1)

-- the keeper and the other under one node, whichever way round
fits_pair : (f : ℕ → ℕ) (l r : Tree) (x y next : ℕ) → x ≢ y → max x y ≡ next → Fits f (next + 1) l x → Fits f (next + 1) r y → Fits f next (node l r) (min x y)
unfolding Fits relabelled least Falling
fits_pair f l r x y next d e L R = rw (L.0, R.0) (
  refl,
  (
    d,
    omega arith,
    falling_down (suc (max x y)) (next + 1) (relabelled f l) (omega arith) L.1,
    falling_down (suc (max x y)) (next + 1) (relabelled f r) (omega arith) R.1,
  ),
)

fits_behind : (f : ℕ → ℕ) (l r : Tree) (b next : ℕ) → b < next → AllFit f (next + 1) (behind l r b next) → Fits f next (node l r) b
unfolding behind AllFit
fits_behind f l r b next h = go (ltb (least l) (least r))
  where
    go : (c : Bool) → AllFit f (next + 1) (cond c ((l, b) ∷ (r, next) ∷ []) ((r, b) ∷ (l, next) ∷ [])) → Fits f next (node l r) b
    go true a = let e : min b next ≡ b = omega arith in rw e at (fits_pair f l r b next next (omega arith) (omega arith) a.0 a.1.0)
    go false a = let e : min next b ≡ b = omega arith in rw e at (fits_pair f l r next b next (omega arith) (omega arith) a.1.0 a.0)

fits_leaf : (f : ℕ → ℕ) (next x b : ℕ) → f x ≡ b → Fits f next (leaf x) b
unfolding Fits relabelled least Falling
fits_leaf f next x b e = (e, tt)

given_first : (x b : ℕ) (gs : List Given) → given ((x, b) ∷ gs) x ≡ b
unfolding given
given_first x b gs = rw (eq-eqb x x refl)

given_later : (x b y : ℕ) (gs : List Given) → y ≢ x → given ((x, b) ∷ gs) y ≡ given gs y
unfolding given
given_later x b y gs d = rw (ne_eqb y x d)

-- Each node in the queue gets its label as its least new leaf, and the pairs under it fall from the next label on.
pub taken_fits : (k next : ℕ) (q : Queue) → nodes_in q ≤ k → ((x : ℕ) → leaves_in x q ≤ 1) → Labels next q → AllFit (given (taken k next q)) next q
unfolding taken weigh nodes AllFit Labels leaf_times
taken_fits zero next [] h o l = tt
taken_fits zero next (e ∷ q) h o l = absurd (omega (arith, nodes_inner e.0))
taken_fits (suc k) next [] h o l = tt
taken_fits (suc k) next ((leaf x, b) ∷ q) h o l = (
  fits_leaf (given ((x, b) ∷ taken k next q)) next x b (given_first x b (taken k next q)),
  fits_cong (given ((x, b) ∷ taken k next q)) (given (taken k next q)) next q
      (λ y c. given_later x b y (taken k next q) (λ e. absurd (omega (arith, o y, hit_same y x e))))
      (taken_fits k next q (omega arith) (λ y. omega (arith, o y)) l.1),
)
taken_fits (suc k) next ((node s t, b) ∷ q) h o l =
    let a = taken_fits k (next + 1) (q ++ behind s t b next) (omega (arith, nodes_behind s t b next q))
    (λ y. omega (arith, o y, weigh_append (leaf_times y) (λ c. 0) q (behind s t b next), weigh_behind (leaf_times y) (λ c. 0) s t b next))
    (labels_join (next + 1) q (behind s t b next) (labels_up next q l.1) (labels_behind s t b next l.0)) in
    let p = fits_split (given (taken k (next + 1) (q ++ behind s t b next))) (next + 1) q (behind s t b next) a in (
      fits_behind (given (taken k (next + 1) (q ++ behind s t b next))) s t b next l.0 p.1,
      fits_down (given (taken k (next + 1) (q ++ behind s t b next))) next q p.0,
    )

new_entry : (t : Tree) (x : ℕ) → x < size t → entry (new_of t) x ≡ given (all_given t) x
unfolding entry new_of
new_entry t x h = listed_at (size t) (given (all_given t)) x h

renamed_new : {n : ℕ} {t : Tree} → LeavesBelow n t → renamed (new_of t) t ≡ relabelled (given (all_given t)) t
renamed_new {n} {t} b =
    sym (relabelled_renamed (new_of t) t)
    ∙ relabelled_cong (entry (new_of t)) (given (all_given t)) t
    (λ x h. new_entry t x (omega (arith, size_below _ _ b, one_lt_below x n (omega (arith, below_times b x)))))

-- the shuffled tree falls from 1 on, and its least leaf is 0
pub shuffled_falls : {n : ℕ} {t : Tree} → LeavesBelow n t → Fits (given (all_given t)) 1 t 0
unfolding weigh AllFit Labels
shuffled_falls {n} {t} b =
    (taken_fits (2 * size t - 1) 1 ((t, 0) ∷ []) (omega (arith, nodes_inner t, size_inner t))
    (λ x. omega (arith, below_times b x, one_le (ltb x n))) (omega arith, tt)).0

-- the merges of the shuffled tree have the larger names n-1, n-2, .., 1
pub shuffled_down : {n : ℕ} {t : Tree} → LeavesBelow n t → Down (n - 1) (order (renamed (new_of t) t))
unfolding order Fits
shuffled_down {n} {t} b =
    let c : LeavesBelow n (renamed (new_of t) t) = renamed_below (new_permutes b) b in
    let z : least (renamed (new_of t) t) ≡ 0 = ap least (renamed_new b) ∙ (shuffled_falls b).0 in
    let m : suc (n - 1) ≡ n = omega (arith, size_below _ _ b, size_inner t) in
    rw (size_below _ _ c)
    (ordered_down (n - 1) 1 (renamed (new_of t) t) (rw (renamed_new b) (shuffled_falls b).1)
    (λ x. rw m ((rw z at (tops_leaves x (renamed (new_of t) t))) ∙ below_times c x)))

-- The shuffled vector is ordered: v(i) < i for all i >= 1.
pub shuffled_ordered : {n : ℕ} {t : Tree} → LeavesBelow n t → (i : ℕ) → 1 ≤ i → i < n → entry (vector_of (renamed (new_of t) t)) i < i
unfolding vector_of entry
shuffled_ordered {n} {t} b i h l =
    let c : LeavesBelow n (renamed (new_of t) t) = renamed_below (new_permutes b) b in
    rw (listed_at (size (renamed (new_of t) t)) (entry_at (order (renamed (new_of t) t))) i (omega (arith, size_below _ _ c)))
    (down_entry (n - 1) (order (renamed (new_of t) t)) i (shuffled_down b) h (omega arith))
