-- A tree with some of its leaves taken out: a pair that loses one side becomes the other side. Main results: pruned_clades, pruned_twice, pruned_all.
use Rattle.std.specs.Prelude.{◌≡◌, ◌⊎◌, ◌↔◌, Bool, ◌&&◌, ◌||◌, cond, ℕ}
use Rattle.std.proofs.Math.Path.{refl, sym, ap}
use Rattle.std.proofs.Common.{ap₂, ◌∙◌, inl, eqb-true, eq-eqb}
use Rattle.std.proofs.Math.Logic.{inr, ⊎_elim}
use Rattle.std.proofs.Math.Bool.{true, false}
use Rattle.std.proofs.lemmas.Bool.{false≢true}
use Rattle.std.proofs.Math.Option.{Option, none, some}
use Rattle.std.proofs.Math.Dec.{eqb}
use Rattle.rules.specs.Tree.{Tree, leaf, node, has, Clade}
use Rattle.basics.proofs.Bools.{or_false}
use Rattle.clades.proofs.Leaves.{has_left, has_right}
use Rattle.clades.proofs.Same.{root, clade_some, clade_cong}
use Rattle.clades.specs.Pruned.{beside, pruned, Restriction, again}

-- x is a leaf of what is left
left_has : Option Tree → ℕ → Bool
left_has none x = false
left_has (some t) x = has t x

beside_has : (a b : Option Tree) (x : ℕ) → left_has (beside a b) x ≡ left_has a x || left_has b x
unfolding left_has beside has
beside_has none b x = refl
beside_has (some t) none x = sym (or_false (has t x))
beside_has (some t) (some u) x = refl

module _ (keep : ℕ → Bool) where
  pruned_left : (t : Tree) (x : ℕ) → left_has (pruned keep t) x ≡ has t x && keep x
  unfolding left_has pruned has
  pruned_left (leaf y) x = go (keep y) (eqb y x) refl refl
    where
      go : (a b : Bool) → keep y ≡ a → eqb y x ≡ b → left_has (cond a (some (leaf y)) none) x ≡ b && keep x
      go true true p q = q ∙ sym p ∙ ap keep (eqb-true y x q)
      go true false p q = q
      go false true p q = sym p ∙ ap keep (eqb-true y x q)
      go false false p q = refl
  pruned_left (node l r) x =
      beside_has (pruned keep l) (pruned keep r) x ∙ rw (pruned_left l x, pruned_left r x) (spread (has l x) (has r x) (keep x))
    where
      spread : (a b k : Bool) → (a && k) || (b && k) ≡ (a || b) && k
      spread true b true = refl
      spread true true false = refl
      spread true false false = refl
      spread false b k = refl

-- c is a clade of what is left
LeftClade : Option Tree → (ℕ → Bool) → Type 0
LeftClade none c = ⊥
LeftClade (some t) c = Clade t c

left_some : (o : Option Tree) (c : ℕ → Bool) → LeftClade o c → (x : ℕ) × (c x ≡ true)
unfolding LeftClade
left_some none c k = absurd k
left_some (some t) c k = clade_some c t k

left_root : (o : Option Tree) (c : ℕ → Bool) → ((x : ℕ) → c x ≡ left_has o x) → (x : ℕ) × (c x ≡ true) → LeftClade o c
unfolding LeftClade left_has
left_root none c e s = absurd (false≢true (sym (e s.0) ∙ s.1))
left_root (some t) c e s = clade_cong (has t) c t e (root t)

beside_first : (a b : Option Tree) (c : ℕ → Bool) → LeftClade a c → LeftClade (beside a b) c
unfolding LeftClade beside Clade
beside_first none b c k = absurd k
beside_first (some t) none c k = k
beside_first (some t) (some u) c k = inr (inl k)

beside_second : (a b : Option Tree) (c : ℕ → Bool) → LeftClade b c → LeftClade (beside a b) c
unfolding LeftClade beside Clade
beside_second none b c k = k
beside_second (some t) none c k = absurd k
beside_second (some t) (some u) c k = inr (inr k)

beside_clade : (a b : Option Tree) (c : ℕ → Bool) → LeftClade (beside a b) c → ((x : ℕ) → c x ≡ left_has (beside a b) x) ⊎ (LeftClade a c ⊎ LeftClade b c)
unfolding LeftClade beside Clade left_has
beside_clade none b c k = inr (inr k)
beside_clade (some t) none c k = inr (inl k)
beside_clade (some t) (some u) c k = k

module _ (keep : ℕ → Bool) (c : ℕ → Bool) where
  restricted_root : (t : Tree) → ((x : ℕ) → c x ≡ left_has (pruned keep t) x) → (x : ℕ) × (c x ≡ true) → Restriction keep t c
  restricted_root t e s = record { whole = has t; is_clade = root t; cut = λ x. e x ∙ pruned_left keep t x; not_empty = s }

  restricted_in : (t u : Tree) → ((d : ℕ → Bool) → Clade t d → Clade u d) → Restriction keep t c → Restriction keep u c
  restricted_in t u f R = record { whole = R.whole; is_clade = f R.whole R.is_clade; cut = R.cut; not_empty = R.not_empty }

  left_restricted : (t : Tree) → LeftClade (pruned keep t) c → Restriction keep t c
  unfolding pruned
  left_restricted (leaf y) k = restricted_root (leaf y) (go (keep y) k) (left_some (pruned keep (leaf y)) c k)
    where
      go : (b : Bool) → LeftClade (cond b (some (leaf y)) none) c → (x : ℕ) → c x ≡ left_has (cond b (some (leaf y)) none) x
      go true h = unfold LeftClade left_has Clade in h
      go false h = absurd (unfold LeftClade in h)
  left_restricted (node l r) k =
      ⊎_elim (λ e. restricted_root (node l r) e (left_some (pruned keep (node l r)) c k))
      (⊎_elim (λ h. restricted_in l (node l r) (λ d q. unfold Clade in inr (inl q)) (left_restricted l h))
      (λ h. restricted_in r (node l r) (λ d q. unfold Clade in inr (inr q)) (left_restricted r h)))
      (beside_clade (pruned keep l) (pruned keep r) c k)

  root_left : (t : Tree) (d : ℕ → Bool) → ((x : ℕ) → d x ≡ has t x) → ((x : ℕ) → c x ≡ d x && keep x) → (x : ℕ) × (c x ≡ true) → LeftClade (pruned keep t) c
  root_left t d e f s = left_root (pruned keep t) c (λ x. f x ∙ ap (λ (b : Bool). b && keep x) (e x) ∙ sym (pruned_left keep t x)) s

  restricted_left : (t : Tree) (d : ℕ → Bool) → Clade t d → ((x : ℕ) → c x ≡ d x && keep x) → (x : ℕ) × (c x ≡ true) → LeftClade (pruned keep t) c
  unfolding Clade pruned
  restricted_left (leaf y) d k f s = root_left (leaf y) d k f s
  restricted_left (node l r) d (inl k) f s = root_left (node l r) d k f s
  restricted_left (node l r) d (inr (inl k)) f s = beside_first (pruned keep l) (pruned keep r) c (restricted_left l d k f s)
  restricted_left (node l r) d (inr (inr k)) f s = beside_second (pruned keep l) (pruned keep r) c (restricted_left r d k f s)

-- the clades of what is left are the restrictions of the clades
pub pruned_clades : (keep : ℕ → Bool) (t u : Tree) → pruned keep t ≡ some u → (c : ℕ → Bool) → Clade u c ↔ Restriction keep t c
unfolding LeftClade
pruned_clades keep t u e c = (
  λ k. left_restricted keep c t (rw e k),
  λ R. rw e at (restricted_left keep c t R.whole R.is_clade R.cut R.not_empty),
)

beside_none : (a : Option Tree) → beside a none ≡ a
unfolding beside
beside_none none = refl
beside_none (some t) = refl

again_beside : (keep : ℕ → Bool) (a b : Option Tree) → again keep (beside a b) ≡ beside (again keep a) (again keep b)
unfolding again beside pruned
again_beside keep none b = refl
again_beside keep (some t) none = sym (beside_none (pruned keep t))
again_beside keep (some t) (some u) = refl

-- to keep more first makes no difference
pruned_again : (keep less : ℕ → Bool) → ((x : ℕ) → keep x ≡ false → less x ≡ false) → (t : Tree) → again less (pruned keep t) ≡ pruned less t
unfolding pruned
pruned_again keep less h (leaf x) = go (keep x) refl
  where
    go : (b : Bool) → keep x ≡ b → again less (cond b (some (leaf x)) none) ≡ cond (less x) (some (leaf x)) none
    go true q = unfold again in refl
    go false q = unfold again in rw (h x q)
pruned_again keep less h (node l r) = again_beside less (pruned keep l) (pruned keep r) ∙ ap₂ beside (pruned_again keep less h l) (pruned_again keep less h r)

pub pruned_twice : (keep less : ℕ → Bool) → ((x : ℕ) → keep x ≡ false → less x ≡ false)
    → (t u w : Tree) → pruned keep t ≡ some u → pruned less u ≡ some w → pruned less t ≡ some w
pruned_twice keep less h t u w e f = sym (pruned_again keep less h t) ∙ (rw e (unfold again in f))

-- a tree all of whose leaves are kept is as it was
pub pruned_all : (keep : ℕ → Bool) (t : Tree) → ((x : ℕ) → has t x ≡ true → keep x ≡ true) → pruned keep t ≡ some t
unfolding pruned has
pruned_all keep (leaf x) h = rw (h x (eq-eqb x x refl))
pruned_all keep (node l r) h =
    rw (pruned_all keep l (λ x e. h x (has_left l r x e)), pruned_all keep r (λ x e. h x (has_right l r x e))) (unfold beside in refl)
