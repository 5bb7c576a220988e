-- Clades of a tree, and trees with the same clades.
-- Main results: same_refl, same_sym, same_trans, same_leaves, same_node, clade_in, clade_some.
use Rattle.std.specs.Prelude.{◌≡◌, refl, Bool, true, ℕ}
use Rattle.std.proofs.Common.{sym, ◌∙◌, inl, inr, ⊎_elim, eq-eqb}
use Rattle.rules.specs.Tree.{Tree, leaf, node, has, least, Clade, SameClades}
use Rattle.basics.proofs.Bools.{or_comm, both}
use Rattle.clades.proofs.Leaves.{has_left, has_right, least_has}

-- the leaves of the whole tree are a clade
pub root : (t : Tree) → Clade t (has t)
unfolding Clade
root (leaf x) = λ y. refl
root (node l r) = inl (λ y. refl)

-- a clade has only leaves of the tree
pub clade_in : (c : ℕ → Bool) (t : Tree) → Clade t c → (x : ℕ) → c x ≡ true → has t x ≡ true
unfolding Clade has
clade_in c (leaf y) k x e = sym (k x) ∙ e
clade_in c (node l r) (inl k) x e = sym (k x) ∙ e
clade_in c (node l r) (inr (inl k)) x e = has_left l r x (clade_in c l k x e)
clade_in c (node l r) (inr (inr k)) x e = has_right l r x (clade_in c r k x e)

-- a clade is not empty
pub clade_some : (c : ℕ → Bool) (t : Tree) → Clade t c → (x : ℕ) × (c x ≡ true)
unfolding Clade has
clade_some c (leaf y) k = (y, k y ∙ eq-eqb y y refl)
clade_some c (node l r) (inl k) = (least (node l r), k (least (node l r)) ∙ least_has (node l r))
clade_some c (node l r) (inr (inl k)) = clade_some c l k
clade_some c (node l r) (inr (inr k)) = clade_some c r k

-- a set with the same elements as a clade is that clade
pub clade_cong : (c d : ℕ → Bool) (t : Tree) → ((x : ℕ) → d x ≡ c x) → Clade t c → Clade t d
unfolding Clade
clade_cong c d (leaf y) e k = λ x. e x ∙ k x
clade_cong c d (node l r) e (inl k) = inl (λ x. e x ∙ k x)
clade_cong c d (node l r) e (inr (inl k)) = inr (inl (clade_cong c d l e k))
clade_cong c d (node l r) e (inr (inr k)) = inr (inr (clade_cong c d r e k))

clade_swap : (c : ℕ → Bool) (l r : Tree) → Clade (node l r) c → Clade (node r l) c
unfolding Clade has
clade_swap c l r (inl k) = inl (λ y. k y ∙ or_comm (has l y) (has r y))
clade_swap c l r (inr (inl k)) = inr (inr k)
clade_swap c l r (inr (inr k)) = inr (inl k)

pub same_refl : (t : Tree) → SameClades t t
unfolding SameClades
same_refl t c = (λ k. k, λ k. k)

pub same_sym : (t u : Tree) → SameClades t u → SameClades u t
unfolding SameClades
same_sym t u s c = ((s c).1, (s c).0)

pub same_trans : (t u w : Tree) → SameClades t u → SameClades u w → SameClades t w
unfolding SameClades
same_trans t u w s z c = (λ k. (z c).0 ((s c).0 k), λ k. (s c).1 ((z c).1 k))

-- the same clades: the same leaves
pub same_leaves : (t u : Tree) → SameClades t u → (x : ℕ) → has t x ≡ has u x
unfolding SameClades
same_leaves t u s x = both (has t x) (has u x) (clade_in (has t) u ((s (has t)).0 (root t)) x) (clade_in (has u) t ((s (has u)).1 (root u)) x)

pub same_turn : (l r : Tree) → SameClades (node l r) (node r l)
unfolding SameClades
same_turn l r c = (clade_swap c l r, clade_swap c r l)

-- parts with the same clades make trees with the same clades
pub same_node : (l r l' r' : Tree) → SameClades l l' → SameClades r r' → SameClades (node l r) (node l' r')
unfolding SameClades Clade has
same_node l r l' r' s z c = (
  ⊎_elim (λ k. inl (λ x. k x ∙ rw (same_leaves l l' s x, same_leaves r r' z x))) (⊎_elim (λ k. inr (inl ((s c).0 k))) (λ k. inr (inr ((z c).0 k)))),
  ⊎_elim (λ k. inl (λ x. k x ∙ rw (same_leaves l l' s x, same_leaves r r' z x))) (⊎_elim (λ k. inr (inl ((s c).1 k))) (λ k. inr (inr ((z c).1 k)))),
)
