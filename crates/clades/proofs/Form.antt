-- The form of a tree: each pair turned so that the smaller least leaf stands first. Clades fix a tree up to turning pairs. Main results: form_clades,
-- form_turned, same_form, clades_up_to_turning.
use Rattle.std.specs.Prelude.{◌≡◌, refl, ◌≢◌, ◌⊎◌, ◌↔◌, Bool, true, false, cond, ℕ, ◌+◌, min, ltb}
use Rattle.std.proofs.Common.{sym, ap, ap₂, ◌∙◌, inl, inr, arith, ltb-true, ltb-false, eqb-true, lt-ltb, le-ltb, eq-eqb}
use Rattle.rules.specs.Tree.{Tree, leaf, node, has, least, size, Distinct, Clade, SameClades}
use Rattle.basics.proofs.Bools.{or_right}
use Rattle.clades.specs.Leaves.{Inside}
use Rattle.clades.proofs.Leaves.{has_left, has_right, has_cases, least_has, least_apart, fork, distinct_swap}
use Rattle.clades.proofs.Same.{root, clade_in, clade_some, same_refl, same_sym, same_trans, same_leaves, same_turn, same_node}
use Rattle.clades.specs.Form.{join, form, Turned}

-- what holds of two parts in either order holds of their join
pub join_cases : (Q : Tree → Type 0) (l r : Tree) → Q (node l r) → Q (node r l) → Q (join l r)
unfolding join
join_cases Q l r p q = go (ltb (least l) (least r))
  where
    go : (b : Bool) → Q (cond b (node l r) (node r l))
    go true = p
    go false = q

-- parts with the same clades, joined
join_clades : (l r l' r' : Tree) → SameClades l l' → SameClades r r' → SameClades (node l r) (join l' r')
join_clades l r l' r' s z =
    let e = same_node l r l' r' s z in
    join_cases (SameClades (node l r)) l' r' e (same_trans (node l r) (node l' r') (node r' l') e (same_turn l' r'))

-- a tree and its form have the same clades
pub form_clades : (t : Tree) → SameClades t (form t)
unfolding form
form_clades (leaf x) = same_refl (leaf x)
form_clades (node l r) = join_clades l r (form l) (form r) (form_clades l) (form_clades r)

pub form_has : (t : Tree) (x : ℕ) → has (form t) x ≡ has t x
form_has t x = sym (same_leaves t (form t) (form_clades t) x)

pub form_least : (t : Tree) → least (form t) ≡ least t
unfolding form least
form_least (leaf x) = refl
form_least (node l r) = go (form_least l) (form_least r)
  where
    go : least (form l) ≡ least l → least (form r) ≡ least r → least (join (form l) (form r)) ≡ min (least l) (least r)
    go p q = join_cases (λ t. least t ≡ min (least l) (least r)) (form l) (form r) (omega arith) (omega arith)

pub form_size : (t : Tree) → size (form t) ≡ size t
unfolding form size
form_size (leaf x) = refl
form_size (node l r) = go (form_size l) (form_size r)
  where
    go : size (form l) ≡ size l → size (form r) ≡ size r → size (join (form l) (form r)) ≡ size l + size r
    go p q = join_cases (λ t. size t ≡ size l + size r) (form l) (form r) (omega arith) (omega arith)

pub form_distinct : (t : Tree) → Distinct t → Distinct (form t)
unfolding form Distinct
form_distinct (leaf x) D = tt
form_distinct (node l r) D =
    let D' : Distinct (node (form l) (form r)) =
    (λ x p q. D.0 x (sym (form_has l x) ∙ p) (sym (form_has r x) ∙ q), form_distinct l D.1, form_distinct r D.2) in
    join_cases Distinct (form l) (form r) D' (distinct_swap (form l) (form r) D')

-- the form does not depend on which part stands first
join_comm : (a b : Tree) → least a ≢ least b → join a b ≡ join b a
unfolding join
join_comm a b h = go (ltb (least a) (least b)) refl
  where
    go : (t : Bool) → ltb (least a) (least b) ≡ t → join a b ≡ join b a
    go true q = rw (q, le-ltb (least b) (least a) (omega (arith, ltb-true (least a) (least b) q)))
    go false q = rw (q, lt-ltb (least b) (least a) (omega (arith, ltb-false (least a) (least b) q)))

pub form_swap : (l r : Tree) → Distinct (node l r) → form (node l r) ≡ form (node r l)
unfolding form
form_swap l r D = join_comm (form l) (form r) (λ e. least_apart l r D (sym (form_least l) ∙ e ∙ form_least r))

pub form_turned : (t : Tree) → Distinct t → Turned (form t)
unfolding Turned form join Distinct
form_turned (leaf x) D = tt
form_turned (node l r) D = go (ltb (least (form l)) (least (form r))) refl (form_turned l D.1) (form_turned r D.2)
  where
    go : (b : Bool) → ltb (least (form l)) (least (form r)) ≡ b → Turned (form l) → Turned (form r) → Turned (cond b (node (form l) (form r)) (node (form r) (form l)))
    go true q a c = (ltb-true (least (form l)) (least (form r)) q, a, c)
    go false q a c =
        let f = ltb-false (least (form l)) (least (form r)) q in
        let d = least_apart l r D in
        let el = form_least l in
        let er = form_least r in
        (omega arith, c, a)

swap_first : (l r u : Tree) → SameClades (node l r) u → SameClades (node r l) u
swap_first l r u = same_trans (node r l) (node l r) u (same_turn r l)

swap_second : (t l r : Tree) → SameClades t (node l r) → SameClades t (node r l)
swap_second t l r s = same_trans t (node l r) (node r l) s (same_turn l r)

-- a clade of a part, where the other tree's part has the same leaves
narrow : (l r l' r' : Tree) → Distinct (node l r) → Distinct (node l' r')
    → Inside l l' → ((x : ℕ) → has (node l r) x ≡ has (node l' r') x)
    → (c : ℕ → Bool) → (Clade (node l r) c → Clade (node l' r') c) → Clade l c → Clade l' c
unfolding Distinct Clade has Inside
narrow l r l' r' D D' i e c f k = go (f (inr (inl k)))
  where
    go : ((y : ℕ) → c y ≡ has (node l' r') y) ⊎ (Clade l' c ⊎ Clade r' c) → Clade l' c
    go (inl h) = absurd (D.0 (least r) (clade_in c l k (least r) (h (least r) ∙ sym (e (least r)) ∙ or_right (has l (least r)) _ (least_has r))) (least_has r))
    go (inr (inl h)) = h
    go (inr (inr h)) = let w = clade_some c l k in
        absurd (D'.0 w.0 (i w.0 (clade_in c l k w.0 w.1)) (clade_in c r' h w.0 w.1))

-- the same leaves, and each part in its own: then each part has the leaves of its own
back : (l r l' r' : Tree) → Distinct (node l' r') → ((x : ℕ) → has (node l r) x ≡ has (node l' r') x) → Inside l l' → Inside r r' → Inside l' l
unfolding Distinct has Inside
back l r l' r' D' e i j x h = go (has_cases l r x (e x ∙ has_left l' r' x h))
  where
    go : (has l x ≡ true) ⊎ (has r x ≡ true) → has l x ≡ true
    go (inl p) = p
    go (inr p) = absurd (D'.0 x h (j x p))

part : (l r l' r' : Tree) → Distinct (node l r) → Distinct (node l' r') → SameClades (node l r) (node l' r') → Inside l l' → Inside r r' → SameClades l l'
unfolding SameClades Inside
part l r l' r' D D' s i j c =
    let e = same_leaves (node l r) (node l' r') s in
    (narrow l r l' r' D D' i e c (s c).0, narrow l' r' l r D' D (back l r l' r' D' e i j) (λ x. sym (e x)) c (s c).1)

straight : (l r l' r' : Tree) → Distinct (node l r) → Distinct (node l' r') → SameClades (node l r) (node l' r') → Inside l l' → Inside r r'
    → (SameClades l l' → form l ≡ form l') → (SameClades r r' → form r ≡ form r') → form (node l r) ≡ form (node l' r')
unfolding form
straight l r l' r' D D' s i j f g =
    ap₂ join (f (part l r l' r' D D' s i j))
    (g (part r l r' l' (distinct_swap l r D) (distinct_swap l' r' D')
    (swap_first l r (node r' l') (swap_second (node l r) l' r' s)) j i))

-- where a part of one tree lies in the other
side : (l r l' r' : Tree) → Distinct (node l r) → SameClades (node l r) (node l' r') → Inside l l' ⊎ Inside l r'
unfolding SameClades Clade Inside Distinct has
side l r l' r' D s = go ((s (has l)).0 (inr (inl (root l))))
  where
    go : ((y : ℕ) → has l y ≡ has (node l' r') y) ⊎ (Clade l' (has l) ⊎ Clade r' (has l)) → Inside l l' ⊎ Inside l r'
    go (inl h) =
        let own : has (node l r) (least r) ≡ true = has_right l r (least r) (least_has r) in
        absurd (D.0 (least r) (h (least r) ∙ sym (same_leaves (node l r) (node l' r') s (least r)) ∙ own) (least_has r))
    go (inr (inl h)) = inl (clade_in (has l) l' h)
    go (inr (inr h)) = inr (clade_in (has l) r' h)

-- not both parts in one
crowd : (l r l' r' : Tree) → Distinct (node l' r') → ((x : ℕ) → has (node l r) x ≡ has (node l' r') x) → Inside l l' → Inside r l' → ⊥
unfolding Distinct has Inside
crowd l r l' r' D' e i j = go (has_cases l r (least r') (e (least r') ∙ has_right l' r' (least r') (least_has r')))
  where
    go : (has l (least r') ≡ true) ⊎ (has r (least r') ≡ true) → ⊥
    go (inl p) = D'.0 (least r') (i (least r') p) (least_has r')
    go (inr p) = D'.0 (least r') (j (least r') p) (least_has r')

forks : (l r l' r' : Tree) → Distinct (node l r) → Distinct (node l' r') → SameClades (node l r) (node l' r')
    → ((u : Tree) → Distinct u → SameClades l u → form l ≡ form u) → ((u : Tree) → Distinct u → SameClades r u → form r ≡ form u)
    → Inside l l' ⊎ Inside l r' → Inside r l' ⊎ Inside r r' → form (node l r) ≡ form (node l' r')
unfolding Distinct
forks l r l' r' D D' s f g (inl i) (inl j) = absurd (crowd l r l' r' D' (same_leaves (node l r) (node l' r') s) i j)
forks l r l' r' D D' s f g (inl i) (inr j) = straight l r l' r' D D' s i j (f l' D'.1) (g r' D'.2)
forks l r l' r' D D' s f g (inr i) (inl j) =
    straight l r r' l' D (distinct_swap l' r' D') (swap_second (node l r) l' r' s) i j (f r' D'.2) (g l' D'.1) ∙ sym (form_swap l' r' D')
forks l r l' r' D D' s f g (inr i) (inr j) =
    absurd (crowd l r r' l' (distinct_swap l' r' D') (same_leaves (node l r) (node r' l') (swap_second (node l r) l' r' s)) i j)

pub same_form : (t u : Tree) → Distinct t → Distinct u → SameClades t u → form t ≡ form u
unfolding form Distinct has
same_form (leaf x) (leaf y) D D' s = ap leaf (sym (eqb-true y x (sym (same_leaves (leaf x) (leaf y) s x) ∙ eq-eqb x x refl)))
same_form (leaf x) (node l r) D D' s = absurd (fork x l r D' (same_leaves (leaf x) (node l r) s))
same_form (node l r) (leaf y) D D' s = absurd (fork y l r D (λ z. sym (same_leaves (node l r) (leaf y) s z)))
same_form (node l r) (node l' r') D D' s =
    forks l r l' r' D D' s (λ u Du su. same_form l u D.1 Du su) (λ u Du su. same_form r u D.2 Du su)
    (side l r l' r' D s) (side r l l' r' (distinct_swap l r D) (swap_first l r (node l' r') s))

-- clades fix a tree up to turning pairs
pub clades_up_to_turning : (t u : Tree) → Distinct t → Distinct u → SameClades t u ↔ (form t ≡ form u)
clades_up_to_turning t u D E = (same_form t u D E, λ e. same_trans t (form t) u (form_clades t) (rw e (same_sym u (form u) (form_clades u))))
