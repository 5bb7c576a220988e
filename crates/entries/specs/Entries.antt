-- What the merges of a list of larger names say of each: its partner, and how many came before it.
-- Main definitions: less_in. Main results: partner_is, earlier_is, none_earlier, less_snoc, less_none, less_some, listed_from.
use Rattle.std.specs.Prelude.{◌≡◌, refl, Bool, true, false, ◌&&◌, cond, List, [], ◌∷◌, ◌++◌, ℕ, ◌+◌, ◌≤◌, ◌<◌, eqb, ltb, length, take, drop}
use Rattle.std.proofs.Common.{sym, ap, ◌∙◌, inl, inr, arith, take-append-drop, get_or-take, ext_get_or, length-take-le, eqb-true, eq-eqb, ne_eqb, ltb-true, lt-ltb, le-ltb}
use Rattle.rules.specs.Order.{earlier, partner, listed}
use Rattle.basics.proofs.Bools.{and_false}
use Rattle.basics.proofs.Listed.{length_listed, listed_at}
use Rattle.read_tables.specs.Count.{bit}
use Rattle.read_tables.specs.Chains.{merges_of, In}
use Rattle.chains.specs.Walk.{cell}

-- how many elements of the list are below x
unfoldable pub less_in : ℕ → List ℕ → ℕ
less_in x [] = 0
less_in x (y ∷ l) = bit (ltb y x) + less_in x l

pub less_snoc : (x y : ℕ) (l : List ℕ) → less_in x (l ++ (y ∷ [])) ≡ less_in x l + bit (ltb y x)
unfolding less_in
less_snoc x y [] = omega arith
less_snoc x y (z ∷ l) = omega (arith, less_snoc x y l)

pub less_none : (x : ℕ) (l : List ℕ) → ((y : ℕ) → In y l → x ≤ y) → less_in x l ≡ 0
unfolding less_in bit In
less_none x [] h = refl
less_none x (y ∷ l) h = rw (le-ltb y x (h y (inl refl))) (omega (arith, less_none x l (λ z i. h z (inr i))))

pub less_some : (x y : ℕ) (l : List ℕ) → In y l → y < x → 1 ≤ less_in x l
unfolding less_in bit In
less_some x y [] i h = absurd i
less_some x y (z ∷ l) (inl e) h = rw (lt-ltb z x (omega arith)) (omega arith)
less_some x y (z ∷ l) (inr i) h = omega (arith, less_some x y l i h)

-- ---- what the merges say of i
pub partner_is : (s : ℕ → ℕ) (l : List ℕ) (i : ℕ) → In i l → partner i (merges_of s l) ≡ s i
unfolding partner merges_of In
partner_is s [] i h = absurd h
partner_is s (y ∷ l) i (inl e) = rw (eq-eqb i y e) (ap s (sym e))
partner_is s (y ∷ l) i (inr h) = go (eqb i y) refl (partner_is s l i h)
  where
    go : (b : Bool) → eqb i y ≡ b → partner i (merges_of s l) ≡ s i → cond b (s y) (partner i (merges_of s l)) ≡ s i
    go true q r = ap s (sym (eqb-true i y q))
    go false q r = r

-- those before it that are below it
pub earlier_is : (s : ℕ → ℕ) (l : List ℕ) (i : ℕ) (r : List ℕ) → (In i l → ⊥) → ((y : ℕ) → In y l → s y < y) → earlier i (merges_of s (l ++ (i ∷ r))) ≡ less_in i l
unfolding earlier merges_of less_in bit In
earlier_is s [] i r f g = rw (eq-eqb i i refl)
earlier_is s (y ∷ l) i r f g =
    let q = earlier_is s l i r (λ h. f (inr h)) (λ z h. g z (inr h)) in
    rw (ne_eqb i y (λ e. f (inl e))) (go (ltb y i) refl q)
  where
    go : (b : Bool) → ltb y i ≡ b → earlier i (merges_of s (l ++ (i ∷ r))) ≡ less_in i l
        → cond (ltb (s y) i && b) 1 0 + earlier i (merges_of s (l ++ (i ∷ r))) ≡ bit b + less_in i l
    go true q e =
        let a = ltb-true y i q in
        let c = g y (inl refl) in
        rw (lt-ltb (s y) i (omega arith)) (omega arith)
    go false q e = rw (and_false (ltb (s y) i)) (omega arith)

-- leaf 0 is no larger name
pub none_earlier : (s : ℕ → ℕ) (l : List ℕ) → ((y : ℕ) → In y l → s y < y) → (partner 0 (merges_of s l) ≡ 0) × (earlier 0 (merges_of s l) ≡ 0)
unfolding earlier partner merges_of In
none_earlier s [] g = (refl, refl)
none_earlier s (y ∷ l) g =
    let c = g y (inl refl) in
    let r = none_earlier s l (λ z h. g z (inr h)) in
    (rw (ne_eqb 0 y (omega arith)) r.0, rw (ne_eqb 0 y (omega arith), le-ltb (s y) 0 (omega arith)) (omega (arith, r.1)))

-- a list is its first n elements and the rest
pub listed_from : (n : ℕ) (f : ℕ → ℕ) (out : List ℕ) → n ≤ length out → ((x : ℕ) → x < n → cell out x ≡ f x) → out ≡ listed n f ++ drop n out
listed_from n f out h g =
    sym (take-append-drop n out)
    ∙ ap (λ (l : List ℕ). l ++ drop n out)
    (ext_get_or 0 (take n out) (listed n f) (length-take-le n out h ∙ sym (length_listed n f))
    (λ x l. let y : x < n = omega (arith, length-take-le n out h) in get_or-take n out x 0 y ∙ g x y ∙ sym (listed_at n f x y)))
