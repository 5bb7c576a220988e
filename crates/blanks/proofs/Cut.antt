-- Where a text begins with bytes that end in a digit, some text begins so and goes on with no digit. Main results: cut_node, cut_text.
use Rattle.std.specs.Prelude.{◌≡◌, true, false, ℕ, suc, ◌+◌, ◌≤◌, eqb, length}
use Rattle.std.proofs.Math.Path.{refl, subst}
use Rattle.std.proofs.Common.{ap, ap₂, sym, ◌∙◌, true≢false, inl, inr, arith, length-append}
use mathlib.Core.List.{List, [], ◌∷◌, ◌++◌, append_assoc}
use Rattle.rules.specs.Newick.{is_digit, all_digits, value_from, levels, Label, nought, number, Node, label, pair, pair_text, Text, text}
use Rattle.rules.specs.Tree.{Tree, leaf, node}
use Rattle.basics.proofs.Bools.{and_both}
use Rattle.grammar.specs.Complete.{NoDigit}
use Rattle.blanks.specs.Cut.{Either, Going}

tail_eq : {x y : ℕ} {a b : List ℕ} → x ∷ a ≡ y ∷ b → a ≡ b
tail_eq e = cc

head_eq : {x y : ℕ} {a b : List ℕ} → x ∷ a ≡ y ∷ b → x ≡ y
head_eq e = cc

either : (a b p : List ℕ) (c : ℕ) (r : List ℕ) → a ++ b ≡ p ++ (c ∷ r) → Either a b p c r
either [] b p c r e = inr (p, refl, e)
either (x ∷ a) b [] c r e = inl (a, ap (λ (k : ℕ). k ∷ a) (head_eq e), sym (tail_eq e))
either (x ∷ a) b (y ∷ p) c r e = go (head_eq e) (either a b p c r (tail_eq e))
  where
    go : x ≡ y → Either a b p c r → Either (x ∷ a) b (y ∷ p) c r
    go h (inl (q, u, v)) = inl (q, ap₂ (λ (k : ℕ) (l : List ℕ). k ∷ l) h u, v)
    go h (inr (q, u, v)) = inr (q, ap₂ (λ (k : ℕ) (l : List ℕ). k ∷ l) (sym h) u, v)

nil_not : (p : List ℕ) (c : ℕ) (r : List ℕ) → [] ≡ p ++ (c ∷ r) → ⊥
nil_not p c r e = omega (arith, ap length e, length-append p (c ∷ r))

-- one sign that is no digit, and a digit in it
one_not : (x : ℕ) (p : List ℕ) (c : ℕ) (r : List ℕ) → is_digit x ≡ false → is_digit c ≡ true → x ∷ [] ≡ p ++ (c ∷ r) → ⊥
one_not x [] c r h i e = true≢false (sym i ∙ ap is_digit (sym (head_eq e)) ∙ h)
one_not x (y ∷ p) c r h i e = nil_not p c r (tail_eq e)

all_digits_cut : (p : List ℕ) (c : ℕ) (r : List ℕ) → all_digits (p ++ (c ∷ r)) ≡ true → all_digits (p ++ (c ∷ [])) ≡ true
unfolding all_digits
all_digits_cut [] c r h = rw (and_both (is_digit c) (all_digits r) h).0
all_digits_cut (x ∷ p) c r h =
    let d : (is_digit x ≡ true) × (all_digits (p ++ (c ∷ r)) ≡ true) = and_both (is_digit x) (all_digits (p ++ (c ∷ r))) h in
    rw d.0 (all_digits_cut p c r d.1)

number_cut : (d x : ℕ) (s : List ℕ) → all_digits (x ∷ s) ≡ true → eqb x 48 ≡ false → length s ≤ 3 → (p : List ℕ) (c : ℕ) (r : List ℕ)
    → x ∷ s ≡ p ++ (c ∷ r) → Going (Node d) p c
unfolding all_digits
number_cut d x s h z l [] c r e =
    let k : x ≡ c = head_eq e in
    let i : is_digit c ≡ true = subst (λ (y : ℕ). is_digit y ≡ true) k (and_both (is_digit x) (all_digits s) h).0 in
    ([], leaf (value_from 0 (c ∷ [])), tt, label (number c [] (rw i) (subst (λ (y : ℕ). eqb y 48 ≡ false) k z) (omega arith)))
number_cut d x s h z l (y ∷ p) c r e =
    let k : x ≡ y = head_eq e in
    let m : s ≡ p ++ (c ∷ r) = tail_eq e in
    let w : length s ≡ length p + suc (length r) = ap length m ∙ length-append p (c ∷ r) in
    let v : length (p ++ (c ∷ [])) ≤ 3 = omega (arith, length-append p (c ∷ [])) in
    let i : all_digits (y ∷ p ++ (c ∷ r)) ≡ true = subst (λ (b : List ℕ). all_digits b ≡ true) e h in
    ([], leaf (value_from 0 (y ∷ p ++ (c ∷ []))), tt, label (number y (p ++ (c ∷ [])) (all_digits_cut (y ∷ p) c r i) (subst (λ (j : ℕ). eqb j 48 ≡ false) k z) v))

label_cut : {s : List ℕ} {x : ℕ} (d : ℕ) → Label s x → (p : List ℕ) (c : ℕ) (r : List ℕ) → s ≡ p ++ (c ∷ r) → Going (Node d) p c
label_cut d nought [] c r e = ([], leaf 0, tt, subst (λ (k : ℕ). Node d (k ∷ []) (leaf 0)) (head_eq e) (label nought))
label_cut d nought (y ∷ p) c r e = absurd (nil_not p c r (tail_eq e))
label_cut d (number x s h z l) p c r e = number_cut d x s h z l p c r e

no_digit_append : (r : List ℕ) (x : ℕ) (b : List ℕ) → NoDigit r → is_digit x ≡ false → NoDigit (r ++ (x ∷ b))
no_digit_append [] x b n h = h
no_digit_append (y ∷ r) x b n h = n

no_sign : (x c : ℕ) → is_digit x ≡ false → is_digit c ≡ true → x ≡ c → ⊥
no_sign x c h i e = true≢false (sym i ∙ ap is_digit (sym e) ∙ h)

-- the digit stands in the first node of a pair
left_cut : (d : ℕ) (s' : List ℕ) (u : Tree) → Node d s' u → (p : List ℕ) (c : ℕ) → Going (Node d) p c → Going (Node (suc d)) (40 ∷ p) c
unfolding pair_text is_digit
left_cut d s' u n p c (r, t, h, m) =
    let b : List ℕ = 44 ∷ s' ++ (41 ∷ []) in (
      r ++ b,
      node t u,
      no_digit_append r 44 (s' ++ (41 ∷ [])) h refl,
      subst (λ (l : List ℕ). Node (suc d) (40 ∷ l) (node t u)) (append_assoc p (c ∷ r) b) (pair m n),
    )

-- the digit stands in the second node of a pair
right_cut : (d : ℕ) (s : List ℕ) (t : Tree) → Node d s t → (p : List ℕ) (c : ℕ) → Going (Node d) p c → Going (Node (suc d)) (40 ∷ s ++ (44 ∷ p)) c
unfolding pair_text is_digit
right_cut d s t m p c (r, u, h, n) =
    let b : List ℕ = 41 ∷ [] in (
      r ++ b,
      node t u,
      no_digit_append r 41 [] h refl,
      subst (λ (l : List ℕ). Node (suc d) (40 ∷ l) (node t u))
          (ap (λ (l : List ℕ). s ++ (44 ∷ l)) (append_assoc p (c ∷ r) b) ∙ sym (append_assoc s (44 ∷ p) (c ∷ r ++ b))) (pair m n),
    )

module _ (d : ℕ) (s s' : List ℕ) (t u : Tree) (m : Node d s t) (n : Node d s' u)
    (first : (p : List ℕ) (c : ℕ) (r : List ℕ) → is_digit c ≡ true → s ≡ p ++ (c ∷ r) → Going (Node d) p c)
    (second : (p : List ℕ) (c : ℕ) (r : List ℕ) → is_digit c ≡ true → s' ≡ p ++ (c ∷ r) → Going (Node d) p c) where
  pair_cut : (p : List ℕ) (c : ℕ) (r : List ℕ) → is_digit c ≡ true → pair_text s s' ≡ p ++ (c ∷ r) → Going (Node (suc d)) p c
  unfolding pair_text is_digit
  pair_cut [] c r i e = absurd (no_sign 40 c refl i (head_eq e))
  pair_cut (y ∷ p) c r i e =
      subst (λ (k : ℕ). Going (Node (suc d)) (k ∷ p) c) (head_eq e) (outer (either s (44 ∷ s' ++ (41 ∷ [])) p c r (tail_eq e)))
    where
      inner : (q : List ℕ) → Either s' (41 ∷ []) q c r → Going (Node (suc d)) (40 ∷ s ++ (44 ∷ q)) c
      inner q (inl (q', f, g)) = right_cut d s t m q c (second q c q' i f)
      inner q (inr (q', f, g)) = absurd (one_not 41 q' c r refl i g)

      middle : (q : List ℕ) → 44 ∷ s' ++ (41 ∷ []) ≡ q ++ (c ∷ r) → Going (Node (suc d)) (40 ∷ s ++ q) c
      middle [] f = absurd (no_sign 44 c refl i (head_eq f))
      middle (z ∷ q) f =
          subst (λ (k : ℕ). Going (Node (suc d)) (40 ∷ s ++ (k ∷ q)) c) (head_eq f) (inner q (either s' (41 ∷ []) q c r (tail_eq f)))

      outer : Either s (44 ∷ s' ++ (41 ∷ [])) p c r → Going (Node (suc d)) (40 ∷ p) c
      outer (inl (q, f, g)) = left_cut d s' u n p c (first p c q i f)
      outer (inr (q, f, g)) = subst (λ (l : List ℕ). Going (Node (suc d)) (40 ∷ l) c) (sym f) (middle q g)

-- a node with a digit in it can end its label there
pub cut_node : {d : ℕ} {s : List ℕ} {t : Tree} → Node d s t → (p : List ℕ) (c : ℕ) (r : List ℕ) → is_digit c ≡ true → s ≡ p ++ (c ∷ r) → Going (Node d) p c
cut_node (label l) p c r i e = label_cut _ l p c r e
cut_node (pair {d = d} {s = s} {s' = s'} {t = t} {u = u} m n) p c r i e =
    pair_cut d s s' t u m n (λ p c r i e. cut_node m p c r i e) (λ p c r i e. cut_node n p c r i e) p c r i e

end_cut : {s : List ℕ} {t : Tree} → Node levels s t → (p : List ℕ) (c : ℕ) (r : List ℕ) → is_digit c ≡ true → s ++ (59 ∷ []) ≡ p ++ (c ∷ r) → Going Text p c
unfolding is_digit
end_cut {s} {t} n p c r i e = go (either s (59 ∷ []) p c r e)
  where
    closed : Going (Node levels) p c → Going Text p c
    closed (r', t', h, m) =
        (r' ++ (59 ∷ []), t', no_digit_append r' 59 [] h refl, subst (λ (l : List ℕ). Text l t') (append_assoc p (c ∷ r') (59 ∷ [])) (text m))

    go : Either s (59 ∷ []) p c r → Going Text p c
    go (inl (q, f, g)) = closed (cut_node n p c q i f)
    go (inr (q, f, g)) = absurd (one_not 59 q c r refl i g)

-- a text that begins with a digit behind some bytes: some text ends its label there
pub cut_text : {s : List ℕ} {t : Tree} → Text s t → (p : List ℕ) (c : ℕ) (r : List ℕ) → is_digit c ≡ true → s ≡ p ++ (c ∷ r) → Going Text p c
cut_text (text n) p c r i e = end_cut n p c r i e
