-- The labels of a node's bytes are the leaves of its tree from left to right, each at the place of its first byte. Main results: labels_behind,
-- label_labels, pair_labels, node_labels, text_labels, label_count.
use Rattle.std.specs.Prelude.{◌≡◌, refl, true, false, cond, List, [], ◌∷◌, ◌++◌, map, ℕ, suc, ◌+◌, ◌-◌, ◌*◌, length}
use Rattle.std.proofs.Common.{ap, ap₂, sym, ◌∙◌, append-nil, arith, length-append}
use Rattle.std.proofs.Math.Option.{Option, none, some}
use Rattle.std.proofs.lemmas.List.{length-map}
use Rattle.rules.specs.Names.{Placed}
use Rattle.rules.specs.Newick.{is_digit, all_digits, value_from, Label, nought, number, Node, label, pair, pair_text, Text, text, with_digit, ending, labels_from, labels_of}
use Rattle.rules.specs.Tree.{Tree, leaf, node, size}
use Rattle.basics.proofs.Bools.{and_both}
use Rattle.basics.proofs.Mapped.{map_append}
use Rattle.grammar.specs.Labels.{leaves_of, value, LabelledAs}

leaves_size : (t : Tree) → length (leaves_of t) ≡ size t
unfolding leaves_of size
leaves_size (leaf x) = refl
leaves_size (node l r) = length-append (leaves_of l) (leaves_of r) ∙ ap₂ ◌+◌ (leaves_size l) (leaves_size r)

ending_append : (l : Option Placed) (a b : List Placed) → ending l a ++ b ≡ ending l (a ++ b)
unfolding ending
ending_append none a b = refl
ending_append (some x) a b = refl

-- a byte that is no digit ends the label before it
pub labels_behind : (a : ℕ) (l : Option Placed) (b : List ℕ) (c : ℕ) (r : List ℕ) → is_digit c ≡ false
    → labels_from a l (b ++ (c ∷ r)) ≡ labels_from a l b ++ labels_from (a + length b + 1) none r
unfolding labels_from
labels_behind a l [] c r h =
    let e : a + 1 ≡ a + 0 + 1 = omega arith in
    rw h (ap (λ (k : ℕ). ending l (labels_from k none r)) e ∙ sym (ending_append l [] (labels_from (a + 0 + 1) none r)))
labels_behind a l (x ∷ b) c r h =
    let e : a + 1 + length b + 1 ≡ a + suc (length b) + 1 = omega arith in
    ap (ending (cond (is_digit x) none l)) (labels_behind (a + 1) (cond (is_digit x) (with_digit a x l) none) b c r h
    ∙ ap (λ (k : ℕ). labels_from (a + 1) (cond (is_digit x) (with_digit a x l) none) b ++ labels_from k none r) e)
    ∙ sym (ending_append (cond (is_digit x) none l) (labels_from (a + 1) (cond (is_digit x) (with_digit a x l) none) b) (labels_from (a + suc (length b) + 1) none r))

digits_labels : (k a x : ℕ) (b : List ℕ) → all_digits b ≡ true → labels_from a (some (k, x)) b ≡ (k, value_from x b) ∷ []
unfolding labels_from all_digits value_from with_digit ending
digits_labels k a x [] h = refl
digits_labels k a x (c ∷ b) h =
    let d : (is_digit c ≡ true) × (all_digits b ≡ true) = and_both (is_digit c) (all_digits b) h in
    rw d.0 (digits_labels k (a + 1) (10 * x + (c - 48)) b d.1)

-- a label is one label, at its first byte
pub label_labels : {b : List ℕ} {x : ℕ} → Label b x → (a : ℕ) → labels_from a none b ≡ (a, x) ∷ []
unfolding labels_from all_digits value_from with_digit ending is_digit
label_labels nought a = refl
label_labels (number c s h z l) a =
    let d : (is_digit c ≡ true) × (all_digits s ≡ true) = and_both (is_digit c) (all_digits s) h in
    let e : c - 48 ≡ 0 + (c - 48) = omega arith in
    rw d.0 (digits_labels a (a + 1) (c - 48) s d.1 ∙ ap (λ (y : ℕ). (a, value_from y s) ∷ []) e)

-- the labels of a pair are those of its nodes
pub tail_labels : (a : ℕ) (b b' : List ℕ) → labels_from a none (b ++ (44 ∷ b' ++ (41 ∷ []))) ≡ labels_from a none b ++ labels_from (a + length b + 1) none b'
unfolding labels_from is_digit ending
tail_labels a b b' =
    labels_behind a none b 44 (b' ++ (41 ∷ [])) refl
    ∙ ap (λ (l : List Placed). labels_from a none b ++ l) (labels_behind (a + length b + 1) none b' 41 [] refl ∙ append-nil (labels_from (a + length b + 1) none b'))

pub pair_labels : (a : ℕ) (b b' : List ℕ) → labels_from a none (pair_text b b') ≡ labels_from (a + 1) none b ++ labels_from (a + 1 + length b + 1) none b'
unfolding labels_from is_digit ending pair_text
pair_labels a b b' = tail_labels (a + 1) b b'

pair_leaves : {d : ℕ} {s s' : List ℕ} {t u : Tree} → Node d s t → Node d s' u → (a : ℕ) → map value (labels_from (a + 1) none s) ≡ leaves_of t
    → ((k : ℕ) → map value (labels_from k none s') ≡ leaves_of u) → map value (labels_from a none (pair_text s s')) ≡ leaves_of (node t u)
unfolding leaves_of
pair_leaves {d} {s} {s'} m n a h h' =
    ap (map value) (pair_labels a s s') ∙ map_append value (labels_from (a + 1) none s) (labels_from (a + 1 + length s + 1) none s') ∙ ap₂ ◌++◌ h (h' (a + 1 + length s + 1))

pub node_labels : {d : ℕ} {b : List ℕ} {t : Tree} → Node d b t → (a : ℕ) → map value (labels_from a none b) ≡ leaves_of t
unfolding leaves_of
node_labels (label l) a = ap (map value) (label_labels l a)
node_labels (pair m n) a = pair_leaves m n a (node_labels m (a + 1)) (λ k. node_labels n k)

-- the labels of a text with the sign at its end are those of its node
pub end_labels : (a : ℕ) (b : List ℕ) → labels_from a none (b ++ (59 ∷ [])) ≡ labels_from a none b
unfolding labels_from is_digit ending
end_labels a b = labels_behind a none b 59 [] refl ∙ append-nil (labels_from a none b)

end_leaves : {d : ℕ} {b : List ℕ} {t : Tree} → Node d b t → map value (labels_of (b ++ (59 ∷ []))) ≡ leaves_of t
unfolding labels_of
end_leaves {d} {b} n = ap (map value) (end_labels 0 b) ∙ node_labels n 0

pub text_labels : {s : List ℕ} {t : Tree} → Text s t → LabelledAs s t
text_labels (text n) = record { leaves = end_leaves n }

pub label_count : {s : List ℕ} {t : Tree} → LabelledAs s t → length (labels_of s) ≡ size t
label_count {s} {t} h = sym (length-map (labels_of s) value) ∙ ap length h.leaves ∙ leaves_size t
