-- The Newick text: the text of a tree, the grammar, where bytes break it, and the labels with their places.
-- Main definitions: text_of, Label, Node, Text, Begins, BreaksAt, labels_of, label_fault.
use Rattle.std.specs.Prelude.{Bool, true, false, ◌&&◌, cond, List, [], ◌∷◌, ◌++◌, ◌≡◌, ℕ, zero, suc, ◌+◌, ◌-◌, ◌*◌, ◌/◌, ◌%◌, ◌≤◌, ◌<◌, eqb, ltb, leb, length, take}
use Rattle.std.proofs.Math.Option.{Option, none, some}
use Rattle.rules.specs.Names.{Placed, PlacedFault, first_fault}
use Rattle.rules.specs.Tree.{Tree, leaf, node, least}

-- A text is a list of bytes. The signs are ( 40, ) 41, comma 44, ; 59, and the digits 48 to 57.

-- x in decimal, in at most k digits
unfoldable pub digits : ℕ → ℕ → List ℕ
digits zero x = []
digits (suc k) x = cond (ltb x 10) ((48 + x) ∷ []) (digits k (x / 10) ++ ((48 + x % 10) ∷ []))

-- "(" node "," node ")"
unfoldable pub pair_text : List ℕ → List ℕ → List ℕ
pair_text s s' = 40 ∷ s ++ (44 ∷ s' ++ (41 ∷ []))

-- "We write the child with the smaller least leaf first"; "one to four digits"
unfoldable pub node_text : Tree → List ℕ
unfolding digits pair_text least
node_text (leaf x) = digits 4 x
node_text (node l r) =
    cond (ltb (least l) (least r)) (pair_text (node_text l) (node_text r)) (pair_text (node_text r) (node_text l))

-- "A text is a node and then ";", and nothing else."
unfoldable pub text_of : Tree → List ℕ
unfolding node_text
text_of t = node_text t ++ (59 ∷ [])

unfoldable pub is_digit : ℕ → Bool
is_digit c = leb 48 c && leb c 57

unfoldable pub all_digits : List ℕ → Bool
unfolding is_digit
all_digits [] = true
all_digits (c ∷ s) = is_digit c && all_digits s

-- the number that digits stand for, behind x
unfoldable pub value_from : ℕ → List ℕ → ℕ
value_from x [] = x
value_from x (c ∷ s) = value_from (10 * x + (c - 48)) s

-- "A label is "0", or one to four digits of which the first is not 0."
pub data Label : List ℕ → ℕ → Type 0 where
  nought : Label (48 ∷ []) 0
  number : (c : ℕ) (s : List ℕ) → all_digits (c ∷ s) ≡ true → eqb c 48 ≡ false → length s ≤ 3
      → Label (c ∷ s) (value_from 0 (c ∷ s))

-- "A node is a label, or "(" node "," node ")"." The bytes are a node, which reads as the tree; at most d brackets open at once.
pub data Node : ℕ → List ℕ → Tree → Type 0 where
  label : {d : ℕ} {s : List ℕ} {x : ℕ} → Label s x → Node d s (leaf x)
  pair : {d : ℕ} {s s' : List ℕ} {t u : Tree} → Node d s t → Node d s' u → Node (suc d) (pair_text s s') (node t u)

-- "The nesting may go down 1,023 levels"
abbrev pub levels : ℕ
levels = 1023

-- "A text is a node and then ";", and nothing else." The bytes are a text, which reads as the tree.
pub data Text : List ℕ → Tree → Type 0 where
  text : {s : List ℕ} {t : Tree} → Node levels s t → Text (s ++ (59 ∷ [])) t

-- Which bytes are a text T says, and the tree that they read as: Text, or SentText of texts as sent.

-- some text begins with these bytes
unfoldable pub Begins : (List ℕ → Tree → Type 0) → List ℕ → Type 0
Begins T s = (rest : List ℕ) × (t : Tree) × T (s ++ rest) t

-- The place of refusal 8: "first byte such that no text begins with the bytes up to and including it; the length if it ends early"
pub data BreaksAt (T : List ℕ → Tree → Type 0) (s : List ℕ) : ℕ → Type 0 where
  broken : {k : ℕ} → k < length s → Begins T (take k s) → (Begins T (take (suc k) s) → ⊥) → BreaksAt T s k
  ended : Begins T s → ((t : Tree) → T s t → ⊥) → BreaksAt T s (length s)

-- A label of a text is placed at its first byte.

-- the label being read with one digit more; a digit that follows none begins a label
unfoldable pub with_digit : ℕ → ℕ → Option Placed → Option Placed
with_digit place c none = some (place, c - 48)
with_digit place c (some l) = some (l.0, 10 * l.1 + (c - 48))

-- a label that ends here, if one does, and the labels after it
unfoldable pub ending : Option Placed → List Placed → List Placed
ending none ls = ls
ending (some l) ls = l ∷ ls

-- the labels of the bytes from a place on, in text order, behind a label being read: each run of digits is one label
unfoldable pub labels_from : ℕ → Option Placed → List ℕ → List Placed
unfolding ending with_digit is_digit
labels_from place l [] = ending l []
labels_from place l (c ∷ s) =
    ending (cond (is_digit c) none l) (labels_from (place + 1) (cond (is_digit c) (with_digit place c l) none) s)

-- the labels of a text, each with its place
unfoldable pub labels_of : List ℕ → List Placed
unfolding labels_from
labels_of s = labels_from 0 none s

-- "The leaf count n is the number of labels; each of 0 to n-1 must stand once." The first label at fault, "label by label in text order".
unfoldable pub label_fault : List ℕ → Option PlacedFault
unfolding first_fault labels_of
label_fault s = first_fault (length (labels_of s)) [] (labels_of s)
