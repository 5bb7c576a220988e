-- What a reader's answer means: what it reads is in the grammar, what it passes before it breaks off can be completed, and in both cases the answer
-- hangs on no byte behind the next one. Main definitions: Like, Reads, Breaks, Sound.
use Rattle.std.specs.Prelude.{◌≡◌, true, ◌⊎◌, ℕ, ◌≤◌, length}
use mathlib.Core.List.{List, [], ◌∷◌, ◌++◌}
use Rattle.rules.specs.Newick.{all_digits, value_from, Label, Node}
use Rattle.rules.specs.Tree.{Tree, leaf, node}
use Rattle.grammar.specs.Reading.{Reading, read, broken, Reader}

-- the bytes begin alike: with the same byte, or both are at their end
abbrev pub Like : List ℕ → List ℕ → Type 0
Like [] [] = Unit {0}
Like [] (c ∷ b) = ⊥
Like (c ∷ a) [] = ⊥
Like (c ∷ a) (d ∷ b) = c ≡ d

abbrev pub Grammar : Type 1
Grammar = List ℕ → Tree → Type 0

-- the reader takes bytes of the grammar off s, and r is left
pub record Reads (f : Reader) (G : Grammar) (s r : List ℕ) (t : Tree) : Type 0 where
  pub bytes : List ℕ
  pub split : s ≡ bytes ++ r
  pub good : G bytes t
  pub alike : (r' : List ℕ) → Like r r' → f (bytes ++ r') ≡ read r' t

-- the reader breaks off before r; what it has passed can be completed
pub record Breaks (f : Reader) (G : Grammar) (s r : List ℕ) : Type 0 where
  pub bytes : List ℕ
  pub rest : List ℕ
  pub tree : Tree
  pub split : s ≡ bytes ++ r
  pub good : G (bytes ++ rest) tree
  pub alike : (r' : List ℕ) → Like r r' → f (bytes ++ r') ≡ broken r'

abbrev pub Outcome : Reader → Grammar → List ℕ → Reading → Type 0
Outcome f G s (read r t) = Reads f G s r t
Outcome f G s (broken r) = Breaks f G s r

abbrev pub Sound : Reader → Grammar → Type 0
Sound f G = (s : List ℕ) → Outcome f G s (f s)

-- bytes of one grammar, and behind them bytes of another, which may hang on the tree read
abbrev pub Seq : Grammar → (Tree → Grammar) → Grammar
Seq G H b v = (b₁ : List ℕ) × (b₂ : List ℕ) × (t : Tree) × (b ≡ b₁ ++ b₂) × G b₁ t × H t b₂ v

-- the one sign c, behind a tree
abbrev pub Sign : ℕ → Tree → Grammar
Sign c t b v = (b ≡ c ∷ []) × (v ≡ t)

-- nothing, behind a tree
abbrev pub Nothing : Tree → Grammar
Nothing t b v = (b ≡ []) × (v ≡ t)

-- at most k digits that stand behind x
pub record Digits (k x : ℕ) (b : List ℕ) (t : Tree) : Type 0 where
  pub few : length b ≤ k
  pub digits : all_digits b ≡ true
  pub value : t ≡ leaf (value_from x b)

-- a label, as a tree
abbrev pub Leaf : Grammar
Leaf b t = (x : ℕ) × Label b x × (t ≡ leaf x)

-- "(" and bytes of a grammar, or a label
abbrev pub Bracketed : Grammar → Grammar
Bracketed G b t = ((b' : List ℕ) × (b ≡ 40 ∷ b') × G b' t) ⊎ Leaf b t

-- node "," node ")"
abbrev pub Tail : ℕ → Grammar
Tail d b v = (b₁ : List ℕ) × (b₂ : List ℕ) × (t : Tree) × (u : Tree) × (b ≡ b₁ ++ (44 ∷ b₂ ++ (41 ∷ []))) × (v ≡ node t u) × Node d b₁ t × Node d b₂ u
