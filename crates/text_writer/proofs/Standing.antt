-- Texts that stand one behind another.
-- Main results: stands_sign, stands_then, stands_first, text_room.
use mathlib.Core.Path.{◌≡◌, refl, ap, ap₂, sym, ◌∙◌}
use mathlib.Core.List.{List, [], ◌∷◌, ◌++◌, append_assoc}
use Prim.Native.Nat.{ℕ, ◌+◌, ◌≤◌, ◌<◌}
use native.Mathlib.Omega.{arith}
use native.Mathlib.Numerals.{add-one}
use Rattle.std.proofs.lemmas.Grind.{common_steps}
use lib.ListN.{length, take, drop, set, length-append, length-set}
use lib.Seq.{length-take-le, take-suc-set, take-append-add, take-append-le}
use Rattle.rules.specs.Newick.{node_text, text_of}
use Rattle.rules.specs.Tree.{Tree}
use Rattle.text_writer.specs.Output.{Stands}

-- one sign stands behind what stood before it
pub stands_sign : (l : List ℕ) (at c : ℕ) → at < length l → Stands (c ∷ []) at l (set l at c) (at + 1)
stands_sign l at c h = record { end = refl; whole = length-set l at c; front = rw (add-one at) (take-suc-set l at c h) }

-- what stands behind what stands
pub stands_then : {u v : List ℕ} {at x y : ℕ} {l l₁ l₂ : List ℕ} → Stands u at l l₁ x → Stands v x l₁ l₂ y → Stands (u ++ v) at l l₂ y
stands_then {u} {v} {at} {x} {y} {l} {l₁} {l₂} A B =
    record {
      end = omega (arith, A.end, B.end, length-append u v);
      whole = B.whole ∙ A.whole;
      front = B.front ∙ ap (λ (k : List ℕ). k ++ v) A.front ∙ append_assoc (take at l) u v;
    }

-- the first bytes of what is stored stand
pub stands_first : (l : List ℕ) (at k : ℕ) (bytes : List ℕ) → at + length bytes ≤ length l → k ≤ length bytes
    → Stands (take k bytes) at l (take at l ++ bytes ++ drop (at + length bytes) l) (at + k)
stands_first l at k bytes h g =
    let rest = drop (at + length bytes) l in
    let e : length (take at l) + k ≡ at + k = omega (arith, length-take-le at l (omega arith)) in
    record {
      end = omega (arith, length-take-le k bytes g);
      whole = grind (arith, common_steps);
      front =
          ap₂ take (sym e) (append_assoc (take at l) bytes rest) ∙ take-append-add (take at l) (bytes ++ rest) k ∙ ap (λ (b : List ℕ). take at l ++ b) (take-append-le k bytes rest g);
    }

pub text_room : (t : Tree) → length (text_of t) ≡ length (node_text t) + 1
unfolding text_of
text_room t = length-append (node_text t) (59 ∷ [])
