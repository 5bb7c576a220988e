-- The parts of a line, one behind another.
-- Main results: line_written, text_room, end_room.
use mathlib.Core.List.{List}
use mathlib.Core.Path.{sym, subst}
use Prim.Native.Nat.{ℕ, ◌+◌, ◌≤◌, ◌<◌}
use native.Mathlib.Omega.{arith}
use lib.ListN.{length, set}
use Rattle.rules.specs.Vector.{Valid}
use Rattle.rules.specs.Tree.{tree_of}
use Rattle.rules.specs.Newick.{text_of}
use Rattle.rules.specs.Listing.{line_of}
use Rattle.digits.specs.Wrote.{Wrote, wrote_same, wrote_both, wrote_one}
use Rattle.listing_front.specs.Front.{front_of}
use Rattle.listing_line.specs.Parts.{line_parts}
use Rattle.listing_line.specs.Longest.{text_at_most, front_at_most}

pub line_written : (v : List ℕ) {l l₁ l₂ : List ℕ} {x y : ℕ} → Wrote (front_of v) 0 l l₁ x → Wrote (text_of (tree_of v)) x l₁ l₂ y
    → Wrote (line_of v) 0 l (set l₂ y 10) (y + 1)
line_written v {l} {l₁} {l₂} {x} {y} a b =
    subst (λ (u : List ℕ). Wrote u 0 l (set l₂ y 10) (y + 1)) (sym (line_parts v)) (wrote_one (wrote_both a b) 10)

-- room behind the front for the text and the line end, and behind the text for the line end
module _ (v : List ℕ) (ok : Valid v) (few : length v ≤ 1024) {l l₁ : List ℕ} {x : ℕ} (room : 10624 ≤ length l) (F : Wrote (front_of v) 0 l l₁ x) where
  pub text_room : x + 6057 ≤ length l₁
  text_room = omega (arith, F.end, wrote_same F, front_at_most v ok few)

  pub end_room : {l₂ : List ℕ} {y : ℕ} → Wrote (text_of (tree_of v)) x l₁ l₂ y → y < length l₂
  end_room T = omega (arith, text_room, T.end, wrote_same T, text_at_most v ok few)
