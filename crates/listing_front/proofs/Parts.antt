-- The parts of a line's front, one behind another.
-- Main results: front_written, entries_room, space_room.
use mathlib.Core.List.{List}
use mathlib.Core.Path.{sym, subst}
use Prim.Native.Nat.{ℕ, ◌+◌, ◌*◌, ◌≤◌, ◌<◌}
use native.Mathlib.Omega.{arith}
use lib.ListN.{length, set, length-set}
use Rattle.rules.specs.Newick.{digits}
use Rattle.rules.specs.Listing.{commaed}
use Rattle.digits.specs.Count.{digits_at_most}
use Rattle.digits.specs.Wrote.{Wrote, wrote_same, wrote_behind, wrote_one}
use Rattle.listing_front.specs.Front.{front_of, front_parts}
use Rattle.listing_front.specs.Commas.{commaed_at_most}

pub front_written : (v : List ℕ) {l l₁ l₂ : List ℕ} {x y : ℕ} → Wrote (digits 4 (length v)) 0 l l₁ x → Wrote (commaed v) (x + 1) (set l₁ x 32) l₂ y
    → Wrote (front_of v) 0 l (set l₂ y 32) (y + 1)
front_written v {l} {l₁} {l₂} {x} {y} a b =
    subst (λ (u : List ℕ). Wrote u 0 l (set l₂ y 32) (y + 1)) (sym (front_parts v)) (wrote_one (wrote_behind a 32 b) 32)

-- room behind n for the entries and two spaces, and behind the entries for the second one
module _ (v : List ℕ) {l l₁ : List ℕ} {x : ℕ} (room : 6 + 5 * length v ≤ length l) (N : Wrote (digits 4 (length v)) 0 l l₁ x) where
  pub entries_room : x + 2 + 5 * length v ≤ length l₁
  entries_room = omega (arith, N.end, wrote_same N, digits_at_most 4 (length v))

  pub space_room : {l₂ : List ℕ} {y : ℕ} → Wrote (commaed v) (x + 1) (set l₁ x 32) l₂ y → (y < length l) × (y < length l₂)
  space_room {l₂} {y} E =
      let here : y < length l = omega (arith, N.end, E.end, digits_at_most 4 (length v), commaed_at_most v) in
      (here, omega (arith, wrote_same N, wrote_same E, length-set l₁ x 32))
