-- The vector with commas: one entry more, and at most five bytes an entry.
-- Main results: commaed_more, commaed_at_most.
use Rattle.std.specs.Prelude.{List, [], ◌∷◌, ◌++◌, ◌≡◌, refl, ℕ, ◌*◌, ◌≤◌, length}
use Rattle.std.proofs.Common.{append_assoc, sym, ap, ◌∙◌, arith, length-append}
use Rattle.rules.specs.Newick.{digits}
use Rattle.rules.specs.Listing.{commaed}
use Rattle.digits.specs.Count.{digits_at_most}

-- an entry more stands behind a comma
pub commaed_more : (v : List ℕ) (x : ℕ) → 1 ≤ length v → commaed (v ++ (x ∷ [])) ≡ commaed v ++ (44 ∷ digits 4 x)
unfolding commaed
commaed_more [] x h = absurd (omega arith)
commaed_more (a ∷ []) x h = refl
commaed_more (a ∷ b ∷ v) x h =
    ap (λ (w : List ℕ). digits 4 a ++ (44 ∷ w)) (commaed_more (b ∷ v) x (omega arith))
    ∙ sym (append_assoc (digits 4 a) (44 ∷ commaed (b ∷ v)) (44 ∷ digits 4 x))

pub commaed_at_most : (v : List ℕ) → length (commaed v) ≤ 5 * length v
unfolding commaed
commaed_at_most [] = omega arith
commaed_at_most (x ∷ []) = omega (arith, digits_at_most 4 x)
commaed_at_most (x ∷ y ∷ v) = omega (arith, digits_at_most 4 x, commaed_at_most (y ∷ v), length-append (digits 4 x) (44 ∷ commaed (y ∷ v)))
