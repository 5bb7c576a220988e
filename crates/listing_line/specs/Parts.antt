-- The parts of a line.
-- Main results: line_parts.
use Rattle.std.specs.Prelude.{List, [], ◌∷◌, ◌++◌, ◌≡◌, ℕ, length}
use Rattle.std.proofs.Common.{append_assoc, sym, ap, ◌∙◌}
use Rattle.rules.specs.Tree.{tree_of}
use Rattle.rules.specs.Newick.{digits, text_of}
use Rattle.rules.specs.Listing.{commaed, line_of}
use Rattle.listing_front.specs.Front.{front_of}

parts_in_a_row : (a b c : List ℕ) → a ++ (32 ∷ b ++ (32 ∷ c)) ≡ (a ++ (32 ∷ b ++ (32 ∷ []))) ++ c
parts_in_a_row a b c = sym (append_assoc a (32 ∷ b ++ (32 ∷ [])) c ∙ ap (λ (w : List ℕ). a ++ (32 ∷ w)) (append_assoc b (32 ∷ []) c))

-- a line is its front, the text and a line end
pub line_parts : (v : List ℕ) → line_of v ≡ (front_of v ++ text_of (tree_of v)) ++ (10 ∷ [])
unfolding line_of front_of
line_parts v =
    parts_in_a_row (digits 4 (length v)) (commaed v) (text_of (tree_of v) ++ (10 ∷ []))
    ∙ sym (append_assoc (digits 4 (length v) ++ (32 ∷ commaed v ++ (32 ∷ []))) (text_of (tree_of v)) (10 ∷ []))
