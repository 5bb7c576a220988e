-- A line up to its text.
-- Main definitions: front_of. Main results: front_parts.
use Rattle.std.specs.Prelude.{List, [], ◌∷◌, ◌++◌, ◌≡◌, ℕ, length}
use Rattle.std.proofs.Common.{append_assoc, sym}
use Rattle.rules.specs.Newick.{digits}
use Rattle.rules.specs.Listing.{commaed}

-- n, a space, the vector with commas, a space
unfoldable pub front_of : List ℕ → List ℕ
unfolding digits commaed
front_of v = digits 4 (length v) ++ (32 ∷ commaed v ++ (32 ∷ []))

-- what stands before its last space
pub front_parts : (v : List ℕ) → front_of v ≡ (digits 4 (length v) ++ (32 ∷ commaed v)) ++ (32 ∷ [])
unfolding front_of
front_parts v = sym (append_assoc (digits 4 (length v)) (32 ∷ commaed v) (32 ∷ []))
