-- How long a line is at most.
-- Main results: text_at_most, front_at_most, line_at_most, line_fits.
use Rattle.std.specs.Prelude.{List, [], ◌∷◌, ◌++◌, ℕ, ◌≤◌, length}
use Rattle.std.proofs.Common.{ap, ◌∙◌}
use native.Mathlib.Omega.{arith}
use Rattle.std.proofs.Math.ListN.{length-append}
use Rattle.std.proofs.Math.Seq.{length-sets}
use Rattle.rules.specs.Vector.{Valid}
use Rattle.rules.specs.Tree.{tree_of}
use Rattle.rules.specs.Newick.{digits, text_of}
use Rattle.rules.specs.Listing.{commaed, line_of}
use Rattle.laws.proofs.TreeOf.{tree_leaves}
use Rattle.grammar.proofs.Length.{text_length_lem, text_length_most}
use Rattle.digits.specs.Wrote.{Wrote}
use Rattle.digits.specs.Count.{digits_at_most}
use Rattle.listing_front.specs.Front.{front_of}
use Rattle.listing_line.specs.Parts.{line_parts}
use Rattle.listing_line.specs.Commas.{commaed_longest}

module _ (v : List ℕ) (ok : Valid v) (few : length v ≤ 1024) where
  pub text_at_most : length (text_of (tree_of v)) ≤ 6056
  text_at_most = omega (arith, text_length_lem (length v) (tree_of v) (tree_leaves v ok), text_length_most (length v) few)

  -- four digits, the entries, and a space behind each
  pub front_at_most : length (front_of v) ≤ 4567
  unfolding front_of
  front_at_most =
      omega (
        arith,
        length-append (digits 4 (length v)) (32 ∷ commaed v ++ (32 ∷ [])),
        length-append (commaed v) (32 ∷ []),
        digits_at_most 4 (length v),
        commaed_longest v ok few,
      )

  pub line_at_most : length (line_of v) ≤ 10624
  line_at_most =
      omega (
        arith,
        ap length (line_parts v),
        length-append (front_of v ++ text_of (tree_of v)) (10 ∷ []),
        length-append (front_of v) (text_of (tree_of v)),
        front_at_most,
        text_at_most,
      )

  -- what is written lies within the buffer
  pub line_fits : {old new : List ℕ} {r : ℕ} → 10624 ≤ length old → Wrote (line_of v) 0 old new r → r ≤ length new
  line_fits {old} room W = omega (arith, W.end, ap length W.bytes_there ∙ length-sets old 0 (line_of v), line_at_most)
