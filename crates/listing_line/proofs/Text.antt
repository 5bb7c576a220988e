-- The text of a vector, written into the part of a buffer that starts at a place. There is room for it, so to_newick is done.
-- Main results: text_not_refused, text_count, text_written.
use mathlib.Core.List.{List, [], ◌++◌, append_assoc, append-nil}
use mathlib.Core.Path.{◌≡◌, sym, ap, ap₂, ◌∙◌}
use Prim.Native.Nat.{ℕ, ◌+◌, ◌-◌, ◌≤◌}
use native.Mathlib.Omega.{arith}
use lib.ListN.{length, take, drop, length-drop}
use lib.Seq.{sets-eq, take_all, drop-drop, drop-length}
use borrow.Author.Tests.{le-leb}
use Rattle.rules.specs.declared.Refusal.{Refusal}
use Rattle.rules.specs.declared.Answer.{Answer}
use Rattle.rules.specs.declared.Answer.TheVariants.{Done, Refused}
use Rattle.rules.specs.Vector.{Valid}
use Rattle.rules.specs.Tree.{tree_of}
use Rattle.rules.specs.Newick.{text_of}
use Rattle.rules.specs.Answer.{done, reads, made}
use Rattle.rules.specs.Promise.{list, answers, holds, Keeps}
use Rattle.rules.specs.CallToNewick.{to_text, to_newick_call}
use Rattle.accepting.proofs.Answers.{done_same, done_not_refused}
use Rattle.accepting.proofs.FromVector.{within_bounds}
use Rattle.accepting.proofs.Kept.{said}
use Rattle.basics.proofs.Fault.{valid_no_fault}
use Rattle.digits.specs.Wrote.{Wrote}
use Rattle.listing_line.specs.Longest.{text_at_most}

-- the part of a list from a place on
abbrev part : List ℕ → ℕ → List ℕ
part xs at = take (length xs - at) (drop at xs)

part_all : (xs : List ℕ) (at : ℕ) → part xs at ≡ drop at xs
part_all xs at = take_all (length xs - at) (drop at xs) (omega (arith, length-drop at xs))

abbrev text : List ℕ → List ℕ
text v = text_of (tree_of v)

module _ (v : List ℕ) (ok : Valid v) (few : length v ≤ 1024) (xs : List ℕ) (at : ℕ) {ys : List ℕ} {a : Answer} (room : at + 6056 ≤ length xs) (kept : Keeps (to_newick_call v) (part xs at) a ys) where
  text_done : (reads a ≡ done (length (text v))) × (ys ≡ text v ++ drop (length (text v)) (part xs at))
  unfolding answers holds to_text
  text_done =
      let makes = within_bounds v (made (text v)) ok.some_leaf few (valid_no_fault v ok) in
      let same : length (part xs at) ≡ length xs - at = ap length (part_all xs at) ∙ length-drop at xs in
      let fits = le-leb (length (text v)) (length (part xs at)) (omega (arith, text_at_most v ok few)) in
      let K = said list (to_text v) kept in
      (K.0 ∙ rw (makes, fits), K.1 ∙ rw (makes, fits))

  pub text_not_refused : {why : Refusal} → a ≡ Refused why → ⊥
  unfolding reads
  text_not_refused e = done_not_refused (length (text v)) _ _ (sym text_done.0 ∙ ap reads e)

  pub text_count : {k : ℕ} → a ≡ Done k → k ≡ length (text v)
  unfolding reads
  text_count e = done_same (ap reads (sym e) ∙ text_done.0)

  -- the part that starts at a place comes back with the text
  pub text_written : {k : ℕ} → a ≡ Done k → Wrote (text v) at xs (take at xs ++ (ys ++ drop (length xs - at) (drop at xs))) (at + k)
  text_written e =
      let rest : drop (length xs - at) (drop at xs) ≡ [] = ap (λ (n : ℕ). drop n (drop at xs)) (sym (length-drop at xs)) ∙ drop-length (drop at xs) in
      let behind : ys ≡ text v ++ drop (at + length (text v)) xs =
      text_done.1 ∙ ap (λ (p : List ℕ). text v ++ drop (length (text v)) p) (part_all xs at) ∙ ap (λ (r : List ℕ). text v ++ r) (drop-drop (length (text v)) at xs) in
      let joined = ap₂ (λ (l r : List ℕ). l ++ r) behind rest ∙ append-nil (text v ++ drop (at + length (text v)) xs) in
      let fits : at + length (text v) ≤ length xs = omega (arith, text_at_most v ok few) in
      record {
        end = ap (λ (n : ℕ). at + n) (text_count e);
        bytes_there =
            ap (λ (r : List ℕ). take at xs ++ r) joined
            ∙ sym (sets-eq (text v) xs at fits ∙ append_assoc (take at xs) (text v) (drop (at + length (text v)) xs));
      }
