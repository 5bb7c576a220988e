-- CR 1: "The answer about tree r depends on the header, the archive's length, r, the output's length and record r's bytes only." Two archives that
-- are alike in these (archive_laws, Local.Alike) give the same answer and the same elements, whatever the rest of them and the output held. Main
-- results: answer_depends, part_depends, view_depends.
use Rattle.std.specs.Prelude.{Bool, cond, List, [], ◌++◌, ◌⊎◌, ◌≡◌, leb, length, drop}
use Rattle.std.proofs.Math.Bool.{true, false}
use Rattle.std.proofs.Common.{true≢false, inl, inr, ◌∙◌, arith}
use Rattle.std.proofs.Math.Path.{refl, sym, ap}
use Prim.Native.Nat.{ℕ}
use Rattle.rules.specs.declared.Answer.{Answer}
use Rattle.rules.specs.Answer.{Outcome, done, refused, reads, Made, made, refuses}
use Rattle.rules.specs.Promise.{Keeps, makes, list, answers, holds, over}
use Rattle.rules.specs.Archive.{implied_length}
use Rattle.rules.specs.CallReadTree.{read_tree}
use Rattle.rules.specs.CallView.{part_of, view}
use Rattle.accepting.proofs.Answers.{reads_unique}
use Rattle.archive_laws.specs.Local.{Alike}
use Rattle.archive_laws.proofs.Local.{read_local, part_local}
use Rattle.demands.specs.Calls.{reads_tree}
use Rattle.demands.proofs.Keeping.{Kept}
use Rattle.demands.specs.View.{PartIsRecord, PartIsEmpty}
use Rattle.demands.proofs.View.{record_or_empty}
use Rattle.demands.specs.Depends.{Counts, all_written, none_written, SameReading}

-- of two calls that make the same, with outputs of one length
module _ (m : Made) (old old' : List ℕ) (same : length old ≡ length old') where
  fits : (x : List ℕ) → leb (length x) (length old') ≡ leb (length x) (length old)
  fits x = ap (leb (length x)) (sym same)

  same_outcome : answers (makes list m) m old ≡ answers (makes list m) m old'
  unfolding answers
  same_outcome = go m
    where
      go : (o : Made) → answers (makes list m) o old ≡ answers (makes list m) o old'
      go (refuses k p) = refl
      go (made x) = rw (fits x) refl

  abbrev Stood : Outcome → List ℕ → List ℕ → Type 0
  Stood o new new' = (x : List ℕ) × Counts x o × (new ≡ x ++ drop (length x) old) × (new' ≡ x ++ drop (length x) old')

  same_elements : (o : Made) → Stood (answers (makes list m) o old) (holds (makes list m) o old) (holds (makes list m) o old')
  unfolding answers holds
  same_elements (refuses k p) = ([], none_written refl, refl, refl)
  same_elements (made x) = go (leb (length x) (length old)) (leb (length x) (length old')) (fits x)
    where
      go : (b c : Bool) → c ≡ b
          → Stood (cond b (done (length x)) (refused 3 (length x))) (cond b (over x old) old) (cond c (over x old') old')
      go true true e = (x, all_written, refl, refl)
      go false false e = ([], none_written refl, refl, refl)
      go true false e = absurd (true≢false (sym e))
      go false true e = absurd (true≢false e)

  same_reading : (a b : Answer) (new new' : List ℕ) → Keeps (makes list m) old a new → Keeps (makes list m) old' b new' → SameReading a b old new old' new'
  same_reading a b new new' P Q =
      let p : reads a ≡ answers (makes list m) m old = P.answered ∙ ap (λ (o : Made). answers (makes list m) o old) (sym P.made_so) in
      let q : reads b ≡ answers (makes list m) m old' = Q.answered ∙ ap (λ (o : Made). answers (makes list m) o old') (sym Q.made_so) in
      let E = same_elements m in
      record {
        same_answer = reads_unique a b (p ∙ same_outcome ∙ sym q);
        written = E.0;
        counted = rw p E.1;
        first = P.held ∙ ap (λ (o : Made). holds (makes list m) o old) (sym P.made_so) ∙ E.2;
        second = Q.held ∙ ap (λ (o : Made). holds (makes list m) o old') (sym Q.made_so) ∙ E.3;
      }

module _ (s t : List ℕ) (r : ℕ) (A : Alike s t r) where
  -- the reader's answer and output
  pub answer_depends : (old old' : List ℕ) (a b : Answer) (new new' : List ℕ) → length old ≡ length old'
      → Kept (reads_tree s r) old a new → Kept (reads_tree t r) old' b new' → SameReading a b old new old' new'
  answer_depends old old' a b new new' l P Q = same_reading (read_tree s r) old old' l a b new new' P (rw (read_local s t r A) Q)

  -- the view is the same part, and the same bytes
  pub part_depends : part_of s r ≡ part_of t r
  part_depends = part_local s t r A

  pub view_depends : view s r ≡ view t r
  unfolding implied_length
  view_depends = go (record_or_empty s r) (record_or_empty t r)
    where
      go : PartIsRecord s r ⊎ PartIsEmpty s r → PartIsRecord t r ⊎ PartIsEmpty t r → view s r ≡ view t r
      go (inl P) (inl Q) = P.bytes ∙ A.same_record ∙ sym Q.bytes
      go (inr P) (inr Q) = P.bytes ∙ sym Q.bytes
      go (inl P) (inr Q) = absurd (omega (arith, ap (λ (p : ℕ × ℕ). p.0) (sym P.place ∙ part_depends ∙ Q.place)))
      go (inr P) (inl Q) = absurd (omega (arith, ap (λ (p : ℕ × ℕ). p.0) (sym Q.place ∙ sym part_depends ∙ P.place)))
