-- The line that the listing program writes, by what unpacking a record's bytes answers: that of the vector, or the refusal. Main results:
-- vector_first, answer_line_lem.
use Rattle.std.specs.Prelude.{true, List, ◌++◌, ◌≡◌, refl, ℕ, ◌≤◌, leb, take}
use Rattle.std.proofs.Math.Path.{sym, ap, subst}
use Rattle.std.proofs.Common.{◌∙◌, arith, le-leb}
use Rattle.std.proofs.Math.ListN.{length, drop, length-append}
use Rattle.std.proofs.Math.Seq.{take_at}
use Rattle.rules.specs.declared.Answer.{Answer}
use Rattle.rules.specs.declared.Answer.TheVariants.{Done}
use Rattle.rules.specs.Answer.{done, reads, Made, made, refuses}
use Rattle.rules.specs.Promise.{answers, holds, Keeps}
use Rattle.rules.specs.CallUnpack.{unpack, unpack_call}
use Rattle.rules.specs.Listing.{line_of, then, line_for}
use Rattle.accepting.proofs.Answers.{done_same, done_not_refused}
use Rattle.rules.specs.Vector.{Vector}
use Rattle.record_laws.proofs.FromRecord.{unpacked_vector}
use Rattle.holding.specs.AnswerLine.{VectorFirst, answer_line}

-- an answer that keeps unpack's promise, with room for every vector
module _ (s : List ℕ) {old vector : List ℕ} {a : Answer} (enough : 1024 ≤ length old) (kept : Keeps (unpack_call s) old a vector) where
  fits : {v : List ℕ} → unpack s ≡ made v → leb (length v) (length old) ≡ true
  fits {v} q = le-leb (length v) (length old) (omega (arith, (unpacked_vector s v q).few))

  -- where v is made it stands at the front
  front : {v : List ℕ} → unpack s ≡ made v → vector ≡ holds (unpack_call s) (made v) old → {n : ℕ} → n ≡ length v
      → (take n vector ≡ v) × (n ≤ length vector)
  unfolding holds
  front {v} q h {n} k =
      let l : vector ≡ v ++ drop (length v) old = h ∙ rw (fits q) in
      (ap (take n) l ∙ take_at v (drop (length v) old) n (sym k), omega (arith, ap length l, length-append v (drop (length v) old)))

  pub vector_first : {n : ℕ} → a ≡ Done n → VectorFirst vector n
  unfolding answers reads
  vector_first {n} d = go kept.what kept.made_so kept.answered kept.held
    where
      go : (m : Made) → unpack s ≡ m → reads a ≡ answers (unpack_call s) m old → vector ≡ holds (unpack_call s) m old → VectorFirst vector n
      go (refuses number place) q e h = absurd (done_not_refused n number place (ap reads (sym d) ∙ e))
      go (made v) q e h =
          let k : n ≡ length v = done_same (ap reads (sym d) ∙ e ∙ rw (fits q)) in
          let f = front q h k in
          record {
            accepted = subst Vector (sym f.0) (unpacked_vector s v q);
            within = f.1;
            count = k ∙ sym (ap length f.0);
          }

  -- By unpack's promise this is what the rules say of the bytes.
  pub answer_line_lem : answer_line (reads a) vector ≡ line_for s
  unfolding answer_line answers line_for then
  answer_line_lem = go kept.what kept.made_so kept.answered kept.held
    where
      go : (m : Made) → unpack s ≡ m → reads a ≡ answers (unpack_call s) m old → vector ≡ holds (unpack_call s) m old → answer_line (reads a) vector ≡ line_for s
      go (refuses number place) q e h = rw (e, q)
      go (made v) q e h = let o : reads a ≡ done (length v) = e ∙ rw (fits q) in rw (o, q) (ap (λ u. made (line_of u)) (front q h refl).0)
