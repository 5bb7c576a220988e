-- A text read whole: a node, the sign at its end, and nothing behind it. Main results: begin_start, node_end, text_broken, text_longer, text_took.
use Rattle.std.specs.Prelude.{◌≡◌, ℕ, ◌+◌, ◌-◌, ◌≤◌, ◌<◌, length, get_or, drop}
use Rattle.std.proofs.Math.Path.{ap, sym, subst}
use Rattle.std.proofs.Common.{ap₂, ◌∙◌, inl, inr, arith, length-drop, drop_of_length-le}
use mathlib.Core.List.{List, [], ◌∷◌, ◌++◌}
use Rattle.std.proofs.Math.ListN.{get_or-eq_default}
use Rattle.rules.specs.Newick.{levels, Text, text, Node, BreaksAt}
use Rattle.grammar.specs.Reading.{broken, seq, and_then, nothing, node_read, text_read}
use Rattle.grammar.specs.Sound.{Reads, Outcome}
use Rattle.grammar.proofs.Sound.{sound_node}
use Rattle.grammar.proofs.Complete.{breaks_at}
use Rattle.text_laws.specs.Cells.{cell, begun, broken_in}
use Rattle.text_laws.proofs.Cells.{begun_cells, broken_cell, break_before}
use Rattle.text_laws.specs.Answers.{Same, MayBegin, Took, Answers, TextTook}
use Rattle.text_laws.proofs.Answers.{answers_place}
use Rattle.text_laws.proofs.Bytes.{place_of_lem, drop_byte, sign_there, sign_missing}
use Rattle.text_laws.specs.Whole.{NodeRead}

place : (s : List ℕ) (k : ℕ) → k ≤ length s → text_read s ≡ broken (drop k s) → BreaksAt Text s k
place s k w e =
    let q : length s - length (drop k s) ≡ k = omega (arith, length-drop k s) in
    subst (BreaksAt Text s) q (breaks_at s (drop k s) e)

-- where nothing is read yet
pub begin_start : {signs s : List ℕ} (m : List ℕ) → Same signs s → length s ≤ 6056 → length m ≡ 2576 → MayBegin signs s 0 (begun m)
begin_start m e h l =
    let c = begun_cells m l in
    record { same = e; short = h; within = omega arith; room = c.0; low = omega (arith, c.1); pairs = omega (arith, c.1); some_depth = omega (arith, c.2); deep = omega (arith, c.2) }

module _ {signs s m m₁ : List ℕ} {x : ℕ} (N : NodeRead signs s m m₁ x) where
  y : MayBegin signs s 0 (begun m)
  y = N.begins

  A : Answers (node_read levels) s 0 (begun m) m₁ x
  A = subst (λ (d : ℕ). Answers (node_read d) s 0 (begun m) m₁ x) (let c = (begun_cells m N.room).2 in omega arith) N.answers

  -- the place where it ends may be looked at
  pub node_end : x < 6144
  node_end = answers_place y.short A

  -- no sign at the end
  pub text_broken : {m' : List ℕ} → (get_or signs x 0 ≡ 59 → ⊥) → m' ≡ broken_in x m₁ → BreaksAt Text s (cell m' 12)
  unfolding text_read seq and_then
  text_broken {m'} h q = go A
    where
      go : Answers (node_read levels) s 0 (begun m) m₁ x → BreaksAt Text s (cell m' 12)
      go (inl t) =
          let c : cell m' 12 ≡ x = ap (λ (l : List ℕ). cell l 12) q ∙ broken_cell m₁ x t.room (omega (arith, t.within, y.short)) in
          subst (BreaksAt Text s) (sym c) (place s x t.within (rw (t.reads, sign_missing 59 t.tree s x (λ e. h (y.same x ∙ e)))))
      go (inr b) =
          let c : cell m' 12 ≡ cell m₁ 12 = ap (λ (l : List ℕ). cell l 12) (q ∙ sym (break_before m₁ x b.off)) in
          subst (BreaksAt Text s) (sym c) (place s (cell m₁ 12) b.within (rw b.breaks))

  pub broken_small : {m' : List ℕ} → m' ≡ broken_in x m₁ → cell m' 12 ≤ 6056
  broken_small {m'} q = go A
    where
      go : Answers (node_read levels) s 0 (begun m) m₁ x → cell m' 12 ≤ 6056
      go (inl t) = omega (arith, ap (λ (l : List ℕ). cell l 12) q ∙ broken_cell m₁ x t.room (omega (arith, t.within, y.short)), t.within, y.short)
      go (inr b) = omega (arith, ap (λ (l : List ℕ). cell l 12) (q ∙ sym (break_before m₁ x b.off)), b.within, y.short)

  module _ (end' : get_or signs x 0 ≡ 59) where
    took : Took (node_read levels) s 0 (begun m) m₁ x
    took = go A
      where
        go : Answers (node_read levels) s 0 (begun m) m₁ x → Took (node_read levels) s 0 (begun m) m₁ x
        go (inl t) = t
        go (inr b) = absurd (let z : get_or signs x 0 ≡ 0 = y.same x ∙ get_or-eq_default s 0 (omega (arith, b.off, y.short)) in omega arith)

    end : get_or s x 0 ≡ 59
    end = sym (y.same x) ∙ end'

    pub end_place : (x < length s) × (length m₁ ≡ 2576) × (16384 ≤ cell m₁ 4) × (cell m₁ 4 ≤ 17900)
    end_place =
        let t = took in
        let c = begun_cells m N.room in
        (place_of_lem s x 59 (omega arith) end, t.room, omega (arith, t.next, c.1), omega (arith, t.next, c.1, t.ahead, t.within, y.short))

    -- something behind it
    pub text_longer : x + 1 < length s → BreaksAt Text s (x + 1)
    unfolding text_read seq and_then nothing
    text_longer w = place s (x + 1) (omega arith) (rw (took.reads, sign_there 59 took.tree s x (omega arith) end, drop_byte s (x + 1) w))

    -- nothing behind it
    pub text_took : {n : ℕ} → length s ≤ x + 1 → n ≡ cell m₁ 4 - 16384 + 1 → TextTook s m m₁ n
    text_took {n} w e = go (subst (Outcome (node_read levels) (Node levels) s) took.reads (sound_node levels s))
      where
        rest : drop x s ≡ 59 ∷ []
        rest = drop_byte s x end_place.0 ∙ ap₂ ◌∷◌ end (drop_of_length-le s w)

        go : Reads (node_read levels) (Node levels) s (drop x s) took.tree → TextTook s m m₁ n
        go h =
            let S : s ≡ h.bytes ++ (59 ∷ []) = h.split ∙ ap (λ (r : List ℕ). h.bytes ++ r) rest in
            record {
              tree = took.tree;
              reads_as = subst (λ (r : List ℕ). Text r took.tree) (sym S) (text h.good);
              leaves = omega (arith, took.next, (begun_cells m N.room).1);
              there = took.there;
            }
