-- Demand 1 for any call: what follows once it is known when the call refuses. One proof for all calls. Main results: refused_exactly, room_exactly,
-- done_exactly, one_refusal, refusal_writes_nothing, every_input_answered, promise_unique; done_made, done_written; lawful_made.
use Rattle.std.specs.Prelude.{Bool, true, false, ◌⊎◌, ◌↔◌, ◌≡◌, ℕ, ◌≤◌, ◌<◌, leb}
use Rattle.std.proofs.Common.{inl, inr, ap₂, ◌∙◌, subst, arith}
use Rattle.std.proofs.Math.Path.{refl, sym, ap}
use borrow.Author.Tests.{leb-true, leb-false, le-leb, lt-leb}
use Rattle.rules.specs.declared.Kind.TheVariants.{Room}
use Rattle.rules.specs.declared.Answer.{Answer}
use Rattle.rules.specs.declared.Answer.TheVariants.{Done, Refused}
use Rattle.rules.specs.Answer.{done, refused, number_of, reads, Making, made, refuses}
use Rattle.rules.specs.Promise.{Buffers, Call, makes, answers, holds, Keeps}
use Rattle.accepting.proofs.Answers.{done_same, done_not_refused, made_not_refuses, reads_unique}
use Rattle.demands.specs.Law.{Accepted, Settled, Lawful}

-- a call whose input fixes what it makes by a definition
pub lawful_made : {L W : Type 0} (B : Buffers L W) (m : Making W) (Wrong : ℕ → ℕ → Type 0) (wanted : ℕ) → Settled B.count 3 Wrong wanted m
    → Lawful (makes B m) Wrong wanted
unfolding number_of
lawful_made B m Wrong wanted S = record {
  total = (m, refl);
  only = λ x y a b. sym a ∙ b;
  settled = λ x e. rw (← e) S;
  room_kind = (Room, refl);
}

room_cases : (k room : ℕ) → (k ≤ room) ⊎ (room < k)
room_cases k room = go (leb k room) refl
  where
    go : (b : Bool) → leb k room ≡ b → (k ≤ room) ⊎ (room < k)
    go true q = inl (leb-true k room q)
    go false q = inr (leb-false k room q)

refused_same : {k p l q : ℕ} → refused k p ≡ refused l q → (k ≡ l) × (p ≡ q)
refused_same e = (cc, cc)

module _ {L W : Type 0} (c : Call L W) (Wrong : ℕ → ℕ → Type 0) (wanted : ℕ) (T : Lawful c Wrong wanted) where
  -- the refusal for room, last
  abbrev pub Short : L → ℕ → ℕ → Type 0
  Short old k p = (k ≡ c.short) × (p ≡ wanted) × (c.buffers.room old < wanted) × Accepted Wrong

  -- when a call refuses with a number and a place
  abbrev pub RefusedWith : L → ℕ → ℕ → Type 0
  RefusedWith old k p = Wrong k p ⊎ Short old k p

  -- an answer and the buffers after it keep the promise, and no others do
  pub record OneAnswer (old : L) : Type 0 where
    pub the_answer : Answer
    pub the_buffers : L
    pub promised : Keeps c old the_answer the_buffers
    pub only : (a : Answer) (new : L) → Keeps c old a new → (a ≡ the_answer) × (new ≡ the_buffers)

  -- where something is made, nothing is wrong
  pub made_accepted : (m : Making W) → c.Makes m → (x : W) → m ≡ made x → Accepted Wrong
  made_accepted m M x e k p r = made_not_refuses (sym e ∙ (T.settled m M).given k p r)

  module _ (m : Making W) (M : c.Makes m) (old : L) where
    enough : (x : W) → m ≡ made x → c.buffers.count x ≤ c.buffers.room old → answers c m old ≡ done (c.buffers.count x)
    unfolding answers
    enough x e h = rw (e, le-leb (c.buffers.count x) (c.buffers.room old) h)

    lacking : (x : W) → m ≡ made x → c.buffers.room old < c.buffers.count x → answers c m old ≡ refused c.short (c.buffers.count x)
    unfolding answers
    lacking x e h = rw (e, lt-leb (c.buffers.count x) (c.buffers.room old) h)

    early : (k p : ℕ) → Wrong k p → answers c m old ≡ refused k p
    unfolding answers
    early k p r = rw ((T.settled m M).given k p r)

    -- a refusal is given, or the call is done, and which it is is fixed
    pub data Ends : Type 0 where
      wrong : (k p : ℕ) → Wrong k p → answers c m old ≡ refused k p → Ends
      short : Accepted Wrong → c.buffers.room old < wanted → answers c m old ≡ refused c.short wanted → Ends
      full : Accepted Wrong → wanted ≤ c.buffers.room old → answers c m old ≡ done wanted → Ends

    ends : Ends
    ends = go (T.settled m M).total
      where
        go : ((k : ℕ) × (p : ℕ) × Wrong k p) ⊎ ((x : W) × (m ≡ made x) × (c.buffers.count x ≡ wanted)) → Ends
        go (inl r) = wrong r.0 r.1 r.2 (early r.0 r.1 r.2)
        go (inr y) = at (room_cases (c.buffers.count y.0) (c.buffers.room old))
          where
            at : (c.buffers.count y.0 ≤ c.buffers.room old) ⊎ (c.buffers.room old < c.buffers.count y.0) → Ends
            at (inl h) = full (made_accepted m M y.0 y.1) (rw (← y.2) h) (enough y.0 y.1 h ∙ ap done y.2)
            at (inr h) = short (made_accepted m M y.0 y.1) (rw (← y.2) h) (lacking y.0 y.1 h ∙ ap (refused c.short) y.2)

  -- "a refusal carries its number and place from the table": it is given exactly when its condition holds
  pub refused_exactly : (old : L) (a : Answer) (new : L) → Keeps c old a new → (k p : ℕ) → (reads a ≡ refused k p) ↔ RefusedWith old k p
  refused_exactly old a new P k p = (λ e. go (sym P.answered ∙ e) E, λ g. P.answered ∙ back g E)
    where
      E : Ends P.what P.made_so old
      E = ends P.what P.made_so old

      go : answers c P.what old ≡ refused k p → Ends P.what P.made_so old → RefusedWith old k p
      go e (wrong l q r f) =
          let s = refused_same (sym f ∙ e) in
          inl (subst (λ (x : ℕ). Wrong x p) s.0 (subst (Wrong l) s.1 r))
      go e (short n h f) = let s = refused_same (sym f ∙ e) in inr (sym s.0, sym s.1, h, n)
      go e (full n h f) = absurd (done_not_refused _ _ _ (sym f ∙ e))

      back : RefusedWith old k p → Ends P.what P.made_so old → answers c P.what old ≡ refused k p
      back (inl r) x = early P.what P.made_so old k p r
      back (inr h) (wrong l q r f) = absurd (h.3 l q r)
      back (inr h) (short n l f) = f ∙ ap₂ refused (sym h.0) (sym h.1)
      back (inr h) (full n l f) = let z = h.2 in absurd (omega arith)

  -- a call is done exactly when nothing is wrong with its input and there is room, and it says how many elements it wrote
  pub done_exactly : (old : L) (a : Answer) (new : L) → Keeps c old a new → (k : ℕ)
      → (reads a ≡ done k) ↔ (Accepted Wrong × (k ≡ wanted) × (wanted ≤ c.buffers.room old))
  done_exactly old a new P k = (λ e. go (sym P.answered ∙ e) E, λ g. P.answered ∙ back g E)
    where
      E : Ends P.what P.made_so old
      E = ends P.what P.made_so old

      go : answers c P.what old ≡ done k → Ends P.what P.made_so old → Accepted Wrong × (k ≡ wanted) × (wanted ≤ c.buffers.room old)
      go e (wrong l q r f) = absurd (done_not_refused _ _ _ (sym e ∙ f))
      go e (short n h f) = absurd (done_not_refused _ _ _ (sym e ∙ f))
      go e (full n h f) = (n, done_same (sym e ∙ f), h)

      back : Accepted Wrong × (k ≡ wanted) × (wanted ≤ c.buffers.room old) → Ends P.what P.made_so old → answers c P.what old ≡ done k
      back g (wrong l q r f) = absurd (g.0 l q r)
      back g (short n h f) = let z = g.2 in absurd (omega arith)
      back g (full n h f) = f ∙ ap done (sym g.1)

  -- the refusal for room is given exactly when nothing is wrong with the input and an output has too few elements
  pub room_exactly : (old : L) (a : Answer) (new : L) → Keeps c old a new → (p : ℕ)
      → (reads a ≡ refused c.short p) ↔ ((p ≡ wanted) × (c.buffers.room old < wanted) × Accepted Wrong)
  room_exactly old a new P p = let e = refused_exactly old a new P c.short p in (λ r. go (e.0 r), λ g. e.1 (inr (refl, g.0, g.1, g.2)))
    where
      go : RefusedWith old c.short p → (p ≡ wanted) × (c.buffers.room old < wanted) × Accepted Wrong
      go (inl r) = absurd (((T.settled P.what P.made_so).of_input c.short p r).2 refl)
      go (inr g) = (g.1, g.2, g.3)

  -- of the conditions of a call's refusals one holds at most, with one place: 01's order is settled
  pub one_refusal : (k p l q : ℕ) → Wrong k p → Wrong l q → (k ≡ l) × (p ≡ q)
  one_refusal k p l q a b =
      let S = T.settled T.total.0 T.total.1 in
      let e : ◌≡◌ {A = Making W} (refuses k p) (refuses l q) = sym (S.given k p a) ∙ S.given l q b in
      (cc, cc)

  -- "every lent buffer then holds what it held"
  pub refusal_writes_nothing : (old : L) (a : Answer) (new : L) → Keeps c old a new → (k p : ℕ) → reads a ≡ refused k p → new ≡ old
  unfolding answers holds
  refusal_writes_nothing old a new P k p e = P.held ∙ go P.what (sym P.answered ∙ e)
    where
      go : (m : Making W) → answers c m old ≡ refused k p → holds c m old ≡ old
      go (refuses l q) e = refl
      go (made x) e = at (room_cases (c.buffers.count x) (c.buffers.room old))
        where
          at : (c.buffers.count x ≤ c.buffers.room old) ⊎ (c.buffers.room old < c.buffers.count x) → holds c (made x) old ≡ old
          at (inl h) =
              let t = le-leb (c.buffers.count x) (c.buffers.room old) h in absurd (done_not_refused _ _ _ (rw t at e))
          at (inr h) = rw (lt-leb (c.buffers.count x) (c.buffers.room old) h)

  -- "Every input gets a finished answer": one answer, and one thing that the buffers then hold
  pub every_input_answered : (old : L) → OneAnswer old
  unfolding reads
  every_input_answered old =
      let m = T.total.0 in
      let M = T.total.1 in
      let a = answer_for (ends m M old) in
      record {
        the_answer = a.0;
        the_buffers = holds c m old;
        promised = record { what = m; made_so = M; answered = a.1; held = refl };
        only = λ x new P.
            let e = T.only P.what m P.made_so M in
            (reads_unique x a.0 (P.answered ∙ ap (λ (y : Making W). answers c y old) e ∙ sym a.1), P.held ∙ ap (λ (y : Making W). holds c y old) e);
      }
    where
      answer_for : Ends T.total.0 T.total.1 old → (a : Answer) × (reads a ≡ answers c T.total.0 old)
      answer_for (wrong k p r f) =
          let o = (T.settled T.total.0 T.total.1).of_input k p r in
          (Refused (record { kind = o.0; place = p }), ap (λ (x : ℕ). refused x p) o.1 ∙ sym f)
      answer_for (short n h f) =
          let o = T.room_kind in (Refused (record { kind = o.0; place = wanted }), ap (λ (x : ℕ). refused x wanted) o.1 ∙ sym f)
      answer_for (full n h f) = (Done wanted, sym f)

  -- "That two results satisfying it are equal is itself proved"
  pub promise_unique : (old : L) (a b : Answer) (new new' : L) → Keeps c old a new → Keeps c old b new' → (a ≡ b) × (new ≡ new')
  promise_unique old a b new new' P Q =
      let E = every_input_answered old in
      let x = E.only a new P in
      let y = E.only b new' Q in
      (x.0 ∙ sym y.0, x.1 ∙ sym y.1)

  -- where there is room for what is made, the call is done and it stands in the buffers
  pub done_written : (x : W) → c.Makes (made x) → (old : L) (a : Answer) (new : L) → Keeps c old a new → c.buffers.count x ≤ c.buffers.room old
      → (reads a ≡ done (c.buffers.count x)) × (new ≡ c.buffers.write x old)
  unfolding answers holds
  done_written x h old a new P l =
      let e = T.only P.what (made x) P.made_so h in
      let t = le-leb (c.buffers.count x) (c.buffers.room old) l in
      (P.answered ∙ rw (e, t), P.held ∙ rw (e, t))

  -- where the call is done, something is made, it stands in the buffers, and the answer counts its elements
  pub done_made : (old : L) (a : Answer) (new : L) → Keeps c old a new → (k : ℕ) → reads a ≡ done k
      → (x : W) × c.Makes (made x) × (new ≡ c.buffers.write x old) × (k ≡ c.buffers.count x)
  unfolding answers holds
  done_made old a new P k e = go P.what P.made_so (sym P.answered ∙ e) P.held
    where
      go : (m : Making W) → c.Makes m → answers c m old ≡ done k → new ≡ holds c m old
          → (x : W) × c.Makes (made x) × (new ≡ c.buffers.write x old) × (k ≡ c.buffers.count x)
      go (refuses l q) M e h = absurd (done_not_refused _ _ _ (sym e))
      go (made x) M e h = at (room_cases (c.buffers.count x) (c.buffers.room old))
        where
          at : (c.buffers.count x ≤ c.buffers.room old) ⊎ (c.buffers.room old < c.buffers.count x)
              → (y : W) × c.Makes (made y) × (new ≡ c.buffers.write y old) × (k ≡ c.buffers.count y)
          at (inl l) = let t = le-leb (c.buffers.count x) (c.buffers.room old) l in (x, M, rw t at h, sym (done_same (rw t at e)))
          at (inr l) = absurd (done_not_refused _ _ _ (sym (rw (lt-leb (c.buffers.count x) (c.buffers.room old) l) at e)))
