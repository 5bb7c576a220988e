-- How the answers of the node reader and the pair reader are made of one another. Main results: labelled_zero, took_label, broke_here, broke_deep,
-- begin_first, broke_first, took_first, begin_second, broke_second, closing, took_pair.
use Rattle.std.specs.Prelude.{◌≡◌, refl, false, get_or, drop}
use Rattle.std.proofs.Math.Path.{ap, sym, subst}
use Rattle.std.proofs.Common.{ap₂, ◌∙◌, inl, inr, arith}
use mathlib.Core.List.{List}
use Prim.Native.Nat.{ℕ, zero, suc, ◌+◌, ◌-◌, ◌≤◌, ◌<◌}
use Rattle.std.proofs.Math.ListN.{length, get_or-eq_default}
use Rattle.rules.specs.Newick.{is_digit}
use Rattle.rules.specs.Tree.{Tree, leaf, node}
use Rattle.grammar.specs.Reading.{Reader, read, broken, sign, seq, and_then, node_read, pair_read}
use Rattle.grammar.specs.Pairs.{pair_count}
use Rattle.text_laws.specs.Cells.{cell, leaf_in, opened, pair_in, shut, broken_in, Closing}
use Rattle.text_laws.proofs.Cells.{opened_length, opened_depth, opened_other, shut_length, shut_depth, shut_other, pair_length, pair_cells, pair_other, leaf_length, leaf_last, leaf_other, broken_cell, break_before}
use Rattle.text_laws.specs.Answers.{recorded, MayBegin, Labelled, Took, Broke, Answers}
use Rattle.text_laws.proofs.Answers.{answers_place}
use Rattle.text_laws.proofs.Bytes.{place_of_lem, sign_there, sign_missing, label_zero, label_none, node_label, node_pair, node_deep}
use Rattle.text_laws.specs.Nodes.{FirstRead, SecondRead}

-- where the bytes break off at a place
broke_at : (f : Reader) (s : List ℕ) (at k : ℕ) (m m' : List ℕ) (r : ℕ) → length m ≡ 2576 → length s ≤ 6056 → k ≤ length s → f (drop at s) ≡ broken (drop k s)
    → r ≡ 6143 → m' ≡ broken_in k m → Broke f s at m' r
broke_at f s at k m m' r room short w e p q =
    let c : cell m' 12 ≡ k = ap (λ (l : List ℕ). cell l 12) q ∙ broken_cell m k room (omega arith) in
    record { off = p; within = omega arith; breaks = e ∙ ap (λ (j : ℕ). broken (drop j s)) (sym c) }

module _ {signs s : List ℕ} {at : ℕ} {m : List ℕ} (y : MayBegin signs s at m) where
  pub labelled_zero : {m' : List ℕ} {r : ℕ} → get_or signs at 0 ≡ 48 → (r ≡ at + 1) × (m' ≡ leaf_in 0 m) → Labelled s at m m' r
  labelled_zero e (p, q) =
      let f : get_or s at 0 ≡ 48 = sym (y.same at) ∙ e in
      let h : at < length s = place_of_lem s at 48 (omega arith) f in
      record { value = 0; small = omega arith; ahead = omega arith; within = omega arith; reads = label_zero s at f ∙ ap (λ (k : ℕ). read (drop k s) (leaf 0)) (sym p); there = q }

  -- a label is a node
  pub took_label : (d : ℕ) {m' : List ℕ} {r : ℕ} → (get_or signs at 0 ≡ 40 → ⊥) → Labelled s at m m' r → Took (node_read d) s at m m' r
  unfolding pair_count recorded
  took_label d {m'} h l =
      let x = l.value in
      let e = l.there in
      record {
        tree = leaf l.value;
        reads = node_label d s at (λ q. h (y.same at ∙ q)) ∙ l.reads;
        ahead = omega (arith, l.ahead);
        within = l.within;
        there = e;
        room = ap length e ∙ leaf_length m x ∙ y.room;
        child = omega (arith, ap (λ (k : List ℕ). cell k 0) e, leaf_last m x (omega (arith, y.room)), l.small);
        next = ap (λ (k : List ℕ). cell k 4) e ∙ leaf_other m x 4 (λ q. omega arith) (omega arith) ∙ omega arith;
        depth = ap (λ (k : List ℕ). cell k 8) e ∙ leaf_other m x 8 (λ q. omega arith) (omega arith);
      }

  pub broke_here : (d : ℕ) {m' : List ℕ} {r : ℕ} → (get_or signs at 0 ≡ 40 → ⊥) → is_digit (get_or signs at 0) ≡ false → (r ≡ 6143) × (m' ≡ broken_in at m) → Broke (node_read d) s at m' r
  broke_here d {m'} {r} h z (p, q) =
      broke_at (node_read d) s at at m m' r y.room y.short y.within
      (node_label d s at (λ e. h (y.same at ∙ e)) ∙ label_none s at (ap is_digit (sym (y.same at)) ∙ z)) p q

  -- a pair
  module _ (bracket : get_or signs at 0 ≡ 40) where
    opens : get_or s at 0 ≡ 40
    opens = sym (y.same at) ∙ bracket

    open_room : length (opened m) ≡ 2576
    open_room = opened_length m ∙ y.room

    open_depth : cell (opened m) 8 ≡ cell m 8 - 1
    open_depth = opened_depth m (omega (arith, y.room))

    open_next : cell (opened m) 4 ≡ cell m 4
    open_next = opened_other m 4 (λ q. omega arith)

    pub broke_deep : {m' : List ℕ} {r : ℕ} → cell m 8 - 1 ≡ 0 → (r ≡ 6143) × (m' ≡ broken_in at (opened m)) → Broke (node_read (cell m 8 - 1)) s at m' r
    broke_deep {m'} {r} z (p, q) =
        broke_at (node_read (cell m 8 - 1)) s at at (opened m) m' r open_room y.short y.within (node_deep (cell m 8 - 1) s at opens z) p q

    module _ (some : cell m 8 - 1 ≡ 0 → ⊥) where
      reads_pair : node_read (cell m 8 - 1) (drop at s) ≡ pair_read (node_read (cell (opened m) 8 - 1)) (drop (at + 1) s)
      reads_pair = node_pair (cell m 8 - 1) s at opens some ∙ ap (λ (k : ℕ). pair_read (node_read (k - 1)) (drop (at + 1) s)) (sym open_depth)

      pub begin_first : MayBegin signs s (at + 1) (opened m)
      begin_first =
          let h : at < length s = place_of_lem s at 40 (omega arith) opens in
          let z = some in
          record {
            same = y.same;
            short = y.short;
            within = omega arith;
            room = open_room;
            low = omega (arith, open_next, y.low);
            pairs = omega (arith, open_next, y.pairs);
            some_depth = more (cell m 8 - 1) some open_depth;
            deep = omega (arith, open_depth, y.deep);
          }
        where
          more : (d : ℕ) → (d ≡ 0 → ⊥) → cell (opened m) 8 ≡ d → 1 ≤ cell (opened m) 8
          more zero f e = absurd (f refl)
          more (suc d) f e = omega arith

module _ {signs s : List ℕ} {at : ℕ} {m m₁ : List ℕ} {x : ℕ} (F : FirstRead signs s at m m₁ x) where
  pair_reads : node_read (cell m 8 - 1) (drop at s) ≡ pair_read (node_read (cell (opened m) 8 - 1)) (drop (at + 1) s)
  pair_reads = reads_pair F.begins F.bracket F.some

  -- the place where it ends may be looked at
  pub first_end : x < 6144
  first_end = answers_place F.begins.short F.answers

  first_zero : x ≡ 6143 → get_or signs x 0 ≡ 0
  first_zero e = F.begins.same x ∙ get_or-eq_default s 0 (omega (arith, F.begins.short))

  pub broke_first : {m' : List ℕ} {r : ℕ} → (get_or signs x 0 ≡ 44 → ⊥) → (r ≡ 6143) × (m' ≡ broken_in x m₁) → Broke (node_read (cell m 8 - 1)) s at m' r
  unfolding pair_read seq and_then
  broke_first {m'} {r} h (p, q) = go F.answers
    where
      go : Answers (node_read (cell (opened m) 8 - 1)) s (at + 1) (opened m) m₁ x → Broke (node_read (cell m 8 - 1)) s at m' r
      go (inl t) =
          broke_at (node_read (cell m 8 - 1)) s at x m₁ m' r t.room F.begins.short t.within
          (pair_reads ∙ rw (t.reads, sign_missing 44 t.tree s x (λ e. h (F.begins.same x ∙ e)))) p q
      go (inr b) =
          let e : m' ≡ m₁ = q ∙ sym (break_before m₁ x b.off) in
          subst (λ (l : List ℕ). Broke (node_read (cell m 8 - 1)) s at l r) (sym e) (record { off = p; within = b.within; breaks = pair_reads ∙ rw b.breaks })

  module _ (comma' : get_or signs x 0 ≡ 44) where
    pub took_first : Took (node_read (cell (opened m) 8 - 1)) s (at + 1) (opened m) m₁ x
    took_first = go F.answers
      where
        go : Answers (node_read (cell (opened m) 8 - 1)) s (at + 1) (opened m) m₁ x → Took (node_read (cell (opened m) 8 - 1)) s (at + 1) (opened m) m₁ x
        go (inl t) = t
        go (inr b) = absurd (let z = first_zero b.off in omega arith)

    comma : get_or s x 0 ≡ 44
    comma = sym (F.begins.same x) ∙ comma'

    pub begin_second : MayBegin signs s (x + 1) m₁
    begin_second =
        let h : x < length s = place_of_lem s x 44 (omega arith) comma in
        let t = took_first in
        let f = begin_first F.begins F.bracket F.some in
        record {
          same = F.begins.same;
          short = F.begins.short;
          within = omega arith;
          room = t.room;
          low = omega (arith, t.next, f.low);
          pairs = omega (arith, t.next, f.low, f.pairs, t.ahead);
          some_depth = omega (arith, t.depth, f.some_depth);
          deep = omega (arith, t.depth, f.deep);
        }

module _ {signs s : List ℕ} {at : ℕ} {m m₁ : List ℕ} {x : ℕ} {m₂ : List ℕ} {z : ℕ} (S : SecondRead signs s at m m₁ x m₂ z) where
  begins : MayBegin signs s at m
  begins = S.first.begins

  took_left : Took (node_read (cell (opened m) 8 - 1)) s (at + 1) (opened m) m₁ x
  took_left = took_first S.first S.comma_sign

  left_reads : (t : Tree) → sign 44 t (drop x s) ≡ read (drop (x + 1) s) t
  left_reads t = sign_there 44 t s x (omega arith) (comma S.first S.comma_sign)

  next_pair : cell (opened m) 4 ≡ cell m 4
  next_pair = open_next begins S.first.bracket

  depth_left : cell (opened m) 8 ≡ cell m 8 - 1
  depth_left = open_depth begins S.first.bracket

  -- the place where it ends may be looked at
  pub second_end : z < 6144
  second_end = answers_place begins.short S.answers

  second : Answers (node_read (cell (opened m) 8 - 1)) s (x + 1) m₁ m₂ z
  second = subst (λ (d : ℕ). Answers (node_read (d - 1)) s (x + 1) m₁ m₂ z) took_left.depth S.answers

  second_zero : z ≡ 6143 → get_or signs z 0 ≡ 0
  second_zero e = begins.same z ∙ get_or-eq_default s 0 (omega (arith, begins.short))

  pub broke_second : {m' : List ℕ} {r : ℕ} → (get_or signs z 0 ≡ 41 → ⊥) → (r ≡ 6143) × (m' ≡ broken_in z m₂) → Broke (node_read (cell m 8 - 1)) s at m' r
  unfolding pair_read seq and_then
  broke_second {m'} {r} h (p, q) = go second
    where
      go : Answers (node_read (cell (opened m) 8 - 1)) s (x + 1) m₁ m₂ z → Broke (node_read (cell m 8 - 1)) s at m' r
      go (inl u) =
          broke_at (node_read (cell m 8 - 1)) s at z m₂ m' r u.room begins.short u.within
          (pair_reads S.first ∙ rw (took_left.reads, left_reads took_left.tree, u.reads)
          (sign_missing 41 (node took_left.tree u.tree) s z (λ e. h (begins.same z ∙ e)))) p q
      go (inr b) =
          let e : m' ≡ m₂ = q ∙ sym (break_before m₂ z b.off) in
          subst (λ (l : List ℕ). Broke (node_read (cell m 8 - 1)) s at l r) (sym e)
          (record { off = p; within = b.within; breaks = pair_reads S.first ∙ rw (took_left.reads, left_reads took_left.tree, b.breaks) })

  module _ (close' : get_or signs z 0 ≡ 41) where
    took_second : Took (node_read (cell (opened m) 8 - 1)) s (x + 1) m₁ m₂ z
    took_second = go second
      where
        go : Answers (node_read (cell (opened m) 8 - 1)) s (x + 1) m₁ m₂ z → Took (node_read (cell (opened m) 8 - 1)) s (x + 1) m₁ m₂ z
        go (inl u) = u
        go (inr b) = absurd (let q = second_zero b.off in omega arith)

    closes : get_or s z 0 ≡ 41
    closes = sym (begins.same z) ∙ close'

    pub closing : Closing (cell m₁ 0) m₂
    closing =
        let t = took_left in
        let u = took_second in
        record {
          first_child = t.child;
          second_child = u.child;
          low = omega (arith, u.next, t.next, next_pair, begins.low);
          few = omega (arith, u.next, t.next, next_pair, begins.low, begins.pairs, t.ahead, u.ahead, u.within, begins.short);
        }

    pair_room : length (pair_in (cell m₁ 0) m₂) ≡ 2576
    pair_room = pair_length m₂ (cell m₁ 0) ∙ took_second.room

    pair_known : (cell (pair_in (cell m₁ 0) m₂) 0 ≡ cell m₂ 4) × (cell (pair_in (cell m₁ 0) m₂) 4 ≡ cell m₂ 4 + 1)
    pair_known = pair_cells m₂ (cell m₁ 0) (omega (arith, took_second.room))

    pub pair_depth : cell (pair_in (cell m₁ 0) m₂) 8 + 1 ≡ cell m 8
    pair_depth =
        omega (arith, pair_other m₂ (cell m₁ 0) 8 (λ q. omega arith) (λ q. omega arith) (omega arith), took_second.depth, took_left.depth, depth_left, begins.some_depth)

    pub took_pair : {m' : List ℕ} → m' ≡ shut (pair_in (cell m₁ 0) m₂) → Took (node_read (cell m 8 - 1)) s at m m' (z + 1)
    unfolding pair_read seq and_then pair_count recorded
    took_pair {m'} e =
        let t = took_left in
        let u = took_second in
        let h : z < length s = place_of_lem s z 41 (omega arith) closes in
        let w : List ℕ = pair_in (cell m₁ 0) m₂ in
        let c : (i : ℕ) → (i ≡ 8 → ⊥) → cell m' i ≡ cell w i = λ i q. ap (λ (k : List ℕ). cell k i) e ∙ shut_other w i q in
        record {
          tree = node t.tree u.tree;
          reads = pair_reads S.first ∙ rw (t.reads, left_reads t.tree, u.reads) (sign_there 41 (node t.tree u.tree) s z (omega arith) closes);
          ahead = omega (arith, t.ahead, u.ahead);
          within = omega arith;
          there = e ∙ ap shut (ap₂ pair_in (ap (λ (k : List ℕ). cell k 0) t.there) (u.there ∙ ap (recorded u.tree) t.there));
          room = ap length e ∙ shut_length w ∙ pair_room;
          child = omega (arith, c 0 (λ q. omega arith), pair_known.0, closing.few);
          next = omega (arith, c 4 (λ q. omega arith), pair_known.1, u.next, t.next, next_pair);
          depth = ap (λ (k : List ℕ). cell k 8) e ∙ shut_depth w (omega (arith, pair_room)) ∙ pair_depth;
        }
