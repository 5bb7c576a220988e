-- What a reader's answer means: what it reads is in the grammar, what it passes before it breaks off can be completed, and in both cases the answer
-- hangs on no byte behind the next one. Main results: sound_seq, sound_node, sound_text.
use Rattle.std.specs.Prelude.{◌≡◌, Bool, true, false, cond, ℕ, zero, suc, ◌+◌, ◌-◌, ◌*◌, eqb}
use Rattle.std.proofs.Math.Path.{refl, ap, sym}
use Rattle.std.proofs.Common.{subst, ◌∙◌, inl, inr, arith, eqb-true}
use mathlib.Core.List.{List, [], ◌∷◌, ◌++◌, append_assoc}
use Rattle.rules.specs.Newick.{is_digit, all_digits, value_from, levels, nought, number, Node, label, pair, pair_text, Text, text}
use Rattle.rules.specs.Tree.{Tree, leaf, node}
use Rattle.grammar.specs.Reading.{Reading, read, broken, Reader, and_then, seq, sign, nothing, more_digits, label_read, pair_read, bracket_or_label, node_read, text_read}
use Rattle.grammar.specs.Sound.{Like, Grammar, Reads, Outcome, Sound, Seq, Sign, Nothing, Digits, Leaf, Bracketed, Tail}

like_append : (p a b : List ℕ) → Like a b → Like (p ++ a) (p ++ b)
like_append [] a b h = h
like_append (c ∷ p) a b h = refl

-- a wider grammar
wider : (f : Reader) (G H : Grammar) → ((b : List ℕ) (t : Tree) → G b t → H b t) → Sound f G → Sound f H
wider f G H w h s = go (f s) (h s)
  where
    go : (o : Reading) → Outcome f G s o → Outcome f H s o
    go (read r t) a = record { bytes = a.bytes; split = a.split; good = w a.bytes t a.good; alike = a.alike }
    go (broken r) a =
        record { bytes = a.bytes; rest = a.rest; tree = a.tree; split = a.split; good = w (a.bytes ++ a.rest) a.tree a.good; alike = a.alike }

module _ (f : Reader) (g : Tree → Reader) (G : Grammar) (H : Tree → Grammar) where
  pub sound_seq : Sound f G → ((t : Tree) → Sound (g t) (H t)) → ((t : Tree) → (b : List ℕ) × (v : Tree) × H t b v) → Sound (seq f g) (Seq G H)
  unfolding seq and_then
  sound_seq hf hg some s = first (f s) (hf s)
    where
      second : (r : List ℕ) (t : Tree) → Reads f G s r t → (o : Reading) → Outcome (g t) (H t) r o → Outcome (seq f g) (Seq G H) s o
      second r t a (read r₂ v) b =
          record {
            bytes = a.bytes ++ b.bytes;
            split = a.split ∙ ap (λ (x : List ℕ). a.bytes ++ x) b.split ∙ sym (append_assoc a.bytes b.bytes r₂);
            good = (a.bytes, b.bytes, t, refl, a.good, b.good);
            alike = λ r' l.
                rw (append_assoc, a.alike (b.bytes ++ r') (subst (λ (x : List ℕ). Like x (b.bytes ++ r')) (sym b.split) (like_append b.bytes r₂ r' l)))
                (b.alike r' l);
          }
      second r t a (broken r₂) b =
          record {
            bytes = a.bytes ++ b.bytes;
            rest = b.rest;
            tree = b.tree;
            split = a.split ∙ ap (λ (x : List ℕ). a.bytes ++ x) b.split ∙ sym (append_assoc a.bytes b.bytes r₂);
            good = (a.bytes, b.bytes ++ b.rest, t, append_assoc a.bytes b.bytes b.rest, a.good, b.good);
            alike = λ r' l.
                rw (append_assoc, a.alike (b.bytes ++ r') (subst (λ (x : List ℕ). Like x (b.bytes ++ r')) (sym b.split) (like_append b.bytes r₂ r' l)))
                (b.alike r' l);
          }

      first : (o : Reading) → Outcome f G s o → Outcome (seq f g) (Seq G H) s (and_then o g)
      first (read r t) a = second r t a (g t r) (hg t r)
      first (broken r) a =
          record {
            bytes = a.bytes;
            rest = a.rest ++ (some a.tree).0;
            tree = (some a.tree).1;
            split = a.split;
            good = (a.bytes ++ a.rest, (some a.tree).0, a.tree, sym (append_assoc a.bytes a.rest (some a.tree).0), a.good, (some a.tree).2);
            alike = λ r' l. rw (a.alike r' l);
          }

sound_sign : (c : ℕ) (t : Tree) → Sound (sign c t) (Sign c t)
unfolding sign
sound_sign c t [] =
    record { bytes = []; rest = c ∷ []; tree = t; split = refl; good = (refl, refl); alike = like }
  where
    like : (r' : List ℕ) → Like [] r' → sign c t r' ≡ broken r'
    like [] l = refl
    like (b ∷ r') l = absurd l
sound_sign c t (b ∷ s) = go (eqb b c) refl
  where
    other : eqb b c ≡ false → (r' : List ℕ) → Like (b ∷ s) r' → sign c t r' ≡ broken r'
    other e [] l = absurd l
    other e (b' ∷ r') l = rw (← l, e)

    go : (x : Bool) → eqb b c ≡ x → Outcome (sign c t) (Sign c t) (b ∷ s) (cond x (read s t) (broken (b ∷ s)))
    go true e =
        record { bytes = b ∷ []; split = refl; good = (ap (λ (k : ℕ). k ∷ []) (eqb-true b c e), refl); alike = λ r' l. rw e }
    go false e =
        record { bytes = []; rest = c ∷ []; tree = t; split = refl; good = (refl, refl); alike = other e }

sound_nothing : (t : Tree) → Sound (nothing t) (Nothing t)
unfolding nothing
sound_nothing t [] = record { bytes = []; split = refl; good = (refl, refl); alike = like }
  where
    like : (r' : List ℕ) → Like [] r' → nothing t r' ≡ read r' t
    like [] l = refl
    like (b ∷ r') l = absurd l
sound_nothing t (b ∷ s) =
    record { bytes = []; rest = []; tree = t; split = refl; good = (refl, refl); alike = like }
  where
    like : (r' : List ℕ) → Like (b ∷ s) r' → nothing t r' ≡ broken r'
    like [] l = absurd l
    like (b' ∷ r') l = refl

sound_more : (k x : ℕ) → Sound (more_digits k x) (Digits k x)
unfolding more_digits all_digits value_from
sound_more zero x s =
    record { bytes = []; split = refl; good = record { few = omega arith; digits = refl; value = refl }; alike = λ r' l. refl }
sound_more (suc k) x [] =
    record { bytes = []; split = refl; good = record { few = omega arith; digits = refl; value = refl }; alike = like }
  where
    like : (r' : List ℕ) → Like [] r' → more_digits (suc k) x r' ≡ read r' (leaf x)
    like [] l = refl
    like (b ∷ r') l = absurd l
sound_more (suc k) x (c ∷ s) = go (is_digit c) refl (more_digits k (10 * x + (c - 48)) s) (sound_more k (10 * x + (c - 48)) s)
  where
    other : is_digit c ≡ false → (r' : List ℕ) → Like (c ∷ s) r' → more_digits (suc k) x r' ≡ read r' (leaf x)
    other e [] l = absurd l
    other e (b' ∷ r') l = rw (← l, e)

    go : (d : Bool) → is_digit c ≡ d → (o : Reading) → Outcome (more_digits k (10 * x + (c - 48))) (Digits k (10 * x + (c - 48))) s o
        → Outcome (more_digits (suc k) x) (Digits (suc k) x) (c ∷ s) (cond d o (read (c ∷ s) (leaf x)))
    go true e (read r t) a =
        record {
          bytes = c ∷ a.bytes;
          split = ap (λ (l : List ℕ). c ∷ l) a.split;
          good = record { few = omega (arith, a.good.few); digits = rw e a.good.digits; value = a.good.value };
          alike = λ r' l. rw e (a.alike r' l);
        }
    go true e (broken r) a =
        record {
          bytes = c ∷ a.bytes;
          rest = a.rest;
          tree = a.tree;
          split = ap (λ (l : List ℕ). c ∷ l) a.split;
          good = record { few = omega (arith, a.good.few); digits = rw e a.good.digits; value = a.good.value };
          alike = λ r' l. rw e (a.alike r' l);
        }
    go false e o a =
        record { bytes = []; split = refl; good = record { few = omega arith; digits = refl; value = refl }; alike = other e }

zero_leaf : Leaf (48 ∷ []) (leaf 0)
zero_leaf = (0, nought, refl)

number_leaf : (c : ℕ) (b : List ℕ) (t : Tree) → is_digit c ≡ true → eqb c 48 ≡ false → Digits 3 (c - 48) b t → Leaf (c ∷ b) t
unfolding all_digits value_from
number_leaf c b t d e h =
    let z : c - 48 ≡ 0 + (c - 48) = omega arith in
    (value_from 0 (c ∷ b), number c b (rw d h.digits) e h.few, h.value ∙ ap (λ (x : ℕ). leaf (value_from x b)) z)

pub sound_label : Sound label_read Leaf
unfolding label_read
sound_label [] = record { bytes = []; rest = 48 ∷ []; tree = leaf 0; split = refl; good = zero_leaf; alike = like }
  where
    like : (r' : List ℕ) → Like [] r' → label_read r' ≡ broken r'
    like [] l = refl
    like (b ∷ r') l = absurd l
sound_label (c ∷ s) = go (is_digit c) refl (eqb c 48) refl (more_digits 3 (c - 48) s) (sound_more 3 (c - 48) s)
  where
    other : is_digit c ≡ false → (r' : List ℕ) → Like (c ∷ s) r' → label_read r' ≡ broken r'
    other e [] l = absurd l
    other e (b' ∷ r') l = rw (← l, e)

    go : (d : Bool) → is_digit c ≡ d → (z : Bool) → eqb c 48 ≡ z → (o : Reading) → Outcome (more_digits 3 (c - 48)) (Digits 3 (c - 48)) s o
        → Outcome label_read Leaf (c ∷ s) (cond d (cond z (read s (leaf 0)) o) (broken (c ∷ s)))
    go true e true z o a =
        record { bytes = c ∷ []; split = refl; good = rw (eqb-true c 48 z) zero_leaf; alike = λ r' l. rw (e, z) }
    go true e false z (read r t) a =
        record {
          bytes = c ∷ a.bytes;
          split = ap (λ (l : List ℕ). c ∷ l) a.split;
          good = number_leaf c a.bytes t e z a.good;
          alike = λ r' l. rw (e, z) (a.alike r' l);
        }
    go true e false z (broken r) a =
        record {
          bytes = c ∷ a.bytes;
          rest = a.rest;
          tree = a.tree;
          split = ap (λ (l : List ℕ). c ∷ l) a.split;
          good = number_leaf c (a.bytes ++ a.rest) a.tree e z a.good;
          alike = λ r' l. rw (e, z) (a.alike r' l);
        }
    go false e z q o a = record { bytes = []; rest = 48 ∷ []; tree = leaf 0; split = refl; good = zero_leaf; alike = other e }

sound_bracket : (f : Reader) (G : Grammar) → Sound f G → Sound (bracket_or_label f) (Bracketed G)
unfolding bracket_or_label
sound_bracket f G h [] =
    record { bytes = []; rest = 48 ∷ []; tree = leaf 0; split = refl; good = inr zero_leaf; alike = like }
  where
    like : (r' : List ℕ) → Like [] r' → bracket_or_label f r' ≡ broken r'
    like [] l = refl
    like (b ∷ r') l = absurd l
sound_bracket f G h (c ∷ s) = go (eqb c 40) refl
  where
    inside : eqb c 40 ≡ true → (o : Reading) → Outcome f G s o → Outcome (bracket_or_label f) (Bracketed G) (c ∷ s) o
    inside e (read r t) a =
        record {
          bytes = c ∷ a.bytes;
          split = ap (λ (l : List ℕ). c ∷ l) a.split;
          good = inl (a.bytes, ap (λ (k : ℕ). k ∷ a.bytes) (eqb-true c 40 e), a.good);
          alike = λ r' l. rw e (a.alike r' l);
        }
    inside e (broken r) a =
        record {
          bytes = c ∷ a.bytes;
          rest = a.rest;
          tree = a.tree;
          split = ap (λ (l : List ℕ). c ∷ l) a.split;
          good = inl (a.bytes ++ a.rest, ap (λ (k : ℕ). k ∷ (a.bytes ++ a.rest)) (eqb-true c 40 e), a.good);
          alike = λ r' l. rw e (a.alike r' l);
        }

    -- where the first byte is no bracket, a label's reader answers
    first : eqb c 40 ≡ false → (b r r' : List ℕ) → c ∷ s ≡ b ++ r → Like r r' → bracket_or_label f (b ++ r') ≡ label_read (b ++ r')
    first e [] [] [] q l = absurd (let z : ◌≡◌ {A = ℕ} 0 1 = cc in omega arith)
    first e [] [] (x ∷ r') q l = absurd l
    first e [] (y ∷ r) [] q l = absurd l
    first e [] (y ∷ r) (x ∷ r') q l = let z : x ≡ c = cc in rw (z, e)
    first e (y ∷ b) r r' q l = let z : y ≡ c = cc in rw (z, e)

    outside : eqb c 40 ≡ false → (o : Reading) → Outcome label_read Leaf (c ∷ s) o → Outcome (bracket_or_label f) (Bracketed G) (c ∷ s) o
    outside e (read r t) a =
        record {
          bytes = a.bytes;
          split = a.split;
          good = inr a.good;
          alike = λ r' l. first e a.bytes r r' a.split l ∙ a.alike r' l;
        }
    outside e (broken r) a =
        record {
          bytes = a.bytes;
          rest = a.rest;
          tree = a.tree;
          split = a.split;
          good = inr a.good;
          alike = λ r' l. first e a.bytes r r' a.split l ∙ a.alike r' l;
        }

    go : (z : Bool) → eqb c 40 ≡ z → Outcome (bracket_or_label f) (Bracketed G) (c ∷ s) (cond z (f s) (label_read (c ∷ s)))
    go true e = inside e (f s) (h s)
    go false e = outside e (label_read (c ∷ s)) (sound_label (c ∷ s))

nought_node : (d : ℕ) → Node d (48 ∷ []) (leaf 0)
nought_node d = label nought

sound_pair : (d : ℕ) → Sound (node_read d) (Node d) → Sound (pair_read (node_read d)) (Tail d)
unfolding pair_read
sound_pair d h =
    wider (pair_read (node_read d)) (Seq (Node d) (λ t. Seq (Sign 44 t) (λ same. Seq (Node d) (λ u. Sign 41 (node t u))))) (Tail d) flat
    (sound_seq (node_read d) (λ t. seq (sign 44 t) (λ same. seq (node_read d) (λ u. sign 41 (node t u)))) (Node d) (λ t. Seq (Sign 44 t) (λ same. Seq (Node d) (λ u. Sign 41 (node t u)))) h
    (λ t. sound_seq (sign 44 t) (λ same. seq (node_read d) (λ u. sign 41 (node t u))) (Sign 44 t) (λ same. Seq (Node d) (λ u. Sign 41 (node t u))) (sound_sign 44 t)
    (λ same. sound_seq (node_read d) (λ u. sign 41 (node t u)) (Node d) (λ u. Sign 41 (node t u)) h (λ u. sound_sign 41 (node t u)) (λ u. (41 ∷ [], node t u, (refl, refl))))
    (λ same. (48 ∷ 41 ∷ [], node t (leaf 0), (48 ∷ [], 41 ∷ [], leaf 0, refl, nought_node d, (refl, refl)))))
    (λ t. (44 ∷ 48 ∷ 41 ∷ [], node t (leaf 0), (44 ∷ [], 48 ∷ 41 ∷ [], t, refl, (refl, refl), (48 ∷ [], 41 ∷ [], leaf 0, refl, nought_node d, (refl, refl))))))
  where
    flat : (b : List ℕ) (v : Tree) → Seq (Node d) (λ t. Seq (Sign 44 t) (λ same. Seq (Node d) (λ u. Sign 41 (node t u)))) b v → Tail d b v
    flat b v (b₁, x, t, e₁, n₁, (c, y, same, e₂, (ec, es), (b₂, z, u, e₃, n₂, (ez, ev)))) =
        (b₁, b₂, t, u, rw (e₁, e₂, ec, e₃, ez), ev, n₁, n₂)

bracketed_node : (d : ℕ) (b : List ℕ) (t : Tree) → Bracketed (Tail d) b t → Node (suc d) b t
unfolding pair_text
bracketed_node d b t (inl (b', e, (b₁, b₂, l, r, e', ev, n₁, n₂))) = rw (e, e', ev) (pair n₁ n₂)
bracketed_node d b t (inr (x, l, e)) = rw e (label l)

pub sound_node : (d : ℕ) → Sound (node_read d) (Node d)
unfolding node_read
sound_node zero = wider label_read Leaf (Node zero) (λ b t h. rw h.2 (label h.1)) sound_label
sound_node (suc d) =
    wider (bracket_or_label (pair_read (node_read d))) (Bracketed (Tail d)) (Node (suc d)) (bracketed_node d)
    (sound_bracket (pair_read (node_read d)) (Tail d) (sound_pair d (sound_node d)))

pub sound_text : Sound text_read Text
unfolding text_read
sound_text =
    wider text_read (Seq (Node levels) (λ t. Seq (Sign 59 t) Nothing)) Text flat
    (sound_seq (node_read levels) (λ t. seq (sign 59 t) nothing) (Node levels) (λ t. Seq (Sign 59 t) Nothing) (sound_node levels)
    (λ t. sound_seq (sign 59 t) nothing (Sign 59 t) Nothing (sound_sign 59 t) sound_nothing (λ u. ([], u, (refl, refl))))
    (λ t. (59 ∷ [], t, (59 ∷ [], [], t, refl, (refl, refl), (refl, refl)))))
  where
    flat : (b : List ℕ) (v : Tree) → Seq (Node levels) (λ t. Seq (Sign 59 t) Nothing) b v → Text b v
    flat b v (b₁, x, t, e₁, n, (c, y, u, e₂, (ec, eu), (ey, ev))) = rw (e₁, e₂, ec, ey, ev, eu) (text n)
