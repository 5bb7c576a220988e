-- The reader reads every node and every text, so that the grammar is unambiguous and the reader finds the place of refusal 8. Main results:
-- complete_node, complete_text, text_unique, breaks_at, decided.
use Rattle.std.specs.Prelude.{◌≡◌, refl, Bool, true, false, cond, ◌⊎◌, List, [], ◌∷◌, ◌++◌, ℕ, zero, suc, ◌+◌, ◌-◌, ◌*◌, ◌≤◌, eqb, leb, length, take}
use Rattle.std.proofs.Common.{ap, sym, subst, ◌∙◌, inl, inr, append_assoc, append-nil, arith, length-append, ne_eqb, leb-true}
use Rattle.std.proofs.Math.Seq.{take-append_seam, take-append-add, append_snoc}
use Rattle.rules.specs.Newick.{is_digit, all_digits, value_from, levels, Label, nought, number, Node, label, pair, pair_text, Text, text, Begins, BreaksAt, broken as breaks, ended}
use Rattle.rules.specs.Tree.{Tree, leaf, node}
use Rattle.basics.proofs.Bools.{and_both}
use Rattle.grammar.specs.Reading.{Reading, read, broken, Reader, and_then, seq, sign, nothing, more_digits, label_read, pair_read, bracket_or_label, node_read, text_read}
use Rattle.grammar.specs.Sound.{Reads, Breaks, Outcome}
use Rattle.grammar.proofs.Sound.{sound_text}
use Rattle.grammar.specs.Complete.{NoDigit}

pub no_more : (k x : ℕ) (r : List ℕ) → NoDigit r → more_digits k x r ≡ read r (leaf x)
unfolding more_digits
no_more zero x r h = refl
no_more (suc k) x [] h = refl
no_more (suc k) x (c ∷ r) h = rw h

complete_more : (k x : ℕ) (s r : List ℕ) → length s ≤ k → all_digits s ≡ true → NoDigit r
    → more_digits k x (s ++ r) ≡ read r (leaf (value_from x s))
unfolding more_digits all_digits value_from
complete_more k x [] r l a h = no_more k x r h
complete_more zero x (c ∷ s) r l a h = absurd (omega arith)
complete_more (suc k) x (c ∷ s) r l a h =
    let d : (is_digit c ≡ true) × (all_digits s ≡ true) = and_both (is_digit c) (all_digits s) a in
    rw d.0 (complete_more k (10 * x + (c - 48)) s r (omega arith) d.1 h)

complete_label : {s : List ℕ} {x : ℕ} → Label s x → (r : List ℕ) → NoDigit r → label_read (s ++ r) ≡ read r (leaf x)
unfolding label_read is_digit all_digits value_from
complete_label nought r h = refl
complete_label (number c s a z l) r h =
    let d : (is_digit c ≡ true) × (all_digits s ≡ true) = and_both (is_digit c) (all_digits s) a in
    let e : c - 48 ≡ 0 + (c - 48) = omega arith in
    rw (d.0, z) (complete_more 3 (c - 48) s r l d.1 h ∙ ap (λ (y : ℕ). read r (leaf (value_from y s))) e)

-- a label does not begin with a bracket
label_first : {s : List ℕ} {x : ℕ} → Label s x → (f : Reader) (r : List ℕ) → bracket_or_label f (s ++ r) ≡ label_read (s ++ r)
unfolding bracket_or_label is_digit all_digits
label_first nought f r = refl
label_first (number c s a z l) f r =
    let d : (is_digit c ≡ true) × (all_digits s ≡ true) = and_both (is_digit c) (all_digits s) a in
    let e : (leb 48 c ≡ true) × (leb c 57 ≡ true) = and_both (leb 48 c) (leb c 57) d.0 in
    let g : 48 ≤ c = leb-true 48 c e.0 in
    rw (ne_eqb c 40 (λ q. omega arith))

leaf_node : (d : ℕ) {s : List ℕ} {x : ℕ} → Label s x → (r : List ℕ) → NoDigit r → node_read d (s ++ r) ≡ read r (leaf x)
unfolding node_read
leaf_node zero l r h = complete_label l r h
leaf_node (suc d) l r h = label_first l (pair_read (node_read d)) r ∙ complete_label l r h

pair_append : (s s' r : List ℕ) → pair_text s s' ++ r ≡ 40 ∷ (s ++ (44 ∷ (s' ++ (41 ∷ r))))
unfolding pair_text
pair_append s s' r =
    ap (λ (x : List ℕ). 40 ∷ x) (append_assoc s (44 ∷ (s' ++ (41 ∷ []))) r ∙ ap (λ (x : List ℕ). s ++ (44 ∷ x)) (append_assoc s' (41 ∷ []) r))

pair_node : (d : ℕ) (s s' : List ℕ) (t u : Tree) → ((r : List ℕ) → NoDigit r → node_read d (s ++ r) ≡ read r t)
    → ((r : List ℕ) → NoDigit r → node_read d (s' ++ r) ≡ read r u) → (r : List ℕ) → node_read (suc d) (pair_text s s' ++ r) ≡ read r (node t u)
unfolding node_read bracket_or_label pair_read seq and_then sign is_digit
pair_node d s s' t u a b r =
    ap (node_read (suc d)) (pair_append s s' r) ∙ ap (λ (o : Reading). and_then o (λ t. seq (sign 44 t) (λ same. seq (node_read d) (λ u. sign 41 (node t u))))) (a (44 ∷ (s' ++ (41 ∷ r))) refl)
    ∙ ap (λ (o : Reading). and_then o (λ u. sign 41 (node t u))) (b (41 ∷ r) refl)

pub complete_node : {d : ℕ} {s : List ℕ} {t : Tree} → Node d s t → (r : List ℕ) → NoDigit r → node_read d (s ++ r) ≡ read r t
complete_node (label l) r h = leaf_node _ l r h
complete_node (pair a b) r h = pair_node _ _ _ _ _ (λ q z. complete_node a q z) (λ q z. complete_node b q z) r

pub complete_text : {s : List ℕ} {t : Tree} → Text s t → text_read s ≡ read [] t
unfolding text_read seq and_then sign nothing is_digit
complete_text (text n) = rw (complete_node n (59 ∷ []) refl)

read_tree : {r r' : List ℕ} {t u : Tree} → read r t ≡ read r' u → t ≡ u
read_tree e = cc

read_rest : {r r' : List ℕ} {t u : Tree} → read r t ≡ read r' u → r ≡ r'
read_rest e = cc

-- the grammar is unambiguous
pub text_unique : {s : List ℕ} {t u : Tree} → Text s t → Text s u → t ≡ u
text_unique a b = read_tree (sym (complete_text a) ∙ complete_text b)

-- where the reader breaks off, the grammar is broken
pub breaks_at : (s r : List ℕ) → text_read s ≡ broken r → BreaksAt Text s (length s - length r)
unfolding Begins
breaks_at s r e = go r (subst (Outcome text_read Text s) e (sound_text s)) e
  where
    one_more : (p r : List ℕ) (c : ℕ) → s ≡ p ++ (c ∷ r) → take (suc (length p)) s ≡ p ++ (c ∷ [])
    one_more p r c q =
        let m : suc (length p) ≡ length p + 1 = omega arith in
        ap (λ (j : ℕ). take j s) m ∙ ap (take (length p + 1)) q ∙ take-append-add p (c ∷ r) 1

    not_read : (r' : List ℕ) (t : Tree) → read [] t ≡ broken r' → ⊥
    not_read r' t q = let z : ◌≡◌ {A = ℕ} 0 1 = cc in omega arith

    go : (r : List ℕ) → Breaks text_read Text s r → text_read s ≡ broken r → BreaksAt Text s (length s - length r)
    go [] b q =
        let p : s ≡ b.bytes = b.split ∙ append-nil b.bytes in
        let k : length s - 0 ≡ length s = omega arith in
        rw k (ended (subst (Begins Text) (sym p) (b.rest, b.tree, b.good)) (λ t x. not_read [] t (sym (complete_text x) ∙ q)))
    go (c ∷ r) b q =
        let l : length s ≡ length b.bytes + suc (length r) = ap length b.split ∙ length-append b.bytes (c ∷ r) in
        let k : length s - length (c ∷ r) ≡ length b.bytes = omega arith in
        rw k
        (breaks {k = length b.bytes} (omega arith)
        (subst (Begins Text) (sym (ap (take (length b.bytes)) b.split ∙ take-append_seam b.bytes (c ∷ r))) (b.rest, b.tree, b.good))
        (λ x. not_read (c ∷ x.0) x.1
        (sym (complete_text x.2) ∙ ap text_read (ap (λ (y : List ℕ). y ++ x.0) (one_more b.bytes r c b.split) ∙ append_snoc b.bytes c x.0) ∙ b.alike (c ∷ x.0) refl)))

-- a text that is read leaves nothing
nothing_left : (s r : List ℕ) (t : Tree) → text_read s ≡ read r t → r ≡ []
unfolding text_read seq and_then sign nothing
nothing_left s r t e = first (node_read levels s) e
  where
    no_broken : (r' r : List ℕ) (t : Tree) → broken r' ≡ read r t → ⊥
    no_broken r' r t q = let z : ◌≡◌ {A = ℕ} 0 1 = cc in omega arith

    last : (b : List ℕ) (u : Tree) → nothing u b ≡ read r t → r ≡ []
    last [] u q = sym (read_rest q)
    last (c ∷ b) u q = absurd (no_broken (c ∷ b) r t q)

    tested : (z : Bool) (c : ℕ) (b : List ℕ) (u : Tree) → and_then (cond z (read b u) (broken (c ∷ b))) nothing ≡ read r t → r ≡ []
    tested true c b u q = last b u q
    tested false c b u q = absurd (no_broken (c ∷ b) r t q)

    second : (b : List ℕ) (u : Tree) → and_then (sign 59 u b) nothing ≡ read r t → r ≡ []
    second [] u q = absurd (no_broken [] r t q)
    second (c ∷ b) u q = tested (eqb c 59) c b u q

    first : (o : Reading) → and_then o (λ t. seq (sign 59 t) nothing) ≡ read r t → r ≡ []
    first (read b u) q = second b u q
    first (broken b) q = absurd (no_broken b r t q)

-- every list of bytes is a text or breaks the grammar at a place
pub decided : (s : List ℕ) → ((t : Tree) × Text s t) ⊎ ((k : ℕ) × BreaksAt Text s k)
decided s = go (text_read s) refl (sound_text s)
  where
    all : (r : List ℕ) (t : Tree) → text_read s ≡ read r t → Reads text_read Text s r t → Text s t
    all r t e a = subst (λ (x : List ℕ). Text x t) (sym (a.split ∙ ap (λ (x : List ℕ). a.bytes ++ x) (nothing_left s r t e) ∙ append-nil a.bytes)) a.good

    go : (o : Reading) → text_read s ≡ o → Outcome text_read Text s o → ((t : Tree) × Text s t) ⊎ ((k : ℕ) × BreaksAt Text s k)
    go (read r t) e a = inl (t, all r t e a)
    go (broken r) e a = inr (length s - length r, breaks_at s r e)
