-- One pass over the leaf sets of all trees: "insert, or count one more; drop the largest above K" gives the K least above a bound, with their counts.
-- Main results: collected_batch, tallied_table, times_append, times_different.
use Rattle.std.specs.Prelude.{◌≡◌, refl, Bool, true, false, cond, ◌||◌, List, [], ◌∷◌, ◌++◌, ℕ, zero, suc, ◌+◌, ◌≤◌, ◌<◌, eqb, ltb, take}
use Rattle.std.proofs.Common.{sym, ap, ◌∙◌, arith, take-take, ltb-true, ltb-false, lt-ltb, le-ltb, eqb-true, eq-eqb, ne_eqb}
use Rattle.std.proofs.Math.Seq.{take-nil}
use Rattle.std.specs.Int.Count.{ones}
use Rattle.std.proofs.lemmas.Bool.{eqb-false}
use Rattle.rules.specs.Building.{member}
use Rattle.rules.specs.Tree.{Tree}
use Rattle.rules.specs.declared.Clade.{Clade as Entry}
use Rattle.rules.specs.CladeTable.{occurs, clade_table}
use Rattle.basics.proofs.Bools.{both, or_false}
use Rattle.basics.proofs.Cases.{by_eq, by_test}
use Rattle.clade_laws.specs.Inner.{Different}
use Rattle.clade_laws.specs.Rising.{From}
use Rattle.clade_laws.proofs.Rising.{from_ge}
use Rattle.clade_laws.specs.Entries.{Each, leaves_of, count_in}
use Rattle.clade_laws.proofs.Entries.{table_is, occurs_some, count_absent, count_in_table, rising_tables_equal}
use Rattle.clade_passes.specs.Passes.{above, batch}
use Rattle.clade_passes.specs.Collected.{new_entry, one_more, add_entry, tallied, collected, times}

-- ---- what is dropped does not matter
take_front : (K : ℕ) (e : Entry) (es : List Entry) → take K (e ∷ take K es) ≡ take K (e ∷ es)
take_front zero e es = refl
take_front (suc K) e es = ap (λ (l : List Entry). e ∷ l) (take-take K (suc K) es (omega arith))

add_room : (K m : ℕ) (es : List Entry) → take K (add_entry m (take K es)) ≡ take K (add_entry m es)
unfolding add_entry
add_room zero m es = refl
add_room (suc K) m [] = refl
add_room (suc K) m (e ∷ es) = go (ltb e.leaves m) (eqb e.leaves m) (add_room K m es)
  where
    go : (s t : Bool) → take K (add_entry m (take K es)) ≡ take K (add_entry m es)
        → take (suc K) (cond s (e ∷ add_entry m (take K es)) (cond t (one_more e ∷ take K es) (new_entry m ∷ e ∷ take K es)))
        ≡ take (suc K) (cond s (e ∷ add_entry m es) (cond t (one_more e ∷ es) (new_entry m ∷ e ∷ es)))
    go true t ih = ap (λ (l : List Entry). e ∷ l) ih
    go false true ih = ap (λ (l : List Entry). one_more e ∷ l) (take-take K K es (omega arith))
    go false false ih = ap (λ (l : List Entry). new_entry m ∷ l) (take_front K e es)

-- ---- what is not above the bound does not matter
add_above : (b m : ℕ) (es : List Entry) → above b (add_entry m es) ≡ cond (ltb b m) (add_entry m (above b es)) (above b es)
unfolding add_entry above new_entry one_more
add_above b m [] = refl
add_above b m (e ∷ es) = go (ltb e.leaves m) refl (eqb e.leaves m) refl (ltb b m) refl (ltb b e.leaves) refl (add_above b m es)
  where
    go : (s : Bool) → ltb e.leaves m ≡ s → (t : Bool) → eqb e.leaves m ≡ t → (u : Bool) → ltb b m ≡ u → (w : Bool) → ltb b e.leaves ≡ w
        → above b (add_entry m es) ≡ cond (ltb b m) (add_entry m (above b es)) (above b es)
        → above b (cond s (e ∷ add_entry m es) (cond t (one_more e ∷ es) (new_entry m ∷ e ∷ es)))
        ≡ cond u (add_entry m (cond w (e ∷ above b es) (above b es))) (cond w (e ∷ above b es) (above b es))
    go true p t q true r true z ih = rw (z, p) (ap (λ (l : List Entry). e ∷ l) (rw r at ih))
    go true p t q true r false z ih = rw z (rw r at ih)
    go true p t q false r true z ih = absurd (omega (arith, ltb-true e.leaves m p, ltb-false b m r, ltb-true b e.leaves z))
    go true p t q false r false z ih = rw z (rw r at ih)
    go false p true q true r true z ih = rw (z, p, q)
    go false p true q true r false z ih = absurd (omega (arith, eqb-true e.leaves m q, ltb-true b m r, ltb-false b e.leaves z))
    go false p true q false r true z ih = absurd (omega (arith, eqb-true e.leaves m q, ltb-false b m r, ltb-true b e.leaves z))
    go false p true q false r false z ih = rw z
    go false p false q true r true z ih = rw (r, z, p, q)
    go false p false q true r false z ih = absurd (omega (arith, ltb-false e.leaves m p, ltb-true b m r, ltb-false b e.leaves z))
    go false p false q false r true z ih = rw (r, z)
    go false p false q false r false z ih = rw (r, z)

-- the K least above b of all that was added
pub collected_tallied : (K b : ℕ) (l : List ℕ) (es : List Entry) → collected K b (batch K b es) l ≡ batch K b (tallied es l)
unfolding collected tallied batch
collected_tallied K b [] es = refl
collected_tallied K b (m ∷ l) es =
    ap (λ (x : List Entry). collected K b x l) (step (ltb b m) refl) ∙ collected_tallied K b l (add_entry m es)
  where
    step : (t : Bool) → ltb b m ≡ t → cond t (take K (add_entry m (take K (above b es)))) (take K (above b es)) ≡ take K (above b (add_entry m es))
    step true q = add_room K m (above b es) ∙ ap (λ (x : List Entry). take K x) (sym (add_above b m es ∙ rw q))
    step false q = ap (λ (x : List Entry). take K x) (sym (add_above b m es ∙ rw q))

-- ---- what was added
pub add_from : (m b : ℕ) (es : List Entry) → b ≤ m → From b (leaves_of es) → From b (leaves_of (add_entry m es))
unfolding add_entry leaves_of From new_entry one_more
add_from m b [] h f = (h, tt)
add_from m b (e ∷ es) h f = go (ltb e.leaves m) refl (eqb e.leaves m) refl (λ g. add_from m (e.leaves + 1) es g f.1)
  where
    go : (s : Bool) → ltb e.leaves m ≡ s → (t : Bool) → eqb e.leaves m ≡ t → (e.leaves + 1 ≤ m → From (e.leaves + 1) (leaves_of (add_entry m es)))
        → From b (leaves_of (cond s (e ∷ add_entry m es) (cond t (one_more e ∷ es) (new_entry m ∷ e ∷ es))))
    go true p t q k = (f.0, k (omega (arith, ltb-true e.leaves m p)))
    go false p true q k = f
    go false p false q k = (h, (omega (arith, ltb-false e.leaves m p, eqb-false e.leaves m q), f.1))

add_sizes : (m : ℕ) (es : List Entry) → Each (λ e. e.size ≡ ones e.leaves) es → Each (λ e. e.size ≡ ones e.leaves) (add_entry m es)
unfolding add_entry Each new_entry one_more
add_sizes m [] s = (refl, tt)
add_sizes m (e ∷ es) s = go (ltb e.leaves m) (eqb e.leaves m) (add_sizes m es s.1)
  where
    go : (p t : Bool) → Each (λ x. x.size ≡ ones x.leaves) (add_entry m es)
        → Each (λ x. x.size ≡ ones x.leaves) (cond p (e ∷ add_entry m es) (cond t (one_more e ∷ es) (new_entry m ∷ e ∷ es)))
    go true t k = (s.0, k)
    go false true k = s
    go false false k = (refl, s)

add_member : (x m : ℕ) (es : List Entry) → member x (leaves_of (add_entry m es)) ≡ eqb x m || member x (leaves_of es)
unfolding add_entry leaves_of member new_entry one_more
add_member x m [] = refl
add_member x m (e ∷ es) = go (ltb e.leaves m) (eqb e.leaves m) refl (add_member x m es)
  where
    same : (p q : Bool) → p || q ≡ p || (p || q)
    same true q = refl
    same false q = refl

    turn : (p q r : Bool) → p || (q || r) ≡ q || (p || r)
    turn true true r = refl
    turn true false r = refl
    turn false q r = refl

    go : (s t : Bool) → eqb e.leaves m ≡ t → member x (leaves_of (add_entry m es)) ≡ eqb x m || member x (leaves_of es)
        → member x (leaves_of (cond s (e ∷ add_entry m es) (cond t (one_more e ∷ es) (new_entry m ∷ e ∷ es)))) ≡ eqb x m || (eqb x e.leaves || member x (leaves_of es))
    go true t q ih = rw ih (turn (eqb x e.leaves) (eqb x m) (member x (leaves_of es)))
    go false true q ih = rw (sym (eqb-true e.leaves m q)) (same (eqb x e.leaves) (member x (leaves_of es)))
    go false false q ih = refl

add_count : (x m : ℕ) (es : List Entry) (b : ℕ) → From b (leaves_of es) → count_in (add_entry m es) x ≡ cond (eqb x m) 1 0 + count_in es x
unfolding add_entry count_in new_entry one_more leaves_of From
add_count x m [] b f = by_eq x m (λ q. rw (eq-eqb x m q, eq-eqb m x (sym q)) (omega arith)) (λ q. rw (ne_eqb x m q, ne_eqb m x (λ r. q (sym r))) (omega arith))
add_count x m (e ∷ es) b f = go (ltb e.leaves m) refl (eqb e.leaves m) refl (eqb x m) refl (eqb e.leaves x) refl (add_count x m es (e.leaves + 1) f.1)
  where
    none : x < e.leaves → count_in es x ≡ 0
    none h = count_absent es x (by_test (member x (leaves_of es)) (λ p. absurd (omega (arith, h, from_ge (e.leaves + 1) (leaves_of es) f.1 x p))) (λ p. p))

    go : (s : Bool) → ltb e.leaves m ≡ s → (t : Bool) → eqb e.leaves m ≡ t → (u : Bool) → eqb x m ≡ u → (w : Bool) → eqb e.leaves x ≡ w
        → count_in (add_entry m es) x ≡ cond (eqb x m) 1 0 + count_in es x
        → count_in (cond s (e ∷ add_entry m es) (cond t (one_more e ∷ es) (new_entry m ∷ e ∷ es))) x ≡ cond u 1 0 + cond w e.count (count_in es x)
    go true p t q true r true z ih = absurd (omega (arith, ltb-true e.leaves m p, eqb-true x m r, eqb-true e.leaves x z))
    go true p t q true r false z ih = rw z (rw r at ih)
    go true p t q false r true z ih = rw z (omega arith)
    go true p t q false r false z ih = rw z (rw r at ih)
    go false p true q true r true z ih = rw z (omega arith)
    go false p true q true r false z ih = absurd (eqb-false e.leaves x z (eqb-true e.leaves m q ∙ sym (eqb-true x m r)))
    go false p true q false r true z ih = absurd (eqb-false x m r (sym (eqb-true e.leaves x z) ∙ eqb-true e.leaves m q))
    go false p true q false r false z ih = rw z (omega arith)
    go false p false q true r true z ih = absurd (eqb-false e.leaves m q (eqb-true e.leaves x z ∙ eqb-true x m r))
    go false p false q true r false z ih =
        let k : count_in es x ≡ 0 = none (omega (arith, ltb-false e.leaves m p, eqb-false e.leaves m q, eqb-true x m r)) in
        rw (eq-eqb m x (sym (eqb-true x m r)), k) (omega arith)
    go false p false q false r true z ih = rw (ne_eqb m x (λ y. eqb-false x m r (sym y)), z) (omega arith)
    go false p false q false r false z ih = rw (ne_eqb m x (λ y. eqb-false x m r (sym y)), z) (omega arith)

tallied_from : (l : List ℕ) (es : List Entry) → From 0 (leaves_of es) → From 0 (leaves_of (tallied es l))
unfolding tallied
tallied_from [] es f = f
tallied_from (m ∷ l) es f = tallied_from l (add_entry m es) (add_from m 0 es (omega arith) f)

tallied_sizes : (l : List ℕ) (es : List Entry) → Each (λ e. e.size ≡ ones e.leaves) es → Each (λ e. e.size ≡ ones e.leaves) (tallied es l)
unfolding tallied
tallied_sizes [] es s = s
tallied_sizes (m ∷ l) es s = tallied_sizes l (add_entry m es) (add_sizes m es s)

tallied_member : (x : ℕ) (l : List ℕ) (es : List Entry) → member x (leaves_of (tallied es l)) ≡ member x l || member x (leaves_of es)
unfolding tallied member
tallied_member x [] es = refl
tallied_member x (m ∷ l) es =
    tallied_member x l (add_entry m es) ∙ ap (λ (b : Bool). member x l || b) (add_member x m es) ∙ turn (member x l) (eqb x m) (member x (leaves_of es))
  where
    turn : (p q r : Bool) → p || (q || r) ≡ (q || p) || r
    turn true true r = refl
    turn true false r = refl
    turn false true r = refl
    turn false false r = refl

tallied_count : (x : ℕ) (l : List ℕ) (es : List Entry) → From 0 (leaves_of es) → count_in (tallied es l) x ≡ times x l + count_in es x
unfolding tallied times
tallied_count x [] es f = omega arith
tallied_count x (m ∷ l) es f = tallied_count x l (add_entry m es) (add_from m 0 es (omega arith) f) ∙ omega (arith, add_count x m es 0 f)

pub times_member : (x : ℕ) (l : List ℕ) → member x l ≡ ltb 0 (times x l)
unfolding times member
times_member x [] = sym (le-ltb 0 0 (omega arith))
times_member x (m ∷ l) = go (eqb x m) (times_member x l)
  where
    go : (b : Bool) → member x l ≡ ltb 0 (times x l) → b || member x l ≡ ltb 0 (cond b 1 0 + times x l)
    go true ih = sym (lt-ltb 0 (1 + times x l) (omega arith))
    go false ih = let z : 0 + times x l ≡ times x l = omega arith in rw z ih

-- a list in which each leaf set stands as often as it occurs in trees, in whatever order, adds up to the table
pub tallied_table : (ts : List Tree) (l : List ℕ) → ((x : ℕ) → times x l ≡ occurs x ts) → tallied [] l ≡ clade_table ts
unfolding leaves_of From Each count_in member
tallied_table ts l h =
    rising_tables_equal (tallied [] l) (clade_table ts) (tallied_from l [] tt) (table_is ts).rises (tallied_sizes l [] tt) (table_is ts).sizes
    (λ x. tallied_member x l [] ∙ or_false (member x l) ∙ times_member x l ∙ ap (λ (k : ℕ). ltb 0 k) (h x) ∙ sym (in_table x))
    (λ x. tallied_count x l [] tt ∙ h_zero x ∙ sym (count_in_table ts (clade_table ts) (table_is ts) x))
  where
    h_zero : (x : ℕ) → times x l + 0 ≡ occurs x ts
    h_zero x = omega (arith, h x)

    in_table : (x : ℕ) → member x (leaves_of (clade_table ts)) ≡ ltb 0 (occurs x ts)
    in_table x = both (member x (leaves_of (clade_table ts))) (ltb 0 (occurs x ts))
        (λ p. lt-ltb 0 (occurs x ts) ((occurs_some x ts).1 (((table_is ts).holds x).0 p)))
        (λ p. ((table_is ts).holds x).1 ((occurs_some x ts).0 (ltb-true 0 (occurs x ts) p)))

no_batch : (K b : ℕ) → batch K b [] ≡ []
unfolding batch above
no_batch K b = take-nil K

-- one pass: the K least leaf sets above b, with their counts
pub collected_batch : (K b : ℕ) (ts : List Tree) (l : List ℕ) → ((x : ℕ) → times x l ≡ occurs x ts) → collected K b [] l ≡ batch K b (clade_table ts)
collected_batch K b ts l h =
    ap (λ (e : List Entry). collected K b e l) (sym (no_batch K b)) ∙ collected_tallied K b l [] ∙ ap (batch K b) (tallied_table ts l h)

pub times_append : (x : ℕ) (a b : List ℕ) → times x (a ++ b) ≡ times x a + times x b
unfolding times
times_append x [] b = omega arith
times_append x (m ∷ a) b = omega (arith, times_append x a b)

pub times_different : (x : ℕ) (l : List ℕ) → Different l → times x l ≡ cond (member x l) 1 0
unfolding times member Different
times_different x [] D = refl
times_different x (m ∷ l) D = go (eqb x m) refl (times_different x l D.1)
  where
    go : (b : Bool) → eqb x m ≡ b → times x l ≡ cond (member x l) 1 0 → cond b 1 0 + times x l ≡ cond (b || member x l) 1 0
    go true q ih =
        let e : member x l ≡ false = ap (λ (k : ℕ). member k l) (eqb-true x m q) ∙ D.0 in
        let z : times x l ≡ 0 = ih ∙ rw e in omega (arith, z)
    go false q ih = omega (arith, ih)
