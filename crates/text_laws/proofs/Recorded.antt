-- What a tree that is read leaves in the array: its pairs, which are an accepted table of it, and the marks of its leaves. Main results: kept_cells,
-- pairs_there, marks_there, table_recorded.
use Rattle.std.specs.Prelude.{◌≡◌, refl, Bool, true, false, cond, ◌||◌, List, [], ◌∷◌, ◌++◌, map, ℕ, ◌+◌, ◌-◌, ◌*◌, ◌/◌, ◌%◌, ◌≤◌, ◌<◌, length, set, take, drop}
use Rattle.std.proofs.Common.{ap, ap₂, sym, subst, ◌∙◌, append_assoc, arith, length-append, take_at}
use Rattle.std.proofs.lemmas.List.{length-map}
use Rattle.std.proofs.lemmas.List.Edits.{sets, sets-eq}
use Rattle.rules.specs.Tree.{Tree, leaf, node, has, LeavesBelow}
use Rattle.basics.proofs.Mapped.{map_append}
use Rattle.grammar.proofs.Stores.{sets_append}
use Rattle.grammar.specs.Pairs.{pair_count, child_code, pairs_from}
use Rattle.grammar.proofs.Pairs.{pairs_length, size_pairs}
use Rattle.written_tables.specs.Tied.{tied}
use Rattle.grammar.specs.Closed.{child_number, closed_rows}
use Rattle.grammar.proofs.Closed.{closed_length, closed_accepted, closed_tree, leaves_small}
use Rattle.grammar.specs.Bounds.{SecondsBelow}
use Rattle.grammar.proofs.Bounds.{pairs_small}
use Rattle.clades.proofs.Size.{size_below}
use Rattle.text_laws.specs.Cells.{cell, opened, pair_in, shut}
use Rattle.text_laws.proofs.Cells.{opened_length, opened_other, opened_pairs, shut_length, shut_other, shut_pairs, pair_length, pair_cells, pair_other, pair_pairs, leaf_length, leaf_last, leaf_other, leaf_pairs, leaf_mark}
use Rattle.text_laws.specs.Answers.{recorded}
use Rattle.text_laws.specs.Numbered.{first_number, second_number}
use Rattle.text_laws.specs.Recorded.{children, Kept, recorded_rows, TableOf}

pub kept_cells : (t : Tree) (m : List ℕ) → 4 < length m → 16384 ≤ cell m 4 → Kept t m
unfolding recorded child_code pair_count
kept_cells (leaf x) m h low =
    record { long = leaf_length m x; last = leaf_last m x (omega arith); next = omega (arith, leaf_other m x 4 (λ q. omega arith) (omega arith)) }
kept_cells (node l r) m h low = go (kept_cells l (opened m) (omega (arith, opened_length m)) (omega (arith, opened_other m 4 (λ q. omega arith))))
    (λ h' low'. kept_cells r (recorded l (opened m)) h' low')
  where
    go : Kept l (opened m) → (4 < length (recorded l (opened m)) → 16384 ≤ cell (recorded l (opened m)) 4 → Kept r (recorded l (opened m))) → Kept (node l r) m
    go L f =
        let o = opened_other m 4 (λ q. omega arith) in
        let R = f (omega (arith, L.long, opened_length m)) (omega (arith, L.next, o)) in
        let m₂ = recorded r (recorded l (opened m)) in
        let a = cell (recorded l (opened m)) 0 in
        let c = pair_cells m₂ a (omega (arith, R.long, L.long, opened_length m)) in
        record {
          long = shut_length (pair_in a m₂) ∙ pair_length m₂ a ∙ R.long ∙ L.long ∙ opened_length m;
          last = shut_other (pair_in a m₂) 0 (λ q. omega arith) ∙ c.0 ∙ omega (arith, R.next, L.next, o);
          next = shut_other (pair_in a m₂) 4 (λ q. omega arith) ∙ c.1 ∙ omega (arith, R.next, L.next, o);
        }

-- the pairs stand behind those before
pub pairs_there : (t : Tree) (m : List ℕ) → 4 < length m → 16384 ≤ cell m 4
    → drop 1040 (recorded t m) ≡ sets (drop 1040 m) (cell m 4 - 16384) (map children (pairs_from (cell m 4 - 16384) t))
unfolding recorded pairs_from
pairs_there (leaf x) m h low = leaf_pairs m x
pairs_there (node l r) m h low = go (pairs_there l (opened m) h₁ low₁) (pairs_there r (recorded l (opened m)) h₂ low₂)
  where
    o : cell (opened m) 4 ≡ cell m 4
    o = opened_other m 4 (λ q. omega arith)

    h₁ : 4 < length (opened m)
    h₁ = omega (arith, opened_length m)

    low₁ : 16384 ≤ cell (opened m) 4
    low₁ = omega (arith, o)

    L : Kept l (opened m)
    L = kept_cells l (opened m) h₁ low₁

    h₂ : 4 < length (recorded l (opened m))
    h₂ = omega (arith, L.long, h₁)

    low₂ : 16384 ≤ cell (recorded l (opened m)) 4
    low₂ = omega (arith, L.next, low₁)

    R : Kept r (recorded l (opened m))
    R = kept_cells r (recorded l (opened m)) h₂ low₂

    p : ℕ
    p = cell m 4 - 16384

    go : drop 1040 (recorded l (opened m)) ≡ sets (drop 1040 (opened m)) (cell (opened m) 4 - 16384) (map children (pairs_from (cell (opened m) 4 - 16384) l))
        → drop 1040 (recorded r (recorded l (opened m)))
        ≡ sets (drop 1040 (recorded l (opened m))) (cell (recorded l (opened m)) 4 - 16384) (map children (pairs_from (cell (recorded l (opened m)) 4 - 16384) r))
        → drop 1040 (shut (pair_in (cell (recorded l (opened m)) 0) (recorded r (recorded l (opened m)))))
        ≡ sets (drop 1040 m) (cell m 4 - 16384)
        (map children (pairs_from (cell m 4 - 16384) l ++ (pairs_from (cell m 4 - 16384 + pair_count l) r ++ ((child_code (cell m 4 - 16384) l, child_code (cell m 4 - 16384 + pair_count l) r) ∷ []))))
    go el er =
        let D = drop 1040 m in
        let q = cell m 4 - 16384 in
        let m₂ = recorded r (recorded l (opened m)) in
        let a = cell (recorded l (opened m)) 0 in
        let P = map children (pairs_from q l) in
        let Q = map children (pairs_from (q + pair_count l) r) in
        let c : ℕ × ℕ = (child_code q l, child_code (q + pair_count l) r) in
        let i : cell (opened m) 4 - 16384 ≡ q = omega (arith, o) in
        let j : cell (recorded l (opened m)) 4 - 16384 ≡ q + pair_count l = omega (arith, L.next, o, low) in
        let k : cell m₂ 4 - 16384 ≡ q + pair_count l + pair_count r = omega (arith, R.next, L.next, o, low) in
        let lp : length P ≡ pair_count l = length-map (pairs_from q l) children ∙ pairs_length q l in
        let lq : length Q ≡ pair_count r = length-map (pairs_from (q + pair_count l) r) children ∙ pairs_length (q + pair_count l) r in
        let first : a ≡ child_code q l = L.last ∙ ap (λ (z : ℕ). child_code z l) i in
        let second : cell m₂ 0 ≡ child_code (q + pair_count l) r = R.last ∙ ap (λ (z : ℕ). child_code z r) j in
        let one : drop 1040 (recorded l (opened m)) ≡ sets D q P = el ∙ ap₂ (λ (d : List ℕ) (z : ℕ). sets d z (map children (pairs_from z l))) (opened_pairs m) i in
        let two : drop 1040 m₂ ≡ sets (sets D q P) (q + pair_count l) Q = er ∙ ap₂ (λ (d : List ℕ) (z : ℕ). sets d z (map children (pairs_from z r))) one j in
        let both : drop 1040 m₂ ≡ sets D q (P ++ Q) = two ∙ ap (λ (z : ℕ). sets (sets D q P) z Q) (omega (arith, lp)) ∙ sym (sets_append D q P Q) in
        let last : set (drop 1040 m₂) (cell m₂ 4 - 16384) (a * 65536 + cell m₂ 0) ≡ sets (sets D q (P ++ Q)) (q + length (P ++ Q)) (children c ∷ []) =
        ap₂ (λ (d : List ℕ) (z : ℕ). set d z (a * 65536 + cell m₂ 0)) both (k ∙ omega (arith, length-append P Q, lp, lq))
        ∙ ap₂ (λ (x y : ℕ). set (sets D q (P ++ Q)) (q + length (P ++ Q)) (x * 65536 + y)) first second in
        shut_pairs (pair_in a m₂) ∙ pair_pairs m₂ a ∙ last ∙ sym (sets_append D q (P ++ Q) (children c ∷ []))
        ∙ ap (sets D q) (append_assoc P Q (children c ∷ [])
        ∙ sym (map_append children (pairs_from q l) (pairs_from (q + pair_count l) r ++ (c ∷ [])) ∙ ap (λ (x : List ℕ). P ++ x) (map_append children (pairs_from (q + pair_count l) r) (c ∷ []))))

-- each leaf of the tree has its mark
pub marks_there : (t : Tree) (m : List ℕ) → length m ≡ 2576 → 16384 ≤ cell m 4 → (y : ℕ) → y < 1024 → cell (recorded t m) (16 + y) ≡ cond (has t y) 1 (cell m (16 + y))
unfolding recorded has
marks_there (leaf x) m h low y g = leaf_mark m x h y g
marks_there (node l r) m h low y g = go (marks_there l (opened m) (opened_length m ∙ h) (omega (arith, o)) y g) (marks_there r (recorded l (opened m)) (L.long ∙ opened_length m ∙ h) (omega (arith, L.next, o)) y g)
  where
    o : cell (opened m) 4 ≡ cell m 4
    o = opened_other m 4 (λ q. omega arith)

    L : Kept l (opened m)
    L = kept_cells l (opened m) (omega (arith, opened_length m)) (omega (arith, o))

    either : (a b : Bool) (c : ℕ) → cond b 1 (cond a 1 c) ≡ cond (a || b) 1 c
    either true true c = refl
    either true false c = refl
    either false true c = refl
    either false false c = refl

    go : cell (recorded l (opened m)) (16 + y) ≡ cond (has l y) 1 (cell (opened m) (16 + y)) → cell (recorded r (recorded l (opened m))) (16 + y) ≡ cond (has r y) 1 (cell (recorded l (opened m)) (16 + y))
        → cell (shut (pair_in (cell (recorded l (opened m)) 0) (recorded r (recorded l (opened m))))) (16 + y) ≡ cond (has l y || has r y) 1 (cell m (16 + y))
    go el er =
        let m₂ = recorded r (recorded l (opened m)) in
        let a = cell (recorded l (opened m)) 0 in
        shut_other (pair_in a m₂) (16 + y) (λ q. omega arith) ∙ pair_other m₂ a (16 + y) (λ q. omega arith) (λ q. omega arith) (omega arith) ∙ er
        ∙ ap (cond (has r y) 1) (el ∙ ap (cond (has l y) 1) (opened_other m (16 + y) (λ q. omega arith))) ∙ either (has l y) (has r y) (cell m (16 + y))

-- what is stored from the start on is read from the start on
stored : (l x : List ℕ) → length x ≤ length l → take (length x) (sets l 0 x) ≡ x
stored l x h =
    ap (take (length x)) (sets-eq x l 0 (omega arith)) ∙ take_at x (drop (0 + length x) l) (length x) refl

first_numbers : (n : ℕ) (P : List (ℕ × ℕ)) → SecondsBelow 65536 P → map (first_number n) (map children P) ≡ map (λ c. child_number n c.0) P
first_numbers n [] h = refl
first_numbers n (c ∷ P) h =
    let b : c.1 < 65536 = h.0 in
    let p : (c.0 * 65536 + c.1) / 65536 ≡ c.0 = omega arith in
    ap₂ (λ (x : ℕ) (xs : List ℕ). child_number n x ∷ xs) p (first_numbers n P h.1)

second_numbers : (n : ℕ) (P : List (ℕ × ℕ)) → SecondsBelow 65536 P → map (second_number n) (map children P) ≡ map (λ c. child_number n c.1) P
second_numbers n [] h = refl
second_numbers n (c ∷ P) h =
    let b : c.1 < 65536 = h.0 in
    let p : (c.0 * 65536 + c.1) % 65536 ≡ c.1 = omega arith in
    ap₂ (λ (x : ℕ) (xs : List ℕ). child_number n x ∷ xs) p (second_numbers n P h.1)

rows_stored : (n : ℕ) (ps ps' : List ℕ) (P : List (ℕ × ℕ)) → ps' ≡ sets ps 0 (map children P) → length P ≡ n - 1 → n - 1 ≤ length ps → SecondsBelow 65536 P
    → recorded_rows n ps' ≡ closed_rows n P
unfolding closed_rows
rows_stored n ps ps' P e l room h =
    let k : n - 1 ≡ length (map children P) = sym l ∙ sym (length-map P children) in
    let f : take (n - 1) ps' ≡ map children P =
    ap₂ (λ (j : ℕ) (x : List ℕ). take j x) k e ∙ stored ps (map children P) (omega arith) in
    ap₂ (tied n) (ap (map (first_number n)) f ∙ first_numbers n P h) (ap (map (second_number n)) f ∙ second_numbers n P h)

-- the pairs of a tree with the leaves 0 to n-1 are an accepted table of it
pub table_recorded : (n : ℕ) (u : Tree) (ps ps' : List ℕ) → LeavesBelow n u → n ≤ 1024 → n - 1 ≤ length ps → ps' ≡ sets ps 0 (map children (pairs_from 0 u)) → TableOf n u (recorded_rows n ps')
table_recorded n u ps ps' b few room e =
    let size : pair_count u + 1 ≡ n = sym (size_pairs u) ∙ size_below n u b in
    let rows : recorded_rows n ps' ≡ closed_rows n (pairs_from 0 u) =
    rows_stored n ps ps' (pairs_from 0 u) e (omega (arith, pairs_length 0 u)) room (pairs_small n 0 65536 u (leaves_small n u b (omega arith)) (omega arith)) in
    subst (TableOf n u) (sym rows) (record { rows = closed_length n u b (omega arith); accepted = closed_accepted n u b (omega arith); tree = closed_tree n u b (omega arith) })
