-- The rows of merges that are numbered in their order: after t rows, number has the node of each name.
-- Main definitions: held_merges, held_rows, BeforeRows, Numbered. Main results: numbered_start, next_merge, row_at, numbered_next, before_rows.
use Rattle.std.specs.Prelude.{◌≡◌, refl, Bool, true, false, cond, List, ◌∷◌, map, ℕ, suc, ◌+◌, ◌-◌, ◌≤◌, ◌<◌, eqb, length, take, set}
use Rattle.std.proofs.Common.{sym, ap₂, ◌∙◌, add-one, arith, length-take, length-drop, length-set, drop-drop, get_or-drop, get_or-set_same, get_or-set_other, eqb-true}
use Rattle.std.proofs.Math.Path.{ap}
use Rattle.std.proofs.Math.ListN.{drop, get_or}
use Rattle.std.proofs.lemmas.List.{length-map}
use Rattle.std.proofs.Math.Seq.{drop-cons}
use Rattle.std.proofs.lemmas.Bool.{eqb-false}
use Rattle.rules.specs.Vector.{entry, Valid, Vector}
use Rattle.rules.specs.Building.{Merge}
use Rattle.rules.specs.Table.{Row, rows_from}
use Rattle.merging.specs.Insertion.{pairs_of, pairs}
use Rattle.merging.proofs.Insertion.{valid_bounded}
use Rattle.merging.proofs.Greedy.{under_pairs}
use Rattle.merging.proofs.Named.{rising}
use Rattle.merges.specs.Built.{MergesOf}
use Rattle.merges.specs.Held.{held, merge_at}
use Rattle.written_tables.specs.Rows.{vector_rows, Inside}
use Rattle.written_tables.proofs.Rows.{inside, inside_drop, inside_at, rows_length, rows_cong}

-- the merges that the two lists hold
unfoldable pub held_merges : List ℕ → List ℕ → ℕ → ℕ → List Merge
held_merges list small start n = map (held small) (take (n - 1) (drop start list))

-- and their rows
unfoldable pub held_rows : List ℕ → List ℕ → ℕ → ℕ → List Row
unfolding held_merges
held_rows list small start n = rows_from n (λ c. c) (held_merges list small start n)

-- what the loop is given
pub record BeforeRows (list small : List ℕ) (start n : ℕ) (number : List ℕ) : Type 0 where
  pub some : 1 ≤ n
  pub few : n ≤ 1024
  pub in_list : start + (n - 1) ≤ length list
  pub in_small : n ≤ length small
  pub in_number : n ≤ length number
  pub names : Inside n (held_merges list small start n)
  pub itself : (c : ℕ) → c < n → get_or number c 0 ≡ c

pub merges_long : {list small : List ℕ} {start n : ℕ} {number : List ℕ} → BeforeRows list small start n number → length (held_merges list small start n) ≡ n - 1
unfolding held_merges
merges_long {list} {small} {start} {n} H =
    omega (arith, H.in_list, length-map (take (n - 1) (drop start list)) (held small), length-take (n - 1) (drop start list), length-drop start list)

pub rows_long : {list small : List ℕ} {start n : ℕ} {number : List ℕ} → BeforeRows list small start n number → length (held_rows list small start n) ≡ n - 1
unfolding held_rows
rows_long {list} {small} {start} {n} H = rows_length n (λ c. c) (held_merges list small start n) ∙ merges_long H

-- the first t rows are done: the others come of what number has then
pub record Numbered (list small : List ℕ) (start n : ℕ) (number₀ number : List ℕ) (t : ℕ) : Type 0 where
  pub given : BeforeRows list small start n number₀
  pub high : t ≤ n - 1
  pub same_number : length number ≡ length number₀
  pub ahead : drop t (held_rows list small start n) ≡ rows_from (n + t) (λ c. get_or number c 0) (drop t (held_merges list small start n))

pub numbered_start : {list small : List ℕ} {start n : ℕ} {number : List ℕ} → BeforeRows list small start n number → Numbered list small start n number number 0
unfolding held_rows
numbered_start {list} {small} {start} {n} {number} H =
    let z : n + 0 ≡ n = omega arith in
    record {
      given = H;
      high = omega arith;
      same_number = refl;
      ahead = rw z (rows_cong n n (λ c. c) (λ c. get_or number c 0) (held_merges list small start n) (λ c h. sym (H.itself c h)) H.names);
    }

-- the numbers of a turn: a and b are the names of merge t
pub record NextMerge (list small : List ℕ) (start n : ℕ) (number : List ℕ) (t a b : ℕ) : Type 0 where
  pub merge : get_or (held_merges list small start n) t (0, 0) ≡ (a, b)
  pub name_a : a < n
  pub name_b : b < n
  pub few : n ≤ 1024
  pub in_small : b < length small
  pub a_in_number : a < length number
  pub b_in_number : b < length number

pub next_merge : {list small : List ℕ} {start n : ℕ} {number₀ number : List ℕ} {t a b : ℕ} → Numbered list small start n number₀ number t → t < n - 1 → b ≡ get_or list (start + t) 0 → a ≡ get_or small b 0 → NextMerge list small start n number t a b
unfolding held_merges
next_merge {list} {small} {start} {n} {number₀} {number} {t} {a} {b} N h eb ea =
    let H = N.given in
    let P = held_merges list small start n in
    let room = H.in_list in
    let e : get_or P t (0, 0) ≡ (a, b) =
    merge_at list small start (n - 1) P refl t h (omega (arith, length-take (n - 1) (drop start list), length-drop start list))
    ∙ ap₂ (λ (x y : ℕ). (x, y)) (sym (rw eb at ea)) (sym eb) in
    let i = inside_at n P H.names t (omega (arith, merges_long H)) in
    let la : a < n = omega (arith, i.0, ap (λ (m : Merge). m.0) e) in
    let lb : b < n = omega (arith, i.1, ap (λ (m : Merge). m.1) e) in
    record {
      merge = e;
      name_a = la;
      name_b = lb;
      few = H.few;
      in_small = omega (arith, H.in_small);
      a_in_number = omega (arith, H.in_number, N.same_number);
      b_in_number = omega (arith, H.in_number, N.same_number);
    }

-- the node of the merged cluster
renumbered : (number : List ℕ) (a q c : ℕ) → a < length number → cond (eqb c a) q (get_or number c 0) ≡ get_or (set number a q) c 0
renumbered number a q c h = go (eqb c a) refl
  where
    go : (b : Bool) → eqb c a ≡ b → cond b q (get_or number c 0) ≡ get_or (set number a q) c 0
    go true e = let z = eqb-true c a e in rw z (sym (get_or-set_same number a q 0 h))
    go false e = sym (get_or-set_other number a c q 0 (eqb-false c a e))

-- row t, and the rows behind it
module _ {list small : List ℕ} {start n : ℕ} {number₀ number : List ℕ} {t a b : ℕ} (N : Numbered list small start n number₀ number t) (h : t < n - 1) (eb : b ≡ get_or list (start + t) 0) (ea : a ≡ get_or small b 0) where
  T : NextMerge list small start n number t a b
  T = next_merge N h eb ea

  row_here : drop t (held_rows list small start n)
      ≡ (get_or number a 0, get_or number b 0, n + t) ∷ rows_from (n + t + 1) (λ c. cond (eqb c a) (n + t) (get_or number c 0)) (drop (suc t) (held_merges list small start n))
  unfolding rows_from
  row_here =
      let P = held_merges list small start n in
      let e : drop t P ≡ (a, b) ∷ drop (suc t) P =
      drop-cons P t (0, 0) (omega (arith, merges_long N.given)) ∙ ap (λ (m : Merge). m ∷ drop (suc t) P) T.merge in
      N.ahead ∙ ap (rows_from (n + t) (λ c. get_or number c 0)) e

  pub row_at : get_or (held_rows list small start n) t (0, 0, 0) ≡ (get_or number a 0, get_or number b 0, n + t)
  row_at =
      let z : t + 0 ≡ t = omega arith in
      sym (rw z at (get_or-drop t (held_rows list small start n) 0 (0, 0, 0))) ∙ ap (λ (rs : List Row). get_or rs 0 (0, 0, 0)) row_here

  pub numbered_next : Numbered list small start n number₀ (set number a (n + t)) (t + 1)
  numbered_next =
      let H = N.given in
      let rows = held_rows list small start n in
      let P = held_merges list small start n in
      let z : n + (t + 1) ≡ n + t + 1 = omega arith in
      record {
        given = H;
        high = omega arith;
        same_number = length-set number a (n + t) ∙ N.same_number;
        ahead =
            rw z
            (sym (drop-drop 1 t rows) ∙ ap (drop 1) row_here
            ∙ rw (add-one t)
            (rows_cong n (n + t + 1) (λ c. cond (eqb c a) (n + t) (get_or number c 0)) (λ c. get_or (set number a (n + t)) c 0) (drop (suc t) P)
            (λ c g. renumbered number a (n + t) c T.a_in_number) (inside_drop n (suc t) P H.names)));
      }

-- the names of a vector's merges are its leaves
pub pairs_inside : (v : List ℕ) → Valid v → Inside (length v) (pairs v)
unfolding pairs
pairs_inside v ok =
    inside (length v) (pairs_of (entry v) (length v)) (under_pairs (entry v) (length v)) (rising (entry v) (length v) (valid_bounded v ok))

pub before_rows : {v list small : List ℕ} {start : ℕ} {number : List ℕ} → Vector v → MergesOf v list small start → length number ≡ 1024
    → ((c : ℕ) → c < length v → get_or number c 0 ≡ c) → BeforeRows list small start (length v) number
unfolding held_merges
before_rows {v} V M ln itself =
    let few = V.few in
    let size = M.size in
    let size_small = M.size_small in
    let inside = M.inside in
    record {
      some = V.valid.some_leaf;
      few = few;
      in_list = omega arith;
      in_small = omega arith;
      in_number = omega arith;
      names = rw M.listed (pairs_inside v V.valid);
      itself = itself;
    }

pub rows_of_pairs : (v list small : List ℕ) (start : ℕ) → map (held small) (take (length v - 1) (drop start list)) ≡ pairs v → held_rows list small start (length v) ≡ vector_rows v
unfolding held_rows held_merges
rows_of_pairs v list small start e = rw e

pub rows_of_merges : {v list small : List ℕ} {start : ℕ} → MergesOf v list small start → held_rows list small start (length v) ≡ vector_rows v
rows_of_merges {v} {list} {small} {start} M = rows_of_pairs v list small start M.listed
