-- Rows that are known to be accepted, given by their children.
-- Main definitions: Children, Added. Main results: row_ok, added_inside, some_adds, added_start, added_next, added_end.
use Rattle.std.specs.Prelude.{◌≡◌, List, [], ◌∷◌, ◌++◌, Bool, false, ℕ, zero, suc, ◌+◌, ◌-◌, ◌≤◌, ◌<◌, min, max, length, get_or, take, drop}
use Rattle.std.proofs.Math.Path.{refl}
use Rattle.std.proofs.Common.{sym, ap, ◌∙◌, subst, add-one, arith, length-take, take-append-drop, take-suc, drop-cons, take_all}
use Rattle.std.proofs.Math.Option.{none}
use Rattle.rules.specs.Tree.{Tree}
use Rattle.rules.specs.Table.{Row, row_fault, table_fault, table_tree}
use Rattle.read_tables.specs.Forest.{RowOk}
use Rattle.read_tables.proofs.Forest.{fault_append, fault_none, fault_step}
use Rattle.chains.specs.Walk.{cell}
use Rattle.chains.specs.Built.{taken, Built, Adds, built_end}
use Rattle.chains.specs.Drawn.{Drawn}

-- the n-1 accepted rows rs have these first and second children
pub record Children (n : ℕ) (left right : List ℕ) (rs : List Row) : Type 0 where
  pub count : length rs ≡ n - 1
  pub accepted : table_fault n rs ≡ none
  pub each : (t : ℕ) → t < n - 1 → get_or rs t (0, 0, 0) ≡ (get_or left t 0, get_or right t 0, n + t)

-- the first rows of rows with no fault have none
first_rows : (n t : ℕ) (named : ℕ → Bool) (rs : List Row) (k : ℕ) → row_fault n t named rs ≡ none → row_fault n t named (take k rs) ≡ none
first_rows n t named rs zero e = unfold row_fault in refl
first_rows n t named [] (suc k) e = e
first_rows n t named (r ∷ rs) (suc k) e =
    let w = fault_none n t named r rs e in
    fault_step n t named r (take k rs) w.0 ∙ first_rows n (t + 1) _ rs k w.1

-- each of them is accepted behind those before it
pub row_ok : (n : ℕ) (rs : List Row) (t : ℕ) → table_fault n rs ≡ none → t < length rs → RowOk n t (taken (take t rs)) (get_or rs t (0, 0, 0))
unfolding table_fault
row_ok n rs t e h =
    let l : length (take t rs) ≡ t = omega (arith, length-take t rs) in
    let z : 0 + length (take t rs) ≡ t = omega arith in
    let q : row_fault n t (taken (take t rs)) (get_or rs t (0, 0, 0) ∷ drop (suc t) rs) ≡ none =
    ap (λ (qs : List Row). row_fault n t (taken (take t rs)) qs) (sym (drop-cons rs t (0, 0, 0) h))
    ∙ ap (λ (k : ℕ). row_fault n k (taken (take t rs)) (drop t rs)) (sym z)
    ∙ sym (fault_append n 0 (λ c. false) (take t rs) (drop t rs) (first_rows n 0 (λ c. false) rs t e))
    ∙ ap (row_fault n 0 (λ c. false)) (take-append-drop t rs) ∙ e in
    (fault_none n t (taken (take t rs)) (get_or rs t (0, 0, 0)) (drop (suc t) rs) q).0

-- t rows are added, whatever rows have these children
pub record Added (n : ℕ) (left right : List ℕ) (t : ℕ) (names lows small next last : List ℕ) : Type 0 where
  pub so_far : t ≤ n - 1
  pub few : n ≤ 1024
  pub left_room : n - 1 ≤ length left
  pub right_room : n - 1 ≤ length right
  pub some_rows : (rs : List Row) × Children n left right rs
  pub built : (rs : List Row) → Children n left right rs → Built n (take t rs) names lows small next last

pub added_start : {n : ℕ} {left right names lows small next last : List ℕ} → n ≤ 1024 → n - 1 ≤ length left → n - 1 ≤ length right
    → (rs : List Row) × Children n left right rs → Built n [] names lows small next last → Added n left right 0 names lows small next last
added_start h l r s B = record {
  so_far = omega arith;
  few = h;
  left_room = l;
  right_room = r;
  some_rows = s;
  built = λ rs C. B;
}

-- row t, with the children that stand at t, can be added
adds : {n : ℕ} {left right : List ℕ} {t : ℕ} {names lows small next last : List ℕ} → Added n left right t names lows small next last → t < n - 1
    → (rs : List Row) → Children n left right rs → Adds n (take t rs) (n + t) (get_or left t 0) (get_or right t 0)
    (min (cell names (get_or left t 0)) (cell names (get_or right t 0))) (max (cell names (get_or left t 0)) (cell names (get_or right t 0))) names lows small next last
adds {n} {left} {right} {t} {names} A h rs C =
    let c = C.count in
    let l : length (take t rs) ≡ t = omega (arith, length-take t rs) in
    record {
      before = names;
      built = A.built rs C;
      others = λ k a b. refl;
      same = refl;
      smaller_name = refl;
      larger_name = refl;
      count = ap (λ (k : ℕ). n + k) (sym l);
      row = rw l (subst (RowOk n t (taken (take t rs))) (C.each t h) (row_ok n rs t C.accepted (omega arith)));
    }

pub added_inside : {n : ℕ} {left right : List ℕ} {t l r : ℕ} {names lows small next last : List ℕ} → Added n left right t names lows small next last → t < n - 1
    → l ≡ get_or left t 0 → r ≡ get_or right t 0 → (l < length names) × (r < length names) × (l < 2048) × (r < 2048)
added_inside {t = t} A h p q =
    let a = adds A h A.some_rows.0 A.some_rows.1 in
    let c = A.some_rows.1.count in
    omega (arith, a.row.first, a.row.second, a.built.names_room, A.few, length-take t A.some_rows.0)

pub some_adds : {n : ℕ} {left right : List ℕ} {t l r x y a i : ℕ} {names lows small next last : List ℕ} → Added n left right t names lows small next last → t < n - 1
    → l ≡ get_or left t 0 → r ≡ get_or right t 0 → x ≡ cell names l → y ≡ cell names r → a ≡ min x y → i ≡ max x y
    → (m : ℕ) × (rs : List Row) × Adds m rs (n + t) l r a i names lows small next last
some_adds {n} {t = t} A h p q u v ea ei = rw (ea, ei) (rw (u, v) (rw (p, q) (n, take t A.some_rows.0, adds A h A.some_rows.0 A.some_rows.1)))

pub added_next : {n : ℕ} {left right : List ℕ} {t l r x y a i : ℕ} {names lows small next last names' lows' small' next' last' : List ℕ}
    → Added n left right t names lows small next last → t < n - 1 → l ≡ get_or left t 0 → r ≡ get_or right t 0 → x ≡ cell names l → y ≡ cell names r
    → a ≡ min x y → i ≡ max x y
    → ((m : ℕ) (rs : List Row) → Adds m rs (n + t) l r a i names lows small next last → Built m (rs ++ ((l, r, n + t) ∷ [])) names' lows' small' next' last')
    → Added n left right (t + 1) names' lows' small' next' last'
added_next {n} {left} {right} {t} {l} {r} {x} {y} {a = g} {i = j} {names} {lows} {small} {next} {last} {names' = a} {lows' = b} {small' = c} {next' = d} {last' = e} A h p q u v ea ei f = record {
  so_far = omega arith;
  few = A.few;
  left_room = A.left_room;
  right_room = A.right_room;
  some_rows = A.some_rows;
  built = λ rs C.
      let k = C.count in
      let ads : Adds n (take t rs) (n + t) l r g j names lows small next last = rw (ea, ei) (rw (u, v) (rw (p, q) (adds A h rs C))) in
      let row : get_or rs t (0, 0, 0) ≡ (l, r, n + t) = C.each t h ∙ (λ i. (sym p i, sym q i, n + t)) in
      let more : take t rs ++ ((l, r, n + t) ∷ []) ≡ take (t + 1) rs =
      ap (λ (x : Row). take t rs ++ (x ∷ [])) (sym row) ∙ sym (take-suc rs t (0, 0, 0) (omega arith)) ∙ ap (λ (j : ℕ). take j rs) (sym (add-one t)) in
      subst (λ (qs : List Row). Built n qs a b c d e) more (f n (take t rs) ads);
}

-- all rows are added: the arrays draw the tree
pub added_end : {n : ℕ} {left right : List ℕ} {t : ℕ} {names lows small next last : List ℕ} → Added n left right t names lows small next last → n - 1 ≤ t → 1 ≤ n
    → (rs : List Row) → Children n left right rs → Drawn n (table_tree n rs) small next last
added_end {n} {t = t} {names} {lows} {small} {next} {last} A h l rs C =
    let c = C.count in
    let s = A.so_far in
    let e : take t rs ≡ rs = take_all t rs (omega arith) in
    built_end (subst (λ (qs : List Row). Built n qs names lows small next last) e (A.built rs C)) c l

pub some_tree : {n : ℕ} {left right : List ℕ} {t : ℕ} {names lows small next last : List ℕ} → Added n left right t names lows small next last → n - 1 ≤ t → 1 ≤ n
    → (u : Tree) × Drawn n u small next last
some_tree {n} A h l = (table_tree n A.some_rows.0, added_end A h l A.some_rows.0 A.some_rows.1)

pub added_all : {n : ℕ} {left right : List ℕ} {t : ℕ} {names lows small next last : List ℕ} → Added n left right t names lows small next last → n - 1 ≤ t
    → Added n left right (n - 1) names lows small next last
added_all {n} {left} {right} {t} {names} {lows} {small} {next} {last} A h =
    let s = A.so_far in
    let e : t ≡ n - 1 = omega arith in
    subst (λ (k : ℕ). Added n left right k names lows small next last) e A
