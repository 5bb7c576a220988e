-- The rows of a table, read one by one.
-- Main definitions: Reads, RowAt, AllRead. Main results: reads_start, reads_named, adds_some, reads_next, reads_fault, reads_end.
use Rattle.std.specs.Prelude.{◌≡◌, ◌≢◌, Bool, ◌||◌, ltb, length, get_or, set, take, drop}
use Rattle.std.proofs.Math.Path.{refl, sym, subst}
use Rattle.std.proofs.Common.{ap, ap₂, ◌∙◌, ⊎_elim, add-one, arith, length-take, length-set, take-append-drop, get_or-set_same, take_all}
use Rattle.std.proofs.Math.Bool.{true, false}
use Rattle.std.proofs.lemmas.Bool.{false≢true}
use mathlib.Core.List.{List, [], ◌∷◌, ◌++◌}
use Rattle.std.proofs.Math.Option.{none, some}
use Prim.Native.Nat.{ℕ, suc, ◌+◌, ◌-◌, ◌*◌, ◌≤◌, ◌<◌, min, max}
use Rattle.std.proofs.Math.Dec.{eqb}
use Rattle.std.proofs.Math.Seq.{get_or-set_other}
use borrow.Author.Tests.{eqb-true, eqb-false}
use Rattle.rules.specs.Tree.{least}
use Rattle.rules.specs.Table.{Row, rows_of, named_twice, row_fault, table_fault}
use Rattle.basics.proofs.Bools.{or_cases}
use Rattle.clades.proofs.Leaves.{least_has}
use Rattle.read_tables.specs.Forest.{RowOk, named_in, named_also}
use Rattle.read_tables.proofs.Forest.{named_snoc, fault_append, fault_step}
use Rattle.chains.specs.Walk.{cell}
use Rattle.chains.specs.Built.{taken, nodes, Built, Adds}
use Rattle.written_tables.proofs.Flat.{rows_of_length}
use Rattle.written_tables.specs.RowAt.{row_at}
use Rattle.written_tables.proofs.RowAt.{rows_drop, rows_take}
use Rattle.row_checks.specs.Mark.{mark}
use Rattle.row_checks.specs.Verdict.{verdict, verdict_fault, placed, named_verdict, placed_row, in_place}

-- t rows are read: accepted, added to the arrays, their children marked
pub record Reads (n : ℕ) (xs : List ℕ) (t : ℕ) (names lows small next last : List ℕ) : Type 0 where
  pub some_leaf : 1 ≤ n
  pub few : n ≤ 1024
  pub count : length xs ≡ 3 * (n - 1)
  pub so_far : t ≤ n - 1
  pub marked : (c : ℕ) → taken (take t (rows_of xs)) c ≡ true → cell names c ≡ mark
  pub clean : row_fault n 0 (λ c. false) (take t (rows_of xs)) ≡ none
  pub built : Built n (take t (rows_of xs)) names lows small next last

-- no row is read yet
pub reads_start : {n : ℕ} {xs names lows small next last : List ℕ} → 1 ≤ n → n ≤ 1024 → length xs ≡ 3 * (n - 1) → Built n [] names lows small next last
    → Reads n xs 0 names lows small next last
unfolding named_in
reads_start {xs = xs} l h e B = record {
  some_leaf = l;
  few = h;
  count = e;
  so_far = omega arith;
  marked = λ c q. absurd (false≢true q);
  clean = unfold row_fault in refl;
  built = B;
}

-- how many rows there are, and that t of them are taken
rows_read : (n : ℕ) (xs : List ℕ) (t : ℕ) → length xs ≡ 3 * (n - 1) → t ≤ n - 1 → length (take t (rows_of xs)) ≡ t
rows_read n xs t e h = omega (arith, length-take t (rows_of xs), rows_of_length (n - 1) xs e)

-- What is known of row t: its three numbers, as they stand in the table.
pub record RowAt (n : ℕ) (xs : List ℕ) (t l r p : ℕ) : Type 0 where
  pub inside : t < n - 1
  pub first : get_or xs (3 * t) 0 ≡ l
  pub second : get_or xs (3 * t + 1) 0 ≡ r
  pub parent : get_or xs (3 * t + 2) 0 ≡ p

zero_more : (j : ℕ) → 0 + j ≡ j
zero_more j = omega arith

other_name : (x y : ℕ) → x + y - max x y ≡ min x y
other_name x y = omega arith

row_of : (n : ℕ) (xs : List ℕ) (t l r p : ℕ) → RowAt n xs t l r p → row_at xs t ≡ (l, r, p)
unfolding row_at
row_of n xs t l r p A = λ i. (A.first i, A.second i, A.parent i)

-- Row t, whose parent and children are in place.
module _ {n : ℕ} {xs : List ℕ} {t l r p : ℕ} {names lows small next last : List ℕ} (R : Reads n xs t names lows small next last) (A : RowAt n xs t l r p)
    (v : ltb 0 (placed (n + t) (l, r, p)) ≡ false) where
  abbrev before : List Row
  before = take t (rows_of xs)

  long : length before ≡ t
  long = rows_read n xs t R.count R.so_far

  there : (p ≡ n + t) × (l < n + t) × (r < n + t)
  there = placed_row (n + t) (l, r, p) (in_place (n + t) (l, r, p) v)

  pub reads_inside : (l < length names) × (r < length names)
  reads_inside = let a = there in omega (arith, R.built.names_room, A.inside)

  -- a name that stands is that of a node not taken
  free : (c : ℕ) → cell names c < mark → taken before c ≡ false
  free c h = go (taken before c) refl
    where
      go : (b : Bool) → taken before c ≡ b → b ≡ false
      go true e = absurd (omega (arith, R.marked c e))
      go false e = refl

  -- a node not taken has a name
  low : (c : ℕ) → c < n + t → taken before c ≡ false → cell names c < 1024
  low c h e =
      let k : c < n + length before = omega (arith, long) in
      let B = R.built in
      omega (arith, (B.free c k e).name, B.forest.below c (least (nodes before c)) k (least_has (nodes before c)), R.few)

  -- and a node that is taken the mark
  high : (c : ℕ) → c < n + t → cell names c ≤ mark
  high c h = go (taken before c) refl
    where
      go : (b : Bool) → taken before c ≡ b → cell names c ≤ mark
      go true e = omega (arith, R.marked c e)
      go false e = omega (arith, low c h e)

  -- x and y are what names has of its children; the first is marked before the second is looked up
  module _ {x y : ℕ} {names₁ names₂ : List ℕ} (ex : x ≡ cell names l) (e₁ : names₁ ≡ set names l mark) (ey : y ≡ cell names₁ r) (e₂ : names₂ ≡ set names₁ r mark) where
    both : names₂ ≡ set (set names l mark) r mark
    both = e₂ ∙ ap (λ (ys : List ℕ). set ys r mark) e₁

    looked : y ≡ cell (set names l mark) r
    looked = ey ∙ ap (λ (ys : List ℕ). cell ys r) e₁

    pub reads_few : x + y ≤ mark + mark
    reads_few = go (eqb l r) refl
      where
        go : (b : Bool) → eqb l r ≡ b → x + y ≤ mark + mark
        go true q =
            let e : y ≡ mark = looked ∙ ap (cell (set names l mark)) (sym (eqb-true l r q)) ∙ get_or-set_same names l mark 0 reads_inside.0 in
            omega (arith, high l there.1)
        go false q =
            let e : y ≡ cell names r = looked ∙ get_or-set_other names l r mark 0 (λ z. eqb-false l r q (sym z)) in
            omega (arith, high l there.1, high r there.2)

    -- a mark: a child is named before, or twice
    pub reads_named : mark ≤ x + y → 7 ≡ verdict (taken before) (n + t) (l, r, p)
    unfolding named_twice
    reads_named h = named_verdict (taken before) (n + t) (l, r, p) (in_place (n + t) (l, r, p) v) (go (taken before l) refl (taken before r) refl (eqb l r) refl)
      where
        go : (a : Bool) → taken before l ≡ a → (b : Bool) → taken before r ≡ b → (c : Bool) → eqb l r ≡ c → taken before l || taken before r || eqb l r ≡ true
        go true q b s c w = rw q
        go false q true s c w = rw (q, s)
        go false q false s true w = rw (q, s, w)
        go false q false s false w =
            let e : y ≡ cell names r = looked ∙ get_or-set_other names l r mark 0 (λ z. eqb-false l r w (sym z)) in
            absurd (omega (arith, low l there.1 q, low r there.2 s))

    -- no mark
    module _ (h : x + y < mark) where
      differ : l ≢ r
      differ e =
          let z : y ≡ mark = looked ∙ ap (cell (set names l mark)) (sym e) ∙ get_or-set_same names l mark 0 reads_inside.0 in
          omega arith

      second : y ≡ cell names r
      second = looked ∙ get_or-set_other names l r mark 0 (λ e. differ (sym e))

      row_fits : RowOk n t (taken before) (l, r, n + t)
      row_fits = record {
        parent = refl;
        first = there.1;
        second = there.2;
        first_new = free l (omega arith);
        second_new = free r (let e = second in omega arith);
        differ = differ;
      }

      -- i is the larger name
      module _ {i : ℕ} (ei : i ≡ max x y) where
        reads_adds : Adds n before (n + t) l r (x + y - i) i names₂ lows small next last
        reads_adds = record {
          before = names;
          built = R.built;
          others = λ k a b. ap (λ (ys : List ℕ). cell ys k) both ∙ get_or-set_other (set names l mark) r k mark 0 b ∙ get_or-set_other names l k mark 0 a;
          same = ap length both ∙ length-set (set names l mark) r mark ∙ length-set names l mark;
          smaller_name = ap (λ (j : ℕ). x + y - j) ei ∙ other_name x y ∙ ap₂ min ex second;
          larger_name = ei ∙ ap₂ max ex second;
          count = ap (λ (j : ℕ). n + j) (sym long);
          row = rw long row_fits;
        }

        pub adds_some : (m : ℕ) × (rs : List Row) × Adds m rs (n + t) l r (x + y - i) i names₂ lows small next last
        adds_some = (n, before, reads_adds)

        -- a row more is read
        pub reads_next : {names' lows' small' next' last' : List ℕ} → names' ≡ set names₂ (n + t) (x + y - i)
            → ((m : ℕ) (rs : List Row) → Adds m rs (n + t) l r (x + y - i) i names₂ lows small next last
            → Built m (rs ++ ((l, r, n + t) ∷ [])) names' lows' small' next' last')
            → Reads n xs (t + 1) names' lows' small' next' last'
        reads_next {names'} {lows'} {small'} {next'} {last'} e f =
            let row : row_at xs t ≡ (l, r, n + t) = row_of n xs t l r p A ∙ ap (λ (q : ℕ). (l, r, q)) there.0 in
            let more : take (t + 1) (rows_of xs) ≡ before ++ ((l, r, n + t) ∷ []) =
            ap (λ (k : ℕ). take k (rows_of xs)) (add-one t) ∙ rows_take (n - 1) xs t R.count A.inside ∙ ap (λ (q : Row). before ++ (q ∷ [])) row in
            record {
              some_leaf = R.some_leaf;
              few = R.few;
              count = R.count;
              so_far = let i = A.inside in omega arith;
              marked = λ c q. marks c (also c (sym (ap (λ (rs : List Row). taken rs c) more) ∙ q));
              clean = ap (row_fault n 0 (λ c. false)) more ∙ fault_append n 0 (λ c. false) before ((l, r, n + t) ∷ []) R.clean
                  ∙ ap (λ (j : ℕ). row_fault n j (taken before) ((l, r, n + t) ∷ [])) (ap (λ (j : ℕ). 0 + j) long ∙ zero_more t)
                  ∙ fault_step n t (taken before) (l, r, n + t) [] row_fits ∙ unfold row_fault in refl;
              built = subst (λ (rs : List Row). Built n rs names' lows' small' next' last') (sym more) (f n before reads_adds);
            }
          where
            also : (c : ℕ) → taken (before ++ ((l, r, n + t) ∷ [])) c ≡ true → (taken before c || eqb c l) || eqb c r ≡ true
            also c q = unfold named_also in sym (ap (λ (g : ℕ → Bool). g c) (named_snoc (λ c. false) before (l, r, n + t))) ∙ q

            other : (c : ℕ) → c < n + t → cell names' c ≡ cell (set (set names l mark) r mark) c
            other c k = ap (λ (ys : List ℕ). cell ys c) e ∙ get_or-set_other names₂ (n + t) c (x + y - i) 0 (omega arith) ∙ ap (λ (ys : List ℕ). cell ys c) both

            is_second : (c : ℕ) → eqb c r ≡ true → cell names' c ≡ mark
            is_second c q = rw (eqb-true c r q) (other r there.2 ∙ get_or-set_same (set names l mark) r mark 0 (let i = reads_inside in omega (arith, length-set names l mark)))

            is_first : (c : ℕ) → eqb c l ≡ true → cell names' c ≡ mark
            is_first c q =
                rw (eqb-true c l q)
                (other l there.1 ∙ get_or-set_other (set names l mark) r l mark 0 differ ∙ get_or-set_same names l mark 0 reads_inside.0)

            is_old : (c : ℕ) → taken before c ≡ true → (a : Bool) → eqb c l ≡ a → (b : Bool) → eqb c r ≡ b → cell names' c ≡ mark
            is_old c q true u b w = is_first c u
            is_old c q false u true w = is_second c w
            is_old c q false u false w =
                other c (omega (arith, R.built.forest.early c q, long))
                ∙ get_or-set_other (set names l mark) r c mark 0 (eqb-false c r w) ∙ get_or-set_other names l c mark 0 (eqb-false c l u) ∙ R.marked c q

            marks : (c : ℕ) → (taken before c || eqb c l) || eqb c r ≡ true → cell names' c ≡ mark
            marks c q = ⊎_elim (λ a. ⊎_elim (λ b. is_old c b (eqb c l) refl (eqb c r) refl) (is_first c) (or_cases (taken before c) (eqb c l) a)) (is_second c)
                (or_cases (taken before c || eqb c l) (eqb c r) q)

-- the first row that is refused is the fault of the table
pub reads_fault : {n : ℕ} {xs : List ℕ} {t l r p : ℕ} {names lows small next last : List ℕ} → Reads n xs t names lows small next last
    → RowAt n xs t l r p → verdict (taken (take t (rows_of xs))) (n + t) (l, r, p) ≢ 0
    → table_fault n (rows_of xs) ≡ some (verdict (taken (take t (rows_of xs))) (n + t) (l, r, p), t)
unfolding table_fault
reads_fault {n} {xs} {t} {l} {r} {p} R A d =
    let named₀ = taken (take t (rows_of xs)) in
    let k = rows_read n xs t R.count R.so_far in
    ap (row_fault n 0 (λ c. false)) (sym (take-append-drop t (rows_of xs)))
    ∙ fault_append n 0 (λ c. false) (take t (rows_of xs)) (drop t (rows_of xs)) R.clean
    ∙ ap₂ (λ (j : ℕ) (rs : List Row). row_fault n j named₀ rs) (ap (λ (j : ℕ). 0 + j) k ∙ zero_more t)
    (rows_drop (n - 1) xs t R.count A.inside ∙ ap (λ (q : Row). q ∷ drop (suc t) (rows_of xs)) (row_of n xs t l r p A))
    ∙ verdict_fault n t named₀ (l, r, p) (drop (suc t) (rows_of xs)) d

-- all rows are read
pub record AllRead (n : ℕ) (xs names lows small next last : List ℕ) : Type 0 where
  pub no_fault : table_fault n (rows_of xs) ≡ none
  pub count : length (rows_of xs) ≡ n - 1
  pub built : Built n (rows_of xs) names lows small next last

pub reads_end : {n : ℕ} {xs : List ℕ} {t : ℕ} {names lows small next last : List ℕ} → Reads n xs t names lows small next last → n - 1 ≤ t
    → AllRead n xs names lows small next last
unfolding table_fault
reads_end {n} {xs} {t} {names = a} {lows = b} {small = c} {next = d} {last = e'} R h =
    let k = rows_of_length (n - 1) xs R.count in
    let so = R.so_far in
    let e : take t (rows_of xs) ≡ rows_of xs = take_all t (rows_of xs) (omega arith) in
    record {
      no_fault = rw e at R.clean;
      count = k;
      built = subst (λ (rs : List Row). Built n rs a b c d e') e R.built;
    }
