-- The loop that writes the children of the rows into two lists.
-- Main definition: Columns. Main results: columns_start, columns_next, columns_end.
use Rattle.std.specs.Prelude.{◌≡◌, refl, List, ◌++◌, map, ℕ, ◌+◌, ◌-◌, ◌≤◌, ◌<◌, length, drop, get_or, set}
use Rattle.std.proofs.Common.{sym, ap, ◌∙◌, arith, length-set, take_all}
use Rattle.std.proofs.lemmas.List.{length-map}
use Rattle.std.proofs.Math.ListN.{get_or-map}
use Rattle.lists.specs.Front.{mix, mix_start, mix_step}
use Rattle.written_tables.specs.Rows.{first, second}
use Rattle.numbering.specs.Numbered.{held_rows, rows_long, BeforeRows, Numbered, numbered_start, numbered_next, row_at}

-- the children of the first t rows are written
pub record Columns (list small : List ℕ) (start n : ℕ) (number₀ left₀ right₀ number left right : List ℕ) (t : ℕ) : Type 0 where
  pub numbered : Numbered list small start n number₀ number t
  pub in_left : n - 1 ≤ length left₀
  pub in_right : n - 1 ≤ length right₀
  pub same_left : length left ≡ length left₀
  pub same_right : length right ≡ length right₀
  pub lefts : left ≡ mix t (map first (held_rows list small start n)) left₀
  pub rights : right ≡ mix t (map second (held_rows list small start n)) right₀

pub columns_start : {list small : List ℕ} {start n : ℕ} {number left right : List ℕ} → BeforeRows list small start n number → n - 1 ≤ length left → n - 1 ≤ length right
    → Columns list small start n number left right number left right 0
columns_start {list} {small} {start} {n} {number} {left} {right} H l r = record {
  numbered = numbered_start H;
  in_left = l;
  in_right = r;
  same_left = refl;
  same_right = refl;
  lefts = mix_start (map first (held_rows list small start n)) left;
  rights = mix_start (map second (held_rows list small start n)) right;
}

pub columns_next : {list small : List ℕ} {start n : ℕ} {number₀ left₀ right₀ number left right : List ℕ} {t a b : ℕ} → Columns list small start n number₀ left₀ right₀ number left right t
    → t < n - 1 → b ≡ get_or list (start + t) 0 → a ≡ get_or small b 0
    → Columns list small start n number₀ left₀ right₀ (set number a (n + t)) (set left t (get_or number a 0)) (set right t (get_or number b 0)) (t + 1)
columns_next {list} {small} {start} {n} {number₀} {left₀} {right₀} {number} {left} {right} {t} {a} {b} C h eb ea =
    let N = C.numbered in
    let rows = held_rows list small start n in
    let long = rows_long N.given in
    let in_left = C.in_left in
    let in_right = C.in_right in
    let l : get_or number a 0 ≡ get_or (map first rows) t 0 = sym (get_or-map first rows t (0, 0, 0) ∙ ap first (row_at N h eb ea)) in
    let r : get_or number b 0 ≡ get_or (map second rows) t 0 = sym (get_or-map second rows t (0, 0, 0) ∙ ap second (row_at N h eb ea)) in
    record {
      numbered = numbered_next N h eb ea;
      in_left = C.in_left;
      in_right = C.in_right;
      same_left = length-set left t (get_or number a 0) ∙ C.same_left;
      same_right = length-set right t (get_or number b 0) ∙ C.same_right;
      lefts = rw (l, C.lefts) (mix_step (map first rows) left₀ t (omega (arith, length-map rows first)) (omega arith));
      rights = rw (r, C.rights) (mix_step (map second rows) right₀ t (omega (arith, length-map rows second)) (omega arith));
    }

pub columns_end : {list small : List ℕ} {start n : ℕ} {number₀ left₀ right₀ number left right : List ℕ} {t : ℕ} → Columns list small start n number₀ left₀ right₀ number left right t → n - 1 ≤ t
    → (left ≡ map first (held_rows list small start n) ++ drop (n - 1) left₀) × (right ≡ map second (held_rows list small start n) ++ drop (n - 1) right₀)
unfolding mix
columns_end {list} {small} {start} {n} {number₀} {left₀} {right₀} {number} {left} {right} {t} C h =
    let rows = held_rows list small start n in
    let long = rows_long C.numbered.given in
    let z : t ≡ n - 1 = omega (arith, C.numbered.high) in (
      rw z at C.lefts ∙ ap (λ (l : List ℕ). l ++ drop (n - 1) left₀) (take_all (n - 1) (map first rows) (omega (arith, length-map rows first))),
      rw z at C.rights ∙ ap (λ (l : List ℕ). l ++ drop (n - 1) right₀) (take_all (n - 1) (map second rows) (omega (arith, length-map rows second))),
    )
