-- The loop that writes rows, given by their children, as numbers in a row.
-- Main definitions: child_rows, Written. Main results: written_start, written_next, written_end, rows_of_children.
use Rattle.std.specs.Prelude.{◌≡◌, refl, List, ◌++◌, map, ℕ, ◌+◌, ◌-◌, ◌*◌, ◌≤◌, ◌<◌, length, take, drop, get_or, set}
use Rattle.std.proofs.Common.{sym, ap, ap₂, ◌∙◌, arith, length-set, length-take, take_all, take_at, get_or-take}
use Rattle.std.proofs.lemmas.List.{length-map}
use Rattle.rules.specs.Vector.{entry}
use Rattle.rules.specs.Table.{Row, flat, rows_from}
use Rattle.lists.specs.Front.{mix, mix_start, mix_step}
use Rattle.merging.specs.Insertion.{pairs}
use Rattle.merging.proofs.Insertion.{pairs_count}
use Rattle.written_tables.proofs.Flat.{flat_length, flat_first, flat_second, flat_parent}
use Rattle.written_tables.specs.Rows.{first, second, vector_rows}
use Rattle.written_tables.proofs.Rows.{rows_length, tied_rows}
use Rattle.written_tables.specs.Tied.{tied}
use Rattle.written_tables.proofs.Tied.{tied_length, tied_at}

-- the n - 1 rows with these children: the parent of row t is n + t
unfoldable pub child_rows : ℕ → List ℕ → List ℕ → List Row
child_rows n left right = tied n (take (n - 1) left) (take (n - 1) right)

-- the first t rows are written
pub record Written (n : ℕ) (left right out₀ out : List ℕ) (parent t : ℕ) : Type 0 where
  pub some : 1 ≤ n
  pub few : n ≤ 1024
  pub in_left : n - 1 ≤ length left
  pub in_right : n - 1 ≤ length right
  pub room : 3 * (n - 1) ≤ length out₀
  pub high : t ≤ n - 1
  pub counted : parent ≡ n + t
  pub same_out : length out ≡ length out₀
  pub mixed : out ≡ mix (3 * t) (flat (child_rows n left right)) out₀

pub written_start : {n : ℕ} {left right out : List ℕ} → (1 ≤ n) × (n ≤ 1024) × (n - 1 ≤ length left) × (n - 1 ≤ length right) × (3 * (n - 1) ≤ length out)
    → Written n left right out out n 0
written_start {n} {left} {right} {out} P = record {
  some = P.0;
  few = P.1;
  in_left = P.2;
  in_right = P.3;
  room = P.4;
  high = omega arith;
  counted = omega arith;
  same_out = refl;
  mixed = mix_start (flat (child_rows n left right)) out;
}

rows_count : (n : ℕ) (left right : List ℕ) → n - 1 ≤ length left → n - 1 ≤ length right → length (child_rows n left right) ≡ n - 1
unfolding child_rows
rows_count n left right p q =
    let l : length (take (n - 1) left) ≡ n - 1 = omega (arith, length-take (n - 1) left) in
    let r : length (take (n - 1) right) ≡ n - 1 = omega (arith, length-take (n - 1) right) in
    tied_length n (take (n - 1) left) (take (n - 1) right) (l ∙ sym r) ∙ l

row_at : (n : ℕ) (left right : List ℕ) (t : ℕ) → n - 1 ≤ length left → n - 1 ≤ length right → t < n - 1
    → get_or (child_rows n left right) t (0, 0, 0) ≡ (get_or left t 0, get_or right t 0, n + t)
unfolding child_rows
row_at n left right t p q h =
    tied_at n (take (n - 1) left) (take (n - 1) right) t (omega (arith, length-take (n - 1) left)) (omega (arith, length-take (n - 1) right))
    ∙ ap₂ (λ (l r : ℕ). (l, r, n + t)) (get_or-take (n - 1) left t 0 h) (get_or-take (n - 1) right t 0 h)

pub written_next : {n : ℕ} {left right out₀ out : List ℕ} {parent t : ℕ} → Written n left right out₀ out parent t → t < n - 1
    → Written n left right out₀ (set (set (set out (3 * t) (get_or left t 0)) (3 * t + 1) (get_or right t 0)) (3 * t + 2) parent) (parent + 1) (t + 1)
written_next {n} {left} {right} {out₀} {out} {parent} {t} W h =
    let rows = child_rows n left right in
    let F = flat rows in
    let long = rows_count n left right W.in_left W.in_right in
    let whole = flat_length rows in
    let room = W.room in
    let e = row_at n left right t W.in_left W.in_right h in
    let l : get_or F (3 * t) 0 ≡ get_or left t 0 = flat_first rows t (omega arith) ∙ ap (λ (r : Row). r.0) e in
    let r : get_or F (3 * t + 1) 0 ≡ get_or right t 0 = flat_second rows t (omega arith) ∙ ap (λ (r : Row). r.1) e in
    let p : get_or F (3 * t + 2) 0 ≡ parent = flat_parent rows t (omega arith) ∙ ap (λ (r : Row). r.2) e ∙ sym W.counted in
    let z : 3 * t + 1 + 1 ≡ 3 * t + 2 = omega arith in
    let y : 3 * t + 2 + 1 ≡ 3 * (t + 1) = omega arith in
    let x₁ = mix_step F out₀ (3 * t) (omega arith) (omega arith) in
    let x₂ = rw z at (mix_step F out₀ (3 * t + 1) (omega arith) (omega arith)) in
    let x₃ = rw y at (mix_step F out₀ (3 * t + 2) (omega arith) (omega arith)) in
    record {
      some = W.some;
      few = W.few;
      in_left = W.in_left;
      in_right = W.in_right;
      room = W.room;
      high = omega arith;
      counted = omega (arith, W.counted);
      same_out = simp length-set W.same_out;
      mixed = rw (W.mixed, sym l, x₁, sym r, x₂, sym p) x₃;
    }

pub written_end : {n : ℕ} {left right out₀ out : List ℕ} {parent t : ℕ} → Written n left right out₀ out parent t → n - 1 ≤ t
    → out ≡ flat (child_rows n left right) ++ drop (3 * (n - 1)) out₀
unfolding mix
written_end {n} {left} {right} {out₀} {out} {parent} {t} W h =
    let rows = child_rows n left right in
    let long = rows_count n left right W.in_left W.in_right in
    let z : t ≡ n - 1 = omega (arith, W.high) in
    rw z at W.mixed
    ∙ ap (λ (l : List ℕ). l ++ drop (3 * (n - 1)) out₀) (take_all (3 * (n - 1)) (flat rows) (omega (arith, flat_length rows)))

-- the children of a vector's rows make these rows
pub rows_of_children : (v left right rest rest' : List ℕ) → left ≡ map first (vector_rows v) ++ rest
    → right ≡ map second (vector_rows v) ++ rest' → child_rows (length v) left right ≡ vector_rows v
unfolding child_rows pairs
rows_of_children v left right rest rest' p q =
    let n = length v in
    let rows = rows_from n (λ c. c) (pairs v) in
    let long : length rows ≡ n - 1 = rows_length n (λ c. c) (pairs v) ∙ pairs_count (entry v) n in
    let l : take (n - 1) left ≡ map first rows = ap (take (n - 1)) p ∙ take_at (map first rows) rest (n - 1) (length-map rows first ∙ long) in
    let r : take (n - 1) right ≡ map second rows = ap (take (n - 1)) q ∙ take_at (map second rows) rest' (n - 1) (length-map rows second ∙ long) in
    ap₂ (tied n) l r ∙ tied_rows n (λ c. c) (pairs v)
