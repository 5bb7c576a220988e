-- The rows of merges: a row for each, whose parents count up. Main results: rows_length, table_length, parent_at, tied_rows, rows_cong.
use Rattle.std.specs.Prelude.{◌≡◌, refl, Bool, true, false, cond, List, [], ◌∷◌, map, ℕ, zero, suc, ◌+◌, ◌*◌, ◌<◌, eqb, length, drop, get_or}
use Rattle.std.proofs.Common.{sym, ap, ap₂, ◌∙◌, add-zero, arith, eq-eqb, ne_eqb}
use Rattle.rules.specs.Building.{Merge}
use Rattle.rules.specs.Table.{Row, rows_from, flat}
use Rattle.merging.specs.Greedy.{Under}
use Rattle.merging.specs.Named.{Rising}
use Rattle.written_tables.proofs.Flat.{flat_length}
use Rattle.written_tables.specs.Tied.{tied}
use Rattle.written_tables.specs.Rows.{first, second, renumber, Inside}

pub renumber_same : (number : ℕ → ℕ) (a p x : ℕ) → x ≡ a → renumber number a p x ≡ p
renumber_same number a p x e = rw (eq-eqb x a e)

pub renumber_other : (number : ℕ → ℕ) (a p x : ℕ) → (x ≡ a → ⊥) → renumber number a p x ≡ number x
renumber_other number a p x e = rw (ne_eqb x a e)

pub renumber_below : (number : ℕ → ℕ) (a p x : ℕ) → number x < p → renumber number a p x < p + 1
renumber_below number a p x h = go (eqb x a)
  where
    go : (b : Bool) → cond b p (number x) < p + 1
    go true = omega arith
    go false = omega arith

pub inside : (n : ℕ) (P : List Merge) → Under n P → Rising P → Inside n P
unfolding Inside Under Rising
inside n [] u r = tt
inside n (m ∷ P) u r = let a = u.0 in let b = r.0 in (omega arith, a, inside n P u.1 r.1)

pub inside_drop : (n k : ℕ) (P : List Merge) → Inside n P → Inside n (drop k P)
unfolding Inside
inside_drop n zero P i = i
inside_drop n (suc k) [] i = tt
inside_drop n (suc k) (m ∷ P) i = inside_drop n k P i.2

pub inside_at : (n : ℕ) (P : List Merge) → Inside n P → (t : ℕ) → t < length P → ((get_or P t (0, 0)).0 < n) × ((get_or P t (0, 0)).1 < n)
unfolding Inside
inside_at n [] i t h = absurd (omega arith)
inside_at n (m ∷ P) i zero h = (i.0, i.1)
inside_at n (m ∷ P) i (suc t) h = inside_at n P i.2 t (omega arith)

-- a row for each merge
pub rows_length : (p : ℕ) (f : ℕ → ℕ) (P : List Merge) → length (rows_from p f P) ≡ length P
unfolding rows_from
rows_length p f [] = refl
rows_length p f (m ∷ P) = ap suc (rows_length (p + 1) (renumber f m.0 p) P)

-- the parents count up from p
pub parent_at : (p : ℕ) (f : ℕ → ℕ) (P : List Merge) (t : ℕ) → t < length P → (get_or (rows_from p f P) t (0, 0, 0)).2 ≡ p + t
unfolding rows_from
parent_at p f [] t h = absurd (omega arith)
parent_at p f (m ∷ P) zero h = sym (add-zero p)
parent_at p f (m ∷ P) (suc t) h =
    let z : p + 1 + t ≡ p + suc t = omega arith in
    parent_at (p + 1) (renumber f m.0 p) P t (omega arith) ∙ z

pub table_length : (p : ℕ) (f : ℕ → ℕ) (P : List Merge) → length (flat (rows_from p f P)) ≡ 3 * length P
table_length p f P = flat_length (rows_from p f P) ∙ ap (λ (k : ℕ). 3 * k) (rows_length p f P)

-- rows are made of their children alone
pub tied_rows : (p : ℕ) (f : ℕ → ℕ) (P : List Merge) → tied p (map first (rows_from p f P)) (map second (rows_from p f P)) ≡ rows_from p f P
unfolding rows_from tied
tied_rows p f [] = refl
tied_rows p f (m ∷ P) = ap (λ (rs : List Row). (f m.0, f m.1, p) ∷ rs) (tied_rows (p + 1) (renumber f m.0 p) P)

-- only the numbers of the names matter
pub rows_cong : (n p : ℕ) (f g : ℕ → ℕ) (P : List Merge) → ((c : ℕ) → c < n → f c ≡ g c) → Inside n P → rows_from p f P ≡ rows_from p g P
unfolding rows_from Inside
rows_cong n p f g [] e i = refl
rows_cong n p f g (m ∷ P) e i =
    ap₂ (λ (r : Row) (rs : List Row). r ∷ rs) (ap₂ (λ (x y : ℕ). (x, y, p)) (e m.0 i.0) (e m.1 i.1))
    (rows_cong n (p + 1) (renumber f m.0 p) (renumber g m.0 p) P
    (λ c h. ap (cond (eqb c m.0) p) (e c h)) i.2)
