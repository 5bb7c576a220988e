-- The search of the rules over the rows of a table finds the first wrong row, and what is wrong first in it. Main results: row_found, first_row,
-- row_given.
use Rattle.std.specs.Prelude.{Bool, true, false, not, ◌&&◌, ◌||◌, List, ◌⊎◌, ◌↔◌, ◌≡◌, refl, ℕ, ◌+◌, eqb, ltb}
use Rattle.std.proofs.Common.{true≢false, inl, inr, sym, ap, ◌∙◌, arith, ltb-true, ltb-false, eqb-true, eq-eqb}
use Rattle.std.proofs.lemmas.Bool.{false≢true, eqb-false}
use Rattle.std.proofs.Math.Option.{Option, none, some}
use Rattle.rules.specs.Table.{Row, Fault, row_fault, table_fault, children_below, named_twice}
use Rattle.basics.proofs.Bools.{or_left, or_right}
use Rattle.read_tables.specs.Forest.{named_also}
use Rattle.searching.specs.First.{Tells, is_wrong, is_right, or_else}
use Rattle.searching.proofs.First.{found_first, found_same}
use Rattle.rules.specs.First.{First}
use Rattle.searching.specs.Walked.{Walk, gathered}
use Rattle.searching.proofs.Walked.{gathered_some, walk_found}
use Rattle.demands.specs.Conditions.{row_at, NamedBefore, WrongRow, parent_wrong, child_not_below, child_named, FirstRow}
use Rattle.demands.specs.FirstWrongRow.{told, row_test, WrongAt, RowFound}

-- of a row one thing is wrong first
wrong_unique : {p : ℕ} {N : ℕ → Type 0} {r : Row} {k l : ℕ} → WrongRow p N r k → WrongRow p N r l → k ≡ l
wrong_unique (parent_wrong a) (parent_wrong b) = refl
wrong_unique (parent_wrong a) (child_not_below b c) = absurd (a b)
wrong_unique (parent_wrong a) (child_named b c d e) = absurd (a b)
wrong_unique (child_not_below b c) (parent_wrong a) = absurd (a b)
wrong_unique (child_not_below b c) (child_not_below a d) = refl
wrong_unique (child_not_below b (inl c)) (child_named a d e f) = absurd (omega arith)
wrong_unique (child_not_below b (inr c)) (child_named a d e f) = absurd (omega arith)
wrong_unique (child_named b c d e) (parent_wrong a) = absurd (a b)
wrong_unique (child_named b c d e) (child_not_below a (inl f)) = absurd (omega arith)
wrong_unique (child_named b c d e) (child_not_below a (inr f)) = absurd (omega arith)
wrong_unique (child_named b c d e) (child_named a f g h) = refl

told_or_else : (a b c : Bool) (t : ℕ) (o : Option Fault) → told a b c t o ≡ or_else (told a b c t none) o
unfolding or_else
told_or_else true b c t o = refl
told_or_else false true c t o = refl
told_or_else false false true t o = refl
told_or_else false false false t o = refl

-- what they tell, where Named are the children named before
row_tells : (n t : ℕ) (named : ℕ → Bool) (Named : ℕ → Type 0) (r : Row) → ((c : ℕ) → (named c ≡ true) ↔ Named c)
    → Tells ((k : ℕ) × WrongRow (n + t) Named r k) (λ w. (w.0, t)) (row_test n t named r)
unfolding children_below named_twice
row_tells n t named Named r same =
    go (eqb r.2 p) refl (ltb r.0 p) refl (ltb r.1 p) refl (named r.0) refl (named r.1) refl (eqb r.0 r.1) refl
  where
    p : ℕ
    p = n + t

    Here : Type 0
    Here = (k : ℕ) × WrongRow p Named r k

    go : (a : Bool) → eqb r.2 p ≡ a → (b : Bool) → ltb r.0 p ≡ b → (c : Bool) → ltb r.1 p ≡ c
        → (d : Bool) → named r.0 ≡ d → (e : Bool) → named r.1 ≡ e → (f : Bool) → eqb r.0 r.1 ≡ f
        → Tells Here (λ w. (w.0, t)) (told (not a) (not (b && c)) (d || e || f) t none)
    go false qa b qb c qc d qd e qe f qf = is_wrong (5, parent_wrong (eqb-false r.2 p qa)) refl
    go true qa false qb c qc d qd e qe f qf = is_wrong (6, child_not_below (eqb-true r.2 p qa) (inl (ltb-false r.0 p qb))) refl
    go true qa true qb false qc d qd e qe f qf = is_wrong (6, child_not_below (eqb-true r.2 p qa) (inr (ltb-false r.1 p qc))) refl
    go true qa true qb true qc d qd e qe f qf = twice d qd e qe f qf
      where
        wrong : Named r.0 ⊎ (Named r.1 ⊎ (r.0 ≡ r.1)) → Here
        wrong h = (7, child_named (eqb-true r.2 p qa) (ltb-true r.0 p qb) (ltb-true r.1 p qc) h)

        twice : (d : Bool) → named r.0 ≡ d → (e : Bool) → named r.1 ≡ e → (f : Bool) → eqb r.0 r.1 ≡ f
            → Tells Here (λ w. (w.0, t)) (told false false (d || e || f) t none)
        twice true qd e qe f qf = is_wrong (wrong (inl ((same r.0).0 qd))) refl
        twice false qd true qe f qf = is_wrong (wrong (inr (inl ((same r.1).0 qe)))) refl
        twice false qd false qe true qf = is_wrong (wrong (inr (inr (eqb-true r.0 r.1 qf)))) refl
        twice false qd false qe false qf = is_right refl never
          where
            never : Here → ⊥
            never (k, parent_wrong a) = a (eqb-true r.2 p qa)
            never (k, child_not_below a (inl b)) = omega (arith, ltb-true r.0 p qb)
            never (k, child_not_below a (inr b)) = omega (arith, ltb-true r.1 p qc)
            never (k, child_named a b c (inl d)) = true≢false (sym ((same r.0).1 d) ∙ qd)
            never (k, child_named a b c (inr (inl d))) = true≢false (sym ((same r.1).1 d) ∙ qe)
            never (k, child_named a b c (inr (inr d))) = eqb-false r.0 r.1 qf d

-- the children of the rows before
named_before : (rs : List Row) (t c : ℕ) → (gathered named_also (0, 0, 0) (λ c. false) rs t c ≡ true) ↔ NamedBefore rs t c
unfolding named_also
named_before rs t c =
    gathered_some (0, 0, 0) (λ c. false) rs (λ named. named c ≡ true) (λ r. (r.0 ≡ c) ⊎ (r.1 ≡ c)) false≢true (λ named r. (there named r, back named r)) t
  where
    there : (named : ℕ → Bool) (r : Row) → named_also named r c ≡ true → (named c ≡ true) ⊎ ((r.0 ≡ c) ⊎ (r.1 ≡ c))
    there named r = go (named c) refl (eqb c r.0) refl (eqb c r.1) refl
      where
        go : (x : Bool) → named c ≡ x → (y : Bool) → eqb c r.0 ≡ y → (z : Bool) → eqb c r.1 ≡ z → x || y || z ≡ true
            → (named c ≡ true) ⊎ ((r.0 ≡ c) ⊎ (r.1 ≡ c))
        go true p y q z u e = inl p
        go false p true q z u e = inr (inl (sym (eqb-true c r.0 q)))
        go false p false q true u e = inr (inr (sym (eqb-true c r.1 u)))
        go false p false q false u e = absurd (false≢true e)

    back : (named : ℕ → Bool) (r : Row) → (named c ≡ true) ⊎ ((r.0 ≡ c) ⊎ (r.1 ≡ c)) → named_also named r c ≡ true
    back named r (inl h) = or_left (named c || eqb c r.0) (eqb c r.1) (or_left (named c) (eqb c r.0) h)
    back named r (inr (inl e)) = or_left (named c || eqb c r.0) (eqb c r.1) (or_right (named c) (eqb c r.0) (eq-eqb c r.0 (sym e)))
    back named r (inr (inr e)) = or_right (named c || eqb c r.0) (eqb c r.1) (eq-eqb c r.1 (sym e))

pub row_found : (n : ℕ) (rs : List Row) → RowFound n rs
unfolding table_fault row_fault named_also
row_found n rs =
    found_same (λ t w. (w.0, t))
    (walk_found W (0, 0, 0) (λ c. false) rs (λ t. (k : ℕ) × WrongRow (n + t) (NamedBefore rs t) (row_at rs t) k) (λ t w. (w.0, t))
    (λ t h. row_tells n t (gathered named_also (0, 0, 0) (λ c. false) rs t) (NamedBefore rs t) (row_at rs t) (named_before rs t)))
    (λ t w. (w.1.0, (w.0, w.1.1))) (λ t w. (w.1.0, (w.0, w.1.1))) (λ t w. refl)
  where
    W : Walk (row_test n) named_also (row_fault n)
    W = record {
      at_end = λ t named. refl;
      at_each = λ t named r rs.
          told_or_else (not (eqb r.2 (n + t))) (not (children_below (n + t) r)) (named_twice named r) t (row_fault n (t + 1) (named_also named r) rs);
    }

-- the first wrong row, as the refusals say it
pub first_row : (n : ℕ) (rs : List Row) (t : ℕ) (f : First (WrongAt n rs) t) → FirstRow n rs f.0.0 t
first_row n rs t f = (f.0.1, λ j k h w. f.1 j h (k, w))

pub row_given : (n : ℕ) (rs : List Row) (k t : ℕ) → FirstRow n rs k t → table_fault n rs ≡ some (k, t)
row_given n rs k t f =
    found_first (row_found n rs) t ((k, f.0), λ j h w. f.1 j w.0 h w.1) (λ w. ap (λ (l : ℕ). (l, t)) (wrong_unique w.1.1 f.0.1))
