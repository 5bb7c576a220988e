-- A table that is written is accepted when it is read. Main results: rows_accepted, table_accepted, pairs_accepted, pairs_below.
use Rattle.std.specs.Prelude.{◌≡◌, refl, Bool, true, false, ◌||◌, List, [], ◌∷◌, ℕ, ◌+◌, ◌-◌, ◌<◌, eqb, length, get_or}
use Rattle.std.proofs.Common.{sym, ◌∙◌, arith, eqb-true, eq-eqb, ne_eqb, lt-ltb}
use Rattle.std.proofs.Math.Option.{none}
use Rattle.std.proofs.lemmas.Bool.{eqb-false}
use Rattle.rules.specs.Vector.{entry, Valid}
use Rattle.rules.specs.Building.{Merge}
use Rattle.rules.specs.Table.{rows_from, row_fault, table_fault, children_below, named_twice}
use Rattle.merging.specs.Insertion.{pairs_of, pairs}
use Rattle.merging.proofs.Insertion.{valid_bounded, pairs_count}
use Rattle.merging.specs.Greedy.{Under}
use Rattle.merging.proofs.Greedy.{under_pairs}
use Rattle.merging.specs.Named.{named, Good}
use Rattle.merging.proofs.Named.{good, smaller_named, larger_named, still_named, not_larger, named_below}
use Rattle.written_tables.proofs.Nodes.{accepted_stands, stands_row}
use Rattle.written_tables.specs.Rows.{vector_rows, renumber}
use Rattle.written_tables.proofs.Rows.{renumber_same, renumber_other, renumber_below, rows_length}
use Rattle.written_tables.proofs.Follows.{nodes_follow}
use Rattle.written_tables.specs.Accepted.{Fresh}

module _ (m : Merge) (P : List Merge) (p : ℕ) (number : ℕ → ℕ) (used : ℕ → Bool) (G : Good (m ∷ P)) (F : Fresh (m ∷ P) p number used) where
  a_below : number m.0 < p
  a_below = F.below m.0 (smaller_named m P G)

  b_below : number m.1 < p
  b_below = F.below m.1 (larger_named m P)

  children_apart : number m.0 ≡ number m.1 → ⊥
  unfolding Good
  children_apart e = not_larger m P G m.0 G.0 (F.apart m.0 m.1 (smaller_named m P G) (larger_named m P) e)

  unused_next : (k : ℕ) → used k ≡ false → (k ≡ number m.0 → ⊥) → (k ≡ number m.1 → ⊥) → used k || eqb k (number m.0) || eqb k (number m.1) ≡ false
  unused_next k u a b = rw (u, ne_eqb k (number m.0) a, ne_eqb k (number m.1) b)

  fresh_next : Fresh P (p + 1) (renumber number m.0 p) (λ c. used c || eqb c (number m.0) || eqb c (number m.1))
  fresh_next = record {
    below = λ x h. renumber_below number m.0 p x (old x h);
    unused = nodes_follow (λ x k. used k ≡ false) (λ x k. used k || eqb k (number m.0) || eqb k (number m.1) ≡ false) m P p number F.unused
        (unused_next p (F.above p (omega arith)) (λ e. omega (arith, a_below)) (λ e. omega (arith, b_below)))
        (λ x h d u. unused_next (number x) u
        (λ e. d (F.apart x m.0 (still_named m P x h) (smaller_named m P G) e))
        (λ e. not_larger m P G x h (F.apart x m.1 (still_named m P x h) (larger_named m P) e)));
    apart = λ x y h g e. apart' x y h g e (eqb x m.0) refl (eqb y m.0) refl;
    above = λ k h. unused_next k (F.above k (omega arith)) (λ e. omega (arith, a_below)) (λ e. omega (arith, b_below));
  }
    where
      old : (x : ℕ) → named P x ≡ true → number x < p
      old x h = F.below x (still_named m P x h)

      apart' : (x y : ℕ) → named P x ≡ true → named P y ≡ true → renumber number m.0 p x ≡ renumber number m.0 p y → (b : Bool) → eqb x m.0 ≡ b → (d : Bool) → eqb y m.0 ≡ d → x ≡ y
      apart' x y h g e true q true r = eqb-true x m.0 q ∙ sym (eqb-true y m.0 r)
      apart' x y h g e true q false r =
          let z : p ≡ number y = sym (renumber_same number m.0 p x (eqb-true x m.0 q)) ∙ e ∙ renumber_other number m.0 p y (eqb-false y m.0 r) in
          absurd (omega (arith, old y g))
      apart' x y h g e false q true r =
          let z : number x ≡ p = sym (renumber_other number m.0 p x (eqb-false x m.0 q)) ∙ e ∙ renumber_same number m.0 p y (eqb-true y m.0 r) in
          absurd (omega (arith, old x h))
      apart' x y h g e false q false r =
          F.apart x y (still_named m P x h) (still_named m P y g)
          (sym (renumber_other number m.0 p x (eqb-false x m.0 q)) ∙ e ∙ renumber_other number m.0 p y (eqb-false y m.0 r))

pub rows_accepted : (n t : ℕ) (number : ℕ → ℕ) (used : ℕ → Bool) (P : List Merge) → Good P → Fresh P (n + t) number used → row_fault n t used (rows_from (n + t) number P) ≡ none
unfolding row_fault rows_from children_below named_twice Good
rows_accepted n t number used [] G F = refl
rows_accepted n t number used (m ∷ P) G F =
    let z : n + t + 1 ≡ n + (t + 1) = omega arith in
    let next = rows_accepted n (t + 1) (renumber number m.0 (n + t)) (λ c. used c || eqb c (number m.0) || eqb c (number m.1)) P G.2 (rw z at (fresh_next m P (n + t) number used G F)) in
    rw (
      eq-eqb (n + t) (n + t) refl,
      lt-ltb (number m.0) (n + t) (a_below m P (n + t) number used G F),
      lt-ltb (number m.1) (n + t) (b_below m P (n + t) number used G F),
      F.unused m.0 (smaller_named m P G),
      F.unused m.1 (larger_named m P),
      ne_eqb (number m.0) (number m.1) (children_apart m P (n + t) number used G F),
      z,
    )
    next

pub table_accepted : (n : ℕ) (P : List Merge) → 0 < n → Under n P → Good P → table_fault n (rows_from n (λ c. c) P) ≡ none
unfolding table_fault
table_accepted n P h u G =
    let z : n + 0 ≡ n = omega arith in
    let F : Fresh P n (λ c. c) (λ c. false) = record {
      below = named_below n P h u;
      unused = λ x e. refl;
      apart = λ x y e g q. q;
      above = λ k l. refl;
    } in
    rw z at (rows_accepted n 0 (λ c. c) (λ c. false) P G (rw z F))

-- the table of a vector is accepted
pub pairs_accepted : (v : List ℕ) → Valid v → table_fault (length v) (vector_rows v) ≡ none
unfolding pairs
pairs_accepted v ok =
    table_accepted (length v) (pairs_of (entry v) (length v)) ok.some_leaf (under_pairs (entry v) (length v))
    (good (entry v) (length v) (valid_bounded v ok))

-- and each of its rows has its children below its parent
pub pairs_below : (v : List ℕ) → Valid v → (k : ℕ) → k < length v - 1
    → ((get_or (vector_rows v) k (0, 0, 0)).0 < length v + k) × ((get_or (vector_rows v) k (0, 0, 0)).1 < length v + k)
unfolding pairs
pairs_below v ok k h =
    let rows = vector_rows v in
    stands_row (length v) rows k (0, 0, 0) (accepted_stands (length v) rows (pairs_accepted v ok))
    (omega (arith, rows_length (length v) (λ c. c) (pairs v), pairs_count (entry v) (length v)))
