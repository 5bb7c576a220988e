-- The nodes of rows whose parents count up: each is the pair of its row's children. Main results: nodes_keep, nodes_row, accepted_stands, stands_row,
-- leaf_of, node_of.
use Rattle.std.specs.Prelude.{◌≡◌, refl, Bool, true, false, not, ◌||◌, cond, List, [], ◌∷◌, ℕ, zero, suc, ◌+◌, ◌<◌, eqb, ltb, length, get_or}
use Rattle.std.proofs.Common.{sym, ap, ap₂, ◌∙◌, arith, ltb-true, eqb-true, eq-eqb, ne_eqb}
use Rattle.std.proofs.Math.Option.{Option, none, some, none-ne-some}
use Rattle.rules.specs.Tree.{leaf, node, Clusters}
use Rattle.rules.specs.Table.{Row, Fault, children_below, named_twice, row_fault, table_fault, nodes_of}
use Rattle.basics.proofs.Bools.{and_both}
use Rattle.written_tables.specs.Nodes.{CountUp, noded, Stands}

-- rows change no node before their parents
pub nodes_keep : (p : ℕ) (rs : List Row) (c : Clusters) (k : ℕ) → CountUp p rs → k < p → nodes_of rs c k ≡ c k
unfolding nodes_of CountUp
nodes_keep p [] c k u h = refl
nodes_keep p (r ∷ rs) c k u h = let e = u.0 in nodes_keep (p + 1) rs (noded c r) k u.1 (omega arith) ∙ rw (ne_eqb k r.2 (λ q. omega arith))

-- a node is the pair of its row's children, where they stand before it
pub nodes_row : (p : ℕ) (rs : List Row) (c : Clusters) (j : ℕ) (d : Row) → CountUp p rs → j < length rs → (get_or rs j d).0 < p + j → (get_or rs j d).1 < p + j
    → nodes_of rs c (p + j) ≡ node (nodes_of rs c (get_or rs j d).0) (nodes_of rs c (get_or rs j d).1)
unfolding nodes_of CountUp
nodes_row p [] c j d u h a b = absurd (omega arith)
nodes_row p (r ∷ rs) c zero d u h a b =
    let e = u.0 in
    let at : p + 0 ≡ r.2 = omega arith in
    ap (nodes_of rs (noded c r)) at
    ∙ nodes_keep (p + 1) rs (noded c r) r.2 u.1 (omega arith)
    ∙ rw (eq-eqb r.2 r.2 refl)
    (ap₂ node
    (sym (nodes_keep (p + 1) rs (noded c r) r.0 u.1 (omega arith) ∙ rw (ne_eqb r.0 r.2 (λ q. omega arith))))
    (sym (nodes_keep (p + 1) rs (noded c r) r.1 u.1 (omega arith) ∙ rw (ne_eqb r.1 r.2 (λ q. omega arith)))))
nodes_row p (r ∷ rs) c (suc j) d u h a b =
    let at : p + suc j ≡ p + 1 + j = omega arith in
    ap (nodes_of rs (noded c r)) at ∙ nodes_row (p + 1) rs (noded c r) j d u.1 (omega arith) (omega arith) (omega arith)

stands_count_up : (p : ℕ) (rs : List Row) → Stands p rs → CountUp p rs
unfolding Stands CountUp
stands_count_up p [] s = tt
stands_count_up p (r ∷ rs) s = (s.0, stands_count_up (p + 1) rs s.3)

pub stands_row : (p : ℕ) (rs : List Row) (j : ℕ) (d : Row) → Stands p rs → j < length rs → ((get_or rs j d).0 < p + j) × ((get_or rs j d).1 < p + j)
unfolding Stands
stands_row p [] j d s h = absurd (omega arith)
stands_row p (r ∷ rs) zero d s h = let l = s.1 in let m = s.2 in (omega arith, omega arith)
stands_row p (r ∷ rs) (suc j) d s h =
    let i = stands_row (p + 1) rs j d s.3 (omega arith) in let a = i.0 in let b = i.1 in (omega arith, omega arith)

-- what an accepted row says
row_fault_none : (n t : ℕ) (named : ℕ → Bool) (r : Row) (rs : List Row) → row_fault n t named (r ∷ rs) ≡ none
    → (eqb r.2 (n + t) ≡ true) × (children_below (n + t) r ≡ true)
    × (row_fault n (t + 1) (λ c. named c || eqb c r.0 || eqb c r.1) rs ≡ none)
unfolding row_fault
row_fault_none n t named r rs = go (eqb r.2 (n + t)) (children_below (n + t) r) (named_twice named r)
  where
    rest : Option Fault
    rest = row_fault n (t + 1) (λ c. named c || eqb c r.0 || eqb c r.1) rs

    go : (a b c : Bool) → cond (not a) (some (5, t)) (cond (not b) (some (6, t)) (cond c (some (7, t)) rest)) ≡ none
        → (a ≡ true) × (b ≡ true) × (rest ≡ none)
    go false b c e = absurd (none-ne-some (5, t) (sym e))
    go true false c e = absurd (none-ne-some (6, t) (sym e))
    go true true true e = absurd (none-ne-some (7, t) (sym e))
    go true true false e = (refl, refl, e)

fault_stands : (n t : ℕ) (named : ℕ → Bool) (rs : List Row) → row_fault n t named rs ≡ none → Stands (n + t) rs
unfolding Stands children_below
fault_stands n t named [] e = tt
fault_stands n t named (r ∷ rs) e =
    let f = row_fault_none n t named r rs e in
    let below = and_both (ltb r.0 (n + t)) (ltb r.1 (n + t)) f.1 in
    let z : n + (t + 1) ≡ n + t + 1 = omega arith in (
      eqb-true r.2 (n + t) f.0,
      ltb-true r.0 (n + t) below.0,
      ltb-true r.1 (n + t) below.1,
      rw z at (fault_stands n (t + 1) (λ c. named c || eqb c r.0 || eqb c r.1) rs f.2),
    )

-- the rows of an accepted table stand so
pub accepted_stands : (n : ℕ) (rs : List Row) → table_fault n rs ≡ none → Stands n rs
unfolding table_fault
accepted_stands n rs e = let z : n + 0 ≡ n = omega arith in rw z at (fault_stands n 0 (λ c. false) rs e)

-- the nodes of an accepted table: a leaf below n, and from n on the pair of a row's children
pub leaf_of : (n : ℕ) (rs : List Row) → table_fault n rs ≡ none → (x : ℕ) → x < n → nodes_of rs leaf x ≡ leaf x
leaf_of n rs e x h = nodes_keep n rs leaf x (stands_count_up n rs (accepted_stands n rs e)) h

pub node_of : (n : ℕ) (rs : List Row) → table_fault n rs ≡ none → (j : ℕ) (d : Row) → j < length rs
    → nodes_of rs leaf (n + j) ≡ node (nodes_of rs leaf (get_or rs j d).0) (nodes_of rs leaf (get_or rs j d).1)
node_of n rs e j d h =
    let s = accepted_stands n rs e in
    let b = stands_row n rs j d s h in
    nodes_row n rs leaf j d (stands_count_up n rs s) h b.0 b.1
