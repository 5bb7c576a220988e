-- What reading the rows of a table tells: the row that is refused and why, or the arrays of the tree.
-- Main definitions: Refuses, Finds, HasRead. Main results: read_placed, read_named.
use Rattle.std.specs.Prelude.{◌≡◌, ◌≢◌, Bool, true, false, cond, List, ℕ, ◌+◌, ◌≤◌, eqb, ltb, take, set}
use Rattle.std.specs.declared.result.Result.{Result}
use Rattle.std.specs.declared.result.Result.TheVariants.{Ok, Err}
use Rattle.std.proofs.Common.{sym, ap, ◌∙◌, arith}
use Rattle.std.proofs.Math.Option.{some}
use Rattle.rules.specs.Table.{rows_of, table_fault}
use Rattle.chains.specs.Walk.{cell}
use Rattle.chains.specs.Built.{taken}
use Rattle.row_checks.specs.declared.RowFault.{RowFault}
use Rattle.row_checks.specs.declared.RowFault.TheVariants.{Parent, Child, NamedBefore}
use Rattle.row_checks.specs.Mark.{mark}
use Rattle.row_checks.specs.Verdict.{verdict, placed, placed_verdict, misplaced_not, misplaced_verdict}
use Rattle.row_checks.specs.Misplaced.{misplacement}
use Rattle.reading.specs.Reading.{Reads, RowAt, reads_named, reads_fault, AllRead}

-- the fault of a row is that of the table
abbrev pub Refuses : ℕ → List ℕ → RowFault → Type 0
Refuses n xs (Parent t) = table_fault n (rows_of xs) ≡ some (5, t)
Refuses n xs (Child t) = table_fault n (rows_of xs) ≡ some (6, t)
Refuses n xs (NamedBefore t) = table_fault n (rows_of xs) ≡ some (7, t)

-- what is found, by the table; all is what holds where its rows are accepted
abbrev pub Finds : ℕ → List ℕ → Type 0 → Result (Unit {0}) RowFault → Type 0
Finds n xs all (Ok _) = all
Finds n xs all (Err f) = Refuses n xs f

-- of accepted rows the arrays hold the tree
abbrev pub HasRead : ℕ → List ℕ → List ℕ → List ℕ → List ℕ → List ℕ → List ℕ → Result (Unit {0}) RowFault → Type 0
HasRead n xs names lows small next last r = Finds n xs (AllRead n xs names lows small next last) r

-- the row that is refused is the table's fault
pub read_placed : {n : ℕ} {xs : List ℕ} {t l r p : ℕ} {f : RowFault} {names lows small next last : List ℕ} → Reads n xs t names lows small next last
    → RowAt n xs t l r p → ltb 0 (placed (n + t) (l, r, p)) ≡ true → f ≡ misplacement (n + t) p t → Refuses n xs f
unfolding misplacement
read_placed {n} {xs} {t} {l} {r} {p} {f} R A h e = rw e (go (eqb p (n + t)) (misplaced_verdict (n + t) (l, r, p) d))
  where
    d : placed (n + t) (l, r, p) ≢ 0
    d = misplaced_not (n + t) (l, r, p) h

    same : placed (n + t) (l, r, p) ≡ verdict (taken (take t (rows_of xs))) (n + t) (l, r, p)
    same = placed_verdict (taken (take t (rows_of xs))) (n + t) (l, r, p) d

    at : (k : ℕ) → k ≡ placed (n + t) (l, r, p) → table_fault n (rows_of xs) ≡ some (k, t)
    at k q = reads_fault R A (λ z. d (same ∙ z)) ∙ ap (λ (j : ℕ). some (j, t)) (sym (q ∙ same))

    go : (b : Bool) → cond b 6 5 ≡ placed (n + t) (l, r, p) → Refuses n xs (cond b (Child t) (Parent t))
    go true q = at 6 q
    go false q = at 5 q

pub read_named : {n : ℕ} {xs : List ℕ} {t l r p x y : ℕ} {names lows small next last names₁ names₂ : List ℕ} → Reads n xs t names lows small next last
    → RowAt n xs t l r p → ltb 0 (placed (n + t) (l, r, p)) ≡ false → x ≡ cell names l → names₁ ≡ set names l mark → y ≡ cell names₁ r → names₂ ≡ set names₁ r mark → mark ≤ x + y
    → table_fault n (rows_of xs) ≡ some (7, t)
read_named {t = t} R A v ex e₁ ey e₂ h =
    let e = reads_named R A v ex e₁ ey e₂ h in
    reads_fault R A (omega (arith, e)) ∙ ap (λ (j : ℕ). some (j, t)) (sym e)
