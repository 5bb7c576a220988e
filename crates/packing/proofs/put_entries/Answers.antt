-- `packing::put_entries` meets its contract: the entries before the fours, the fours, and those behind them.
use native.Mathlib.Omega.{arith}
use mathlib.Core.List.{List}
use mathlib.Core.Path.{◌≡◌}
use Prim.Native.Nat.{ℕ, ◌≤◌, min}
use lib.ListN.{length}
use Rattle.bit_writer.specs.declared.Writer.{Writer}
use Rattle.entry_writer.specs.Entries.{PutEntries, Due}
use Rattle.entry_writer.proofs.Putting.{Ahead, due_fewer, ahead_start, ahead_due, ahead_more, put_then}
use Rattle.packing.proofs.put_entries.Goals as goal

-- what is due when the entries from 1 to m are put, before the fours and behind them
on_fours : {v : List ℕ} {p q : Writer} (first : ℕ) → first ≡ min 5 (length v) → Due v 1 (length v) p → PutEntries v 1 first p q → Ahead v 1 (length v) p q first
on_fours {q = q} first l due put = ahead_more (ahead_start due) first q (omega (arith, due.most)) (omega arith) put

on_rest : {v : List ℕ} {p q r : Writer} (first last : ℕ) → Ahead v 1 (length v) p q first → first ≤ last → last ≤ length v → PutEntries v first last q r
    → Ahead v 1 (length v) p r last
on_rest {r = r} first last o a b put = ahead_more o last r a b put

pub put_singles-fours-requires : goal.put_singles-fours-requires
put_singles-fours-requires c = due_fewer _ c.requires (omega (arith, c.requires.most)) (omega arith)

pub put_fours-rest-requires : goal.put_fours-rest-requires
put_fours-rest-requires c =
    let e = c.fours_end-last.ensures in
    let l = c.min-first.ensures in (
      ahead_due (on_fours c.min-first.result l c.requires c.put_singles-fours.ensures) _ (omega arith) (omega arith),
      λ h. record { from = omega (arith, h); first = omega (arith, h); last = omega (arith, h) },
    )

pub put_singles-requires : goal.put_singles-requires
put_singles-requires c =
    let e = c.fours_end-last.ensures in
    ahead_due (on_rest c.min-first.result c.fours_end-last.result (on_fours c.min-first.result c.min-first.ensures c.requires c.put_singles-fours.ensures) e.0 e.1 c.put_fours-rest.ensures)
    _ (omega (arith, e.1)) (omega arith)

pub returns : goal.returns
returns c =
    let e = c.fours_end-last.ensures in
    put_then (on_rest c.min-first.result c.fours_end-last.result (on_fours c.min-first.result c.min-first.ensures c.requires c.put_singles-fours.ensures) e.0 e.1 c.put_fours-rest.ensures).put
    c.put_singles.ensures
