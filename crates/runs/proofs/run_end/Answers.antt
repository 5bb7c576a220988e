-- `runs::run_end` meets its contract: entries of one width go up to half of what the width holds (`run_to`).
use native.Mathlib.Omega.{arith}
use mathlib.Core.Path.{◌∙◌}
use Prim.Native.Nat.{◌≤◌}
use Rattle.rules.specs.Record.{width}
use Rattle.record_laws.proofs.Width.{width_least, width_most}
use Rattle.runs.proofs.Runs.{run_shift, run_small, run_to}
use Rattle.runs.proofs.run_end.Goals as goal

pub overflow_sub-field_width : goal.overflow_sub-field_width
overflow_sub-field_width c = omega (arith, width_least c.args.i c.requires.0.from, c.field_width.ensures)

pub overflow_shl-field_width : goal.overflow_shl-field_width
overflow_shl-field_width c = omega (arith, width_most c.args.i (omega arith), c.field_width.ensures)

pub overflow_add-field_width : goal.overflow_add-field_width
overflow_add-field_width c = let w = c.field_width.result in let m : w ≤ 11 = omega (arith, width_most c.args.i (omega arith), c.field_width.ensures) in omega (arith, run_shift w m, run_small w m)

pub returns : goal.returns
returns c = let i = c.args.i in
    let m = width_most i (omega arith) in
    run_to i c.args.end _ c.requires.0 (omega arith) (c.min.ensures ∙ rw (c.field_width.ensures, run_shift (width i) m))
