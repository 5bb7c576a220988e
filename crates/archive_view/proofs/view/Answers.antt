-- `archive_view::view` meets its contract: the bytes of the part.
use native.Mathlib.Omega.{arith}
use mathlib.Core.List.{List}
use mathlib.Core.Path.{◌≡◌}
use Prim.Native.Nat.{ℕ, ◌+◌, ◌-◌}
use Rattle.rules.specs.CallView.{view}
use Rattle.rules.specs.declared.Part.{Part}
use Rattle.archive.specs.Finds.{part_bytes}
use Rattle.archive_view.specs.Shows.{Shows}
use Rattle.archive_view.proofs.view.Goals as goal

bytes_shown : (s : List ℕ) (r : ℕ) (part : Part) → Shows s r part → part_bytes s part ≡ view s r
unfolding view
bytes_shown s r part h =
    let e : part.start + part.length - part.start ≡ part.length = omega arith in
    rw (e, h.0, h.1)

pub returns : goal.returns
returns c = bytes_shown _ _ c.part-place.result c.part-place.ensures
