-- `renaming::rename` meets its contract. The loop's invariant: the first children have been renamed.
use Rattle.std.proofs.Common.{◌≡◌, length}
use Rattle.renaming.specs.Renames.{renamed_to}
use Rattle.renaming.proofs.rename.Given as goal

abbrev pub invariant-loop-child : goal.invariant-loop-child
invariant-loop-child l = l.children ≡ renamed_to (length l.p) l.p l.child-index l.initial.children
