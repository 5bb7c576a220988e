-- `empty` meets its contract: its arrays are 0s.
use Rattle.std.proofs.Common.{refl}
use Rattle.chains.specs.Leaves.{keyless_start}
use Rattle.chains.proofs.Chains.empty.Goals as goal

pub returns : goal.returns
returns c = keyless_start 2048 1024 refl refl refl refl refl refl
