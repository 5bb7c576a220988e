-- Check: when it refuses, and that it writes nothing.
-- Main result: lawful_check.
use Rattle.std.specs.Prelude.{List, refl, ℕ}
use Rattle.rules.specs.Promise.{none}
use Rattle.rules.specs.CallCheck.{check, check_call}
use Rattle.demands.specs.Law.{Lawful}
use Rattle.demands.proofs.Law.{lawful_made}
use Rattle.demands.specs.LawVector.{VectorRefused}
use Rattle.demands.proofs.LawVector.{settled_vector}

pub lawful_check : (v : List ℕ) → Lawful (check_call v) (VectorRefused v) 0
unfolding check
lawful_check v = lawful_made none (check v) (VectorRefused v) 0 (settled_vector none.count v tt 0 (λ ok. refl))
