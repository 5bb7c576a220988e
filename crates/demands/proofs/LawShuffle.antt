-- Queue Shuffle: when it refuses, and that it writes n elements into each of its two buffers.
-- Main result: lawful_shuffle.
use Rattle.std.specs.Prelude.{List, ℕ, length}
use Rattle.std.proofs.Common.{◌∙◌}
use Rattle.rules.specs.Tree.{tree_of}
use Rattle.rules.specs.Promise.{lists}
use Rattle.rules.specs.CallShuffle.{shuffle, shuffle_call}
use Rattle.laws.proofs.TreeOf.{tree_size}
use Rattle.demands.specs.Law.{Lawful}
use Rattle.demands.proofs.Law.{lawful_made}
use Rattle.demands.specs.LawVector.{VectorRefused}
use Rattle.demands.proofs.LawVector.{settled_vector}
use Rattle.demands.proofs.Long.{new_long}

pub lawful_shuffle : (v : List ℕ) → Lawful (shuffle_call v) (VectorRefused v) (length v)
unfolding shuffle
lawful_shuffle v =
    lawful_made lists (shuffle v) (VectorRefused v) (length v)
    (settled_vector (λ (x : List ℕ × List ℕ). length x.0) v _ (length v) (λ ok. new_long (tree_of v) ∙ tree_size v ok))
