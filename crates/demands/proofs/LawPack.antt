-- Pack: when it refuses, and that it writes the bytes of the record.
-- Main result: lawful_pack.
use Rattle.std.specs.Prelude.{List, ℕ, length}
use Rattle.rules.specs.Record.{record_of, record_length}
use Rattle.rules.specs.Promise.{list}
use Rattle.rules.specs.CallPack.{pack, pack_call}
use Rattle.record_laws.proofs.Inverse.{length_record}
use Rattle.demands.specs.Law.{Lawful}
use Rattle.demands.proofs.Law.{lawful_made}
use Rattle.demands.specs.LawVector.{VectorRefused}
use Rattle.demands.proofs.LawVector.{settled_vector}

pub lawful_pack : (v : List ℕ) → Lawful (pack_call v) (VectorRefused v) (record_length (length v))
unfolding pack
lawful_pack v =
    lawful_made list (pack v) (VectorRefused v) (record_length (length v))
    (settled_vector length v (record_of v) (record_length (length v)) (λ ok. length_record v))
