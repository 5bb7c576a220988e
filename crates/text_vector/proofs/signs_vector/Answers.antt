use Rattle.std.proofs.Common.{arith, ℕ, ◌≤◌, List, length, replicate}
use Rattle.std.proofs.lemmas.List.{length-replicate}
use Rattle.blanks.specs.Kept.{kept}
use Rattle.text_laws.proofs.Cells.{replicate_all_zero}
use Rattle.text_laws.specs.Answers.{TextTook}
use Rattle.text_reader.specs.Reading.{InFront}
use Rattle.text_signs.specs.Keeping.{SignsKept}
use Rattle.text_vector.specs.Gives.{Taken, kept_in_front, broken_at, some_labels, too_many, label_found, some_fault, table_read, vector_held}
use Rattle.text_vector.proofs.signs_vector.Goals as goal

-- the kept signs are read, and have so many labels
taken : {s signs : List ℕ} {count : ℕ} {m : List ℕ} {n : ℕ}
    → SignsKept s signs count
    → length s ≤ 65536
    → ((t : List ℕ) → InFront t signs count → TextTook t (replicate 2576 0) m n)
    → Taken s (replicate 2576 0) m n
taken {s} K long reads = record { short = (long, K.few); took = reads (kept s) (kept_in_front K); room = length-replicate {A = ℕ} 2576 0; zeros = replicate_all_zero 2576 }

pub read_text-requires : goal.read_text-requires
read_text-requires c = (_, kept_in_front c.requires.0)

pub returns-in-Err : goal.returns-in-Err
returns-in-Err c = broken_at _ c.place_of.ensures (c.requires.1, c.requires.0.few) (c.in-Err.ensures (kept c.args.s.now) (kept_in_front c.requires.0))

pub returns-then-n-gt1024 : goal.returns-then-n-gt1024
returns-then-n-gt1024 c = too_many (taken c.requires.0 c.requires.1 c.in-Ok.ensures) c.if-n-gt1024.true

pub first_fault-requires : goal.first_fault-requires
first_fault-requires c =
    let few = c.if-n-gt1024.false in
    (few, some_fault (taken c.requires.0 c.requires.1 c.in-Ok.ensures) few (rw c.if-not-each_once.true at c.each_once.ensures))

pub returns-then-not-each_once : goal.returns-then-not-each_once
returns-then-not-each_once c = label_found (taken c.requires.0 c.requires.1 c.in-Ok.ensures) c.if-n-gt1024.false _ c.first_fault.ensures

pub pairs_vector-requires : goal.pairs_vector-requires
pairs_vector-requires c =
    let T = taken c.requires.0 c.requires.1 c.in-Ok.ensures in
    let few = c.if-n-gt1024.false in
    record { le_n = (some_labels T, few, omega (arith, c.told-vector)); table_of = (_, table_read T few (rw c.if-not-each_once.false at c.each_once.ensures)) }

pub returns : goal.returns
returns c =
    let T = taken c.requires.0 c.requires.1 c.in-Ok.ensures in
    let few = c.if-n-gt1024.false in
    let each = rw c.if-not-each_once.false at c.each_once.ensures in
    vector_held T few each _ _ (c.pairs_vector.ensures _ (table_read T few each))
