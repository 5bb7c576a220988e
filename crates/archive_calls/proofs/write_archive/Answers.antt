-- `write_archive` meets its contract: a refusal for each check in its order, and then the archive has the room.
use native.Mathlib.Omega.{arith}
use borrow.Author.Rules.{rules}
use mathlib.Core.List.{List}
use mathlib.Core.Path.{sym, ◌∙◌}
use Prim.Native.Nat.{ℕ, ◌*◌, ◌≤◌}
use lib.ListN.{length}
use Rattle.rules.specs.Answer as answers
use Rattle.accepting.proofs.Kept.{refused_early, short_room, full_list}
use Rattle.archive_laws.proofs.Writer.{write_no_leaf, write_many_leaves, write_too_many, write_in_parts, write_above, write_accepted}
use Rattle.archive_calls.proofs.Counted.{Counted, trees_most, whole_most, next_most}
use Rattle.archive_calls.proofs.write_archive.Goals as goal
use Rattle.archive_calls.proofs.write_archive.Goals.{then-leaves-eq0-via-then-leaves-eq0, then-leaves-eq0-via-else-leaves-eq0+then-leaves-gt-MOST_LEAVES}

-- behind the checks of the counts
counted : (n : ℕ) (xs : List ℕ) → 1 ≤ n → n ≤ 1024 → length xs ≤ 2097151 * n → Counted n xs
counted n xs h l f = record { some_leaf = h; few_leaves = l; few = f }

pub returns-then-leaves-eq0 : goal.returns-then-leaves-eq0
unfolding answers.number_of
returns-then-leaves-eq0 c =
    elim c.then-leaves-eq0.branch [
      | then-leaves-eq0-via-then-leaves-eq0 w ↦ refused_early _ (write_no_leaf _ _ w.if-leaves-eq0.true) c.refuse.ensures
      | then-leaves-eq0-via-else-leaves-eq0+then-leaves-gt-MOST_LEAVES w ↦ refused_early _ (write_many_leaves _ _ w.if-leaves-gt-MOST_LEAVES.true) c.refuse.ensures
    ]

pub returns-then-leaves-size : goal.returns-then-leaves-size
unfolding answers.number_of
returns-then-leaves-size c = refused_early _
    (write_too_many _ _ (omega (arith, c.if-leaves-eq0.false)) c.if-leaves-gt-MOST_LEAVES.false (omega (arith, c.if-leaves-size.true)))
    c.refuse-then-leaves-size.ensures

pub overflow_mul-trees : goal.overflow_mul-trees
overflow_mul-trees c = let k = whole_most (counted c.args.leaves c.args.entries.now (omega arith) c.if-leaves-gt-MOST_LEAVES.false (omega arith)) in search rules

pub overflow_add-trees : goal.overflow_add-trees
overflow_add-trees c = let k = trees_most (counted c.args.leaves c.args.entries.now (omega arith) c.if-leaves-gt-MOST_LEAVES.false (omega arith)) in search rules

pub overflow_mul-trees-then-trees-leaves : goal.overflow_mul-trees-then-trees-leaves
overflow_mul-trees-then-trees-leaves c = let C = counted c.args.leaves c.args.entries.now (omega arith) c.if-leaves-gt-MOST_LEAVES.false (omega arith) in
    let k = next_most C in
    let l = C.few in
    let m = C.few_leaves in
    search rules

pub returns-then-trees-leaves : goal.returns-then-trees-leaves
unfolding answers.number_of
returns-then-trees-leaves c = let C = counted c.args.leaves c.args.entries.now (omega arith) c.if-leaves-gt-MOST_LEAVES.false (omega arith) in
    refused_early _ (write_in_parts _ _ C.some_leaf C.few_leaves C.few c.if-trees-leaves.true) c.refuse-then-trees-leaves.ensures

pub first_fault_in-requires : goal.first_fault_in-requires
first_fault_in-requires c = let C = counted c.args.leaves c.args.entries.now (omega arith) c.if-leaves-gt-MOST_LEAVES.false (omega arith) in (C.some_leaf, C.few_leaves, sym c.if-trees-leaves.false)

pub returns-in-Some : goal.returns-in-Some
unfolding answers.number_of
returns-in-Some c = let C = counted c.args.leaves c.args.entries.now (omega arith) c.if-leaves-gt-MOST_LEAVES.false (omega arith) in
    refused_early _ (write_above _ _ C.some_leaf C.few_leaves _ C.few c.if-trees-leaves.false c.in-Some.ensures.fault) c.refuse-in-Some.ensures

pub implied_length-bytes-requires : goal.implied_length-bytes-requires
implied_length-bytes-requires c = let C = counted c.args.leaves c.args.entries.now (omega arith) c.if-leaves-gt-MOST_LEAVES.false (omega arith) in
    (C.some_leaf, C.few_leaves, omega (arith, trees_most C))

pub returns-then-out-bytes : goal.returns-then-out-bytes
unfolding answers.number_of
returns-then-out-bytes c = let C = counted c.args.leaves c.args.entries.now (omega arith) c.if-leaves-gt-MOST_LEAVES.false (omega arith) in
    let W = write_accepted _ _ C.some_leaf C.few_leaves C.few c.if-trees-leaves.false c.in_default.ensures.fault in
    short_room _ _ W.0 (W.1 ∙ sym c.implied_length-bytes.ensures) c.if-out-bytes.true c.refuse-then-out-bytes.ensures

pub bare_length-requires : goal.bare_length-requires
bare_length-requires c = let C = counted c.args.leaves c.args.entries.now (omega arith) c.if-leaves-gt-MOST_LEAVES.false (omega arith) in
    (C.some_leaf, C.few_leaves)

pub write_archive-requires : goal.write_archive-requires
write_archive-requires c = let C = counted c.args.leaves c.args.entries.now (omega arith) c.if-leaves-gt-MOST_LEAVES.false (omega arith) in
    record {
      some_leaf = C.some_leaf;
      few_leaves = C.few_leaves;
      whole = sym c.if-trees-leaves.false;
      few = trees_most C;
      within = c.in_default.ensures.fault;
      size = c.bare_length.ensures;
      fits = rw c.implied_length-bytes.ensures at c.if-out-bytes.false;
    }

pub returns : goal.returns
unfolding answers.number_of
returns c = let C = counted c.args.leaves c.args.entries.now (omega arith) c.if-leaves-gt-MOST_LEAVES.false (omega arith) in
    let W = write_accepted _ _ C.some_leaf C.few_leaves C.few c.if-trees-leaves.false c.in_default.ensures.fault in
    let e = c.implied_length-bytes.ensures in
    full_list _ _ W.0 (W.1 ∙ sym e) c.if-out-bytes.false (rw (← e) at c.write_archive.ensures)
