-- How tight the statements are: each wrong library that 01 names breaks the promise, also where only one call or one buffer is wrong, and only
-- where it is done.
-- Main results: not_refuse_everything, not_one_vector, not_write_nothing, not_one_count, every_row, not_one_row; done_is_written, count_is_written;
-- one_library_keeps, no_two_libraries. TightByThree has demand 3 against one fixed vector.
use Rattle.std.specs.Prelude.{false, List, [], ◌∷◌, ◌++◌, ◌≢◌, ◌≡◌, refl, ℕ, ◌≤◌, eqb, length, take, drop, get_or}
use Rattle.std.proofs.Common.{append_assoc, sym, ap, ap₂, ◌∙◌, arith, take-append-drop, drop_at}
use Rattle.std.proofs.lemmas.Bool.{eqb-false}
use Rattle.rules.specs.declared.Refusal.{Refusal}
use Rattle.rules.specs.declared.Answer.{Answer}
use Rattle.rules.specs.declared.Answer.TheVariants.{Done, Refused}
use Rattle.rules.specs.Answer.{reads, made}
use Rattle.rules.specs.Promise.{over}
use Rattle.rules.specs.Tree.{tree_of}
use Rattle.rules.specs.Order.{vector_of}
use Rattle.rules.specs.Table.{table_of}
use Rattle.rules.specs.Newick.{text_of}
use Rattle.rules.specs.Record.{record_of}
use Rattle.rules.specs.Archive.{archive_of}
use Rattle.rules.specs.Shuffle.{renamed, new_of}
use Rattle.rules.specs.CladeTable.{trees_of, clade_table}
use Rattle.rules.specs.CallCheck.{check}
use Rattle.accepting.proofs.Answers.{done_not_refused}
use Rattle.demands.specs.Calls.{Name, Public, call_to_table}
use Rattle.demands.proofs.Calls.{the}
use Rattle.demands.proofs.Keeping.{Lent}
use Rattle.demands.proofs.Law.{done_made}
use Rattle.demands.specs.Shapes.{flat, blank}
use Rattle.demands.proofs.DemandOne.{wanted, done_exactly, every_input_answered, promise_unique}
use Rattle.demands.specs.Relabelled.{unmoved}
use Rattle.demands.specs.DemandTwo.{Vector}
use Rattle.demands.proofs.DemandTwo.{accepted_exactly, demand_two}
use Rattle.demands.specs.EachCall.{Buffer, to_table_out, from_table_out, to_newick_out, from_newick_out, pack_out, unpack_out, shuffle_new, shuffle_out, relabel_out, write_archive_out, read_tree_out, clade_table_out}
use Rattle.demands.specs.EachCall.{Try}
use Rattle.demands.proofs.EachCall.{buffer_of, Library, KeepsAll, counts}
use Rattle.demands.proofs.Asks.{asks, asks_call, counted, lent, before, after, asked_done}

-- the vectors that are tried: the trees (0,(1,2)); and ((0,1),2); and trees of one leaf and of five
pub first_ok : Vector (0 ∷ 0 ∷ 1 ∷ [])
unfolding check
first_ok = (accepted_exactly _).0 refl

pub second_ok : Vector (0 ∷ 0 ∷ 2 ∷ [])
unfolding check
second_ok = (accepted_exactly _).0 refl

one_ok : Vector (0 ∷ [])
unfolding check
one_ok = (accepted_exactly _).0 refl

five_ok : Vector (0 ∷ 0 ∷ 0 ∷ 0 ∷ 0 ∷ [])
unfolding check
five_ok = (accepted_exactly _).0 refl

abbrev pub first : Try
first = (0 ∷ 0 ∷ 1 ∷ [], first_ok, omega arith)

abbrev pub second : Try
second = (0 ∷ 0 ∷ 2 ∷ [], second_ok, omega arith)

abbrev one_leaf : Try
one_leaf = (0 ∷ [], one_ok, omega arith)

abbrev five_leaves : Try
five_leaves = (0 ∷ 0 ∷ 0 ∷ 0 ∷ 0 ∷ [], five_ok, omega arith)

-- "One that refuses everything": no one call may refuse all its inputs
pub not_refuse_everything : (library : Library) (k : Name) → ((c : Public) → (the c).name ≡ k → (old : Lent c) → (r : Refusal) × ((library c old).0 ≡ Refused r))
    → KeepsAll library → ⊥
unfolding reads
not_refuse_everything library k refuses keeps =
    let r = refuses (asks k first) (asks_call k first) (lent k first) in
    done_not_refused _ _ _ (ap reads (sym (asked_done k first library keeps).0 ∙ r.1))

-- What is tried in buffer j of call k: of the first two vectors as many elements are written, others, and others than the buffer held; of the
-- other two not as many.
record Tried (k : Name) (j : ℕ) : Type 0 where
  same_count : counted k first ≡ counted k second
  same_before : before k first j ≡ before k second j
  place : ℕ
  differs : eqb (get_or (after k first j) place 0) (get_or (after k second j) place 0) ≡ false
  changes : eqb (get_or (after k first j) 0 0) (get_or (before k first j) 0 0) ≡ false
  other_count : eqb (counted k one_leaf) (counted k five_leaves) ≡ false

tried : {k : Name} {j : ℕ} → Buffer k j → Tried k j
unfolding table_of text_of record_of archive_of tree_of vector_of renamed new_of unmoved clade_table trees_of flat blank
tried to_table_out = record { same_count = refl; same_before = refl; place = 0; differs = refl; changes = refl; other_count = refl }
tried from_table_out = record { same_count = refl; same_before = refl; place = 2; differs = refl; changes = refl; other_count = refl }
tried to_newick_out = record { same_count = refl; same_before = refl; place = 1; differs = refl; changes = refl; other_count = refl }
tried from_newick_out = record { same_count = refl; same_before = refl; place = 2; differs = refl; changes = refl; other_count = refl }
tried pack_out = record { same_count = refl; same_before = refl; place = 1; differs = refl; changes = refl; other_count = refl }
tried unpack_out = record { same_count = refl; same_before = refl; place = 2; differs = refl; changes = refl; other_count = refl }
tried shuffle_new = record { same_count = refl; same_before = refl; place = 1; differs = refl; changes = refl; other_count = refl }
tried shuffle_out = record { same_count = refl; same_before = refl; place = 2; differs = refl; changes = refl; other_count = refl }
tried relabel_out = record { same_count = refl; same_before = refl; place = 2; differs = refl; changes = refl; other_count = refl }
tried write_archive_out = record { same_count = refl; same_before = refl; place = 4; differs = refl; changes = refl; other_count = refl }
tried read_tree_out = record { same_count = refl; same_before = refl; place = 2; differs = refl; changes = refl; other_count = refl }
tried clade_table_out = record { same_count = refl; same_before = refl; place = 0; differs = refl; changes = refl; other_count = refl }

module _ (library : Library) (k : Name) (j : ℕ) (B : Buffer k j) where
  -- "One fixed vector for all": in no buffer of any call may one fixed list stand wherever it is done, not even one for each count
  pub not_one_vector : (w : ℕ → List ℕ)
      → ((c : Public) → (the c).name ≡ k → (old : Lent c) (count : ℕ) → (library c old).0 ≡ Done count → buffer_of j c (library c old).1 ≡ over (w count) (buffer_of j c old))
      → KeepsAll library → ⊥
  not_one_vector w fixed keeps =
      let T = tried B in
      let e = ap₂ (λ (n : ℕ) (b : List ℕ). over (w n) b) T.same_count T.same_before in
      eqb-false _ _ T.differs (ap (λ (l : List ℕ). get_or l T.place 0) (stands first ∙ e ∙ sym (stands second)))
    where
      stands : (t : Try) → after k t j ≡ over (w (counted k t)) (before k t j)
      stands t = let d = asked_done k t library keeps in sym (d.1 j) ∙ fixed (asks k t) (asks_call k t) (lent k t) (counted k t) d.0

  -- "One that answers done and writes nothing": no buffer of any call may be left as it was wherever it is done
  pub not_write_nothing :
      ((c : Public) → (the c).name ≡ k → (old : Lent c) (count : ℕ) → (library c old).0 ≡ Done count → buffer_of j c (library c old).1 ≡ buffer_of j c old)
      → KeepsAll library → ⊥
  not_write_nothing same keeps =
      let d = asked_done k first library keeps in
      let e = sym (d.1 j) ∙ same (asks k first) (asks_call k first) (lent k first) (counted k first) d.0 in
      eqb-false _ _ (tried B).changes (ap (λ (l : List ℕ). get_or l 0 0) e)

  -- "A count of elements not tied to what was written": no call that writes may give one count wherever it is done
  pub not_one_count : (count : ℕ) → ((c : Public) → (the c).name ≡ k → (old : Lent c) (n : ℕ) → (library c old).0 ≡ Done n → n ≡ count) → KeepsAll library → ⊥
  not_one_count count same keeps = eqb-false _ _ (tried B).other_count (says one_leaf ∙ sym (says five_leaves))
    where
      says : (t : Try) → counted k t ≡ count
      says t = same (asks k t) (asks_call k t) (lent k t) (counted k t) (asked_done k t library keeps).0

-- "demand 2 fixes the elements", and the count: where a library is done, what the call makes stands in the buffers, and the answer counts it
pub done_is_written : (library : Library) → KeepsAll library → (c : Public) (old : Lent c) (count : ℕ) → (library c old).0 ≡ Done count
    → (x : (the c).Written) × (the c).call.Makes (made x) × ((library c old).1 ≡ (the c).call.buffers.write x old) × (count ≡ counts c x)
unfolding reads
done_is_written library keeps c old count e =
    done_made (the c).call (the c).Wrong (the c).wanted (the c).law old (library c old).0 (library c old).1 (keeps c old) count (ap reads e)

-- which is the number of elements of the notation
pub count_is_written : (library : Library) → KeepsAll library → (c : Public) (old : Lent c) (count : ℕ) → (library c old).0 ≡ Done count → count ≡ wanted c
unfolding reads
count_is_written library keeps c old count e =
    ((done_exactly c old (library c old).0 (library c old).1 (keeps c old) count).0 (ap reads e)).1

-- "demand 2 again, by every row": what stands behind the first row is fixed, for every vector
pub every_row : (library : Library) → KeepsAll library → (v : List ℕ) → Vector v → (old rest : List ℕ) → length (table_of v) ≤ length old
    → (library (call_to_table v) old).1 ≡ take 3 (table_of v) ++ rest → rest ≡ drop 3 (table_of v) ++ drop (length (table_of v)) old
every_row library keeps v ok old rest h e =
    let T = table_of v in
    let row = take 3 T in
    let w = ((demand_two v ok).table_written old (library (call_to_table v) old).1 (library (call_to_table v) old).0 (keeps (call_to_table v) old) h).1 in
    let split : T ++ drop (length T) old ≡ row ++ (drop 3 T ++ drop (length T) old) =
    ap (λ (l : List ℕ). l ++ drop (length T) old) (sym (take-append-drop 3 T)) ∙ append_assoc row (drop 3 T) (drop (length T) old) in
    sym (drop_at row rest (length row) refl)
    ∙ ap (drop (length row)) (sym e ∙ w ∙ split)
    ∙ drop_at row (drop 3 T ++ drop (length T) old) (length row) refl

-- "One that merges properly once and fills the other rows with anything" but the rows of the vector's table
pub not_one_row : (library : Library) (v old rest : List ℕ) → Vector v → length (table_of v) ≤ length old
    → rest ≢ drop 3 (table_of v) ++ drop (length (table_of v)) old → (library (call_to_table v) old).1 ≡ take 3 (table_of v) ++ rest → KeepsAll library → ⊥
not_one_row library v old rest ok h other once keeps = other (every_row library keeps v ok old rest h once)

-- there is a library that keeps the promises, and no two differ in an answer or in an element of a lent buffer
pub one_library_keeps : (library : Library) × KeepsAll library
one_library_keeps = (λ c old. let E = every_input_answered c old in (E.the_answer, E.the_buffers), λ c old. (every_input_answered c old).promised)

pub no_two_libraries : (library other : Library) → KeepsAll library → KeepsAll other → (c : Public) (old : Lent c) → library c old ≡ other c old
no_two_libraries library other keeps keeps' c old =
    let e = promise_unique c old (library c old).0 (other c old).0 (library c old).1 (other c old).1 (keeps c old) (keeps' c old) in
    ap₂ (λ (a : Answer) (new : Lent c). (a, new)) e.0 e.1
