-- What a text gives, by what the public call makes of it.
-- Main definitions: Holds, Gives, Taken. Main results: held_there, gives_too_many, kept_in_front, broken_at, too_many, label_found, some_fault, table_read, vector_held.
use Rattle.std.specs.Prelude.{Bool, true, false, cond, ◌≡◌, refl, ℕ, ◌+◌, ◌-◌, ◌≤◌, ◌<◌, length, take, drop, Result, Ok, Err, IsErrAnd}
use mathlib.Core.List.{List, [], ◌++◌, map}
use Rattle.std.proofs.Math.Option.{none, some}
use Rattle.std.proofs.Common.{sym, ◌∙◌, subst, arith, length-take, length-drop, take_at, lt-ltb}
use Rattle.std.proofs.Math.Path.{ap}
use Rattle.std.proofs.lemmas.List.Edits.{sets}
use Rattle.rules.specs.Tree.{has, LeavesBelow}
use Rattle.rules.specs.Order.{vector_of}
use Rattle.rules.specs.Names.{PlacedFault, first_fault}
use Rattle.rules.specs.Newick.{Text, BreaksAt, labels_of, label_fault}
use Rattle.rules.specs.Sent.{SentText}
use Rattle.rules.specs.Answer.{Made, made, refuses}
use Rattle.rules.specs.Guards.{label_number, refuse_label}
use Rattle.rules.specs.CallFromNewick.{from_labels, NotLong, FromText, breaks, reads_as}
use Rattle.accepting.proofs.Guards.{many_leaves, some_leaves, refuse_label_lem, pass_label}
use Rattle.laws.proofs.OneToOne.{every_tree}
use Rattle.blanks.specs.Kept.{kept}
use Rattle.blanks.proofs.Kept.{kept_fewer}
use Rattle.blanks.specs.Marks.{other}
use Rattle.blanks.specs.Places.{place_of}
use Rattle.blanks.proofs.Breaks.{kept_text, kept_breaks}
use Rattle.blanks.proofs.Labels.{sent_labels}
use Rattle.grammar.proofs.Labels.{label_count}
use Rattle.grammar.specs.Pairs.{pairs_from}
use Rattle.grammar.proofs.Pairs.{size_pairs}
use Rattle.grammar.proofs.Faults.{no_fault_leaves}
use Rattle.grammar.proofs.Once.{each_leaf_no_fault}
use Rattle.text_laws.specs.Cells.{cell, begun, AllZero}
use Rattle.text_laws.proofs.Cells.{begun_cells, begun_other}
use Rattle.text_laws.specs.Answers.{TextTook}
use Rattle.text_signs.specs.Keeping.{SignsKept}
use Rattle.text_reader.specs.Reading.{InFront}
use Rattle.label_faults.specs.Fault.{fault_is}
use Rattle.label_faults.specs.Marks.{EachOnce}
use Rattle.text_laws.specs.Recorded.{children, TableOf, recorded_rows}
use Rattle.text_laws.proofs.Recorded.{pairs_there, marks_there, table_recorded}
use Rattle.text_vector.specs.declared.TextFault.{TextFault}
use Rattle.text_vector.specs.declared.TextFault.TheVariants.{TooManySigns, Breaks, TooManyLeaves, Label}

-- the text's vector stands at the front of vector
pub record Holds (s : List ℕ) (n : ℕ) (vector : List ℕ) : Type 0 where
  pub count : length (take n vector) ≡ n
  pub makes : FromText s (made (take n vector))

pub held_there : {s : List ℕ} {n : ℕ} {vector : List ℕ} → Holds s n vector → n ≤ length vector
held_there {n = n} {vector} H = omega (arith, H.count, length-take n vector)

abbrev pub Gives : List ℕ → List ℕ → Result ℕ TextFault → Type 0
Gives s vector (Ok n) = Holds s n vector
Gives s vector (Err TooManySigns) = FromText s (refuses 2 6056)
Gives s vector (Err (Breaks k)) = FromText s (refuses 8 k)
Gives s vector (Err TooManyLeaves) = FromText s (refuses 1 0)
Gives s vector (Err (Label f)) = FromText s (refuses (label_number (fault_is f).0) (fault_is f).1)

-- an error that too many signs become
pub gives_too_many : {s : List ℕ} (vector : List ℕ) (told : Result ℕ TextFault) → IsErrAnd told (λ fault. fault ≡ TooManySigns) → FromText s (refuses 2 6056) → Gives s vector told
gives_too_many vector (Ok n) h g = absurd h
gives_too_many {s} vector (Err fault) h g = subst (λ (x : TextFault). Gives s vector (Err x)) (sym h) g

-- the kept signs of a text stand in front of zeros, so that they can be read
pub kept_in_front : {s signs : List ℕ} {count : ℕ} → SignsKept s signs count → InFront (kept s) signs count
unfolding kept
kept_in_front {s} K = record { short = omega (arith, K.few, kept_fewer other s); long = K.count; same = K.there }

-- they break the grammar
pub broken_at : {s : List ℕ} {place : ℕ} (k : ℕ) → place ≡ place_of s k → NotLong s → BreaksAt Text (kept s) k → FromText s (refuses 8 place)
broken_at {s} k e short b = rw e (breaks short (kept_breaks s k b))

-- what is kept of a text of n labels is read into an array of zeros
pub record Taken (s m m' : List ℕ) (n : ℕ) : Type 0 where
  pub short : NotLong s
  pub took : TextTook (kept s) m m' n
  pub room : length m ≡ 2576
  pub zeros : AllZero m

module _ {s m m' : List ℕ} {n : ℕ} (K : Taken s m m' n) where
  abbrev T : TextTook (kept s) m m' n
  T = K.took

  sent : SentText s T.tree
  sent = kept_text s T.tree T.reads_as

  makes_labels : (o : Made) → from_labels s T.tree ≡ o → FromText s o
  makes_labels o e = subst (FromText s) e (reads_as T.tree K.short sent)

  count : length (labels_of s) ≡ n
  count = omega (arith, T.leaves, label_count (sent_labels sent), size_pairs T.tree)

  pub some_labels : 1 ≤ n
  some_labels = omega (arith, T.leaves)

  pub too_many : 1024 < n → FromText s (refuses 1 0)
  unfolding from_labels
  too_many h = makes_labels (refuses 1 0) (many_leaves (length (labels_of s)) _ (omega (arith, count)))

  checked : n ≤ 1024 → from_labels s T.tree ≡ refuse_label (label_fault s) (made (vector_of T.tree))
  unfolding from_labels
  checked h = some_leaves (length (labels_of s)) _ (omega (arith, count, some_labels)) (omega (arith, count))

  fault_is_lem : label_fault s ≡ first_fault n [] (labels_of s)
  unfolding label_fault
  fault_is_lem = ap (λ (k : ℕ). first_fault k [] (labels_of s)) count

  pub label_found : n ≤ 1024 → (f : PlacedFault) → some f ≡ first_fault n [] (labels_of s) → FromText s (refuses (label_number f.0) f.1)
  label_found few f e = makes_labels (refuses (label_number f.0) f.1) (checked few ∙ refuse_label_lem f.0 f.1 _ _ (fault_is_lem ∙ sym e))

  module _ (few : n ≤ 1024) where
    mark_is : (x : ℕ) → x < n → cell m' (16 + x) ≡ cond (has T.tree x) 1 0
    mark_is x h =
        let c = begun_cells m K.room in
        let z : cell (begun m) (16 + x) ≡ 0 = begun_other m (16 + x) (λ q. omega arith) (λ q. omega arith) ∙ K.zeros (16 + x) in
        ap (λ (l : List ℕ). cell l (16 + x)) T.there ∙ marks_there T.tree (begun m) c.0 (omega (arith, c.1)) x (omega arith) ∙ ap (cond (has T.tree x) 1) z

    -- a label without its mark: some label is at fault
    pub some_fault : EachOnce m' n false → first_fault n [] (labels_of s) ≡ none → ⊥
    some_fault (x, h, e) q =
        let b : LeavesBelow (length (labels_of s)) T.tree = no_fault_leaves (sent_labels sent) (fault_is_lem ∙ q) in
        let f : has T.tree x ≡ true = b.all x ∙ lt-ltb x (length (labels_of s)) (omega (arith, count)) in
        let g : cell m' (16 + x) ≡ 1 = mark_is x h ∙ ap (λ (c : Bool). cond c 1 0) f in
        omega arith

    module _ (once : EachOnce m' n true) where
      has_each : (x : ℕ) → x < n → has T.tree x ≡ true
      has_each x h = go (has T.tree x) refl
        where
          go : (b : Bool) → has T.tree x ≡ b → has T.tree x ≡ true
          go true e = e
          go false e = absurd (once x h (mark_is x h ∙ ap (λ (c : Bool). cond c 1 0) e))

      no_fault : label_fault s ≡ none
      no_fault = each_leaf_no_fault (sent_labels sent) (λ x h. has_each x (omega (arith, count)))

      leaves : LeavesBelow n T.tree
      leaves = subst (λ (k : ℕ). LeavesBelow k T.tree) count (no_fault_leaves (sent_labels sent) no_fault)

      pub table_read : TableOf n T.tree (recorded_rows n (drop 1040 m'))
      table_read =
          let c = begun_cells m K.room in
          let z : cell (begun m) 4 - 16384 ≡ 0 = omega arith in
          let e : drop 1040 m' ≡ sets (drop 1040 (begun m)) 0 (map children (pairs_from 0 T.tree)) =
          ap (drop 1040) T.there ∙ pairs_there T.tree (begun m) (omega arith) (omega arith)
          ∙ ap (λ (k : ℕ). sets (drop 1040 (begun m)) k (map children (pairs_from k T.tree))) z in
          table_recorded n T.tree (drop 1040 (begun m)) (drop 1040 m') leaves few (omega (arith, length-drop 1040 (begun m))) e

      pub vector_held : (vector rest : List ℕ) → vector ≡ vector_of T.tree ++ rest → Holds s n vector
      vector_held vector rest v =
          let l : length (vector_of T.tree) ≡ n = (every_tree n T.tree leaves).entries in
          let f : take n vector ≡ vector_of T.tree = ap (take n) v ∙ take_at (vector_of T.tree) rest n l in
          record {
            count = ap length f ∙ l;
            makes = makes_labels _ (checked few ∙ pass_label _ _ no_fault ∙ ap made (sym f));
          }
