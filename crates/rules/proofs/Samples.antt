-- The samples of 01, proved of the definitions, and more of them: an edit of a definition of rules should break one.
-- Main results: samples_hold (the marked ones: one table, one statement), refused_hold (01's refusals), worked_hold (worked by hand),
-- orders_hold (which refusal comes first), rooms_hold (what comes back), figure_s1 (a run step by step), turned_back (every vector of up to five
-- entries, from its tree, table and record), listings_hold.
use Rattle.std.specs.Prelude.{Bool, true, false, ◌&&◌, cond, ◌≡◌, refl, eqb, length, replicate}
use mathlib.Core.List.{List, [], ◌∷◌, ◌++◌, map, flat_map}
use Rattle.std.proofs.Math.Option.{Option, none, some}
use Prim.Native.Char.{code}
use Prim.Native.Nat.{ℕ, zero, suc, compare, ◌≤◌, ◌<◌}
use Prim.Native.String.{String, [] as []ˢ, ◌∷◌ as ◌∷ˢ◌}
use Rattle.std.proofs.Math.Bridge.{le_by_compare, IsLe}
use Rattle.std.proofs.Common.{arith}
use Rattle.rules.specs.First.{First}
use Rattle.rules.specs.Building.{Merge, State, below, start, next, merge, merges}
use Rattle.rules.specs.Vector.{entry, bound, Valid}
use Rattle.rules.specs.Tree.{Tree, leaf, tree_of}
use Rattle.rules.specs.Order.{listed, vector_of}
use Rattle.rules.specs.Table.{table_of}
use Rattle.rules.specs.Newick.{pair_text, all_digits, value_from, nought, number, Node, label, pair, Text, text, BreaksAt}
use Rattle.rules.specs.Sent.{signs, parted, SentText}
use Rattle.rules.specs.Record.{total, record_of}
use Rattle.rules.specs.Answer.{Outcome, done, refused, Making, Made, made, refuses}
use Rattle.rules.specs.Promise.{Call, answers, holds}
use Rattle.rules.specs.Listing.{commaed, refused_line, listing}
use Rattle.rules.specs.CallCheck.{check, check_call}
use Rattle.rules.specs.CallToTable.{to_table}
use Rattle.rules.specs.CallFromTable.{from_table}
use Rattle.rules.specs.CallToNewick.{to_text}
use Rattle.rules.specs.CallFromNewick.{from_labels, FromText, breaks, reads_as, from_newick_call}
use Rattle.rules.specs.CallPack.{pack, pack_call}
use Rattle.rules.specs.CallUnpack.{unpack}
use Rattle.rules.specs.CallShuffle.{shuffle, shuffle_call}
use Rattle.rules.specs.CallRelabel.{relabel}

-- the bytes of a quoted text
abbrev pub bytes : String → List ℕ
bytes []ˢ = []
bytes (c ∷ˢ s) = code c ∷ bytes s

-- 01, "Samples to prove and to run", the marked ones. A line of the table: a vector, its text, and its record where 01 gives one.
abbrev Marked : Type 0
Marked = List ℕ × String × Option (List ℕ)

abbrev marked : List Marked
marked =
    (0 ∷ [], "0;", some (0x00 ∷ 0x20 ∷ []))
    ∷ (0 ∷ 0 ∷ [], "(0,1);", some (0x00 ∷ 0x40 ∷ []))
    ∷ (0 ∷ 0 ∷ 2 ∷ [], "((0,1),2);", some (0x00 ∷ 0x70 ∷ []))
    ∷ (0 ∷ 0 ∷ 1 ∷ 2 ∷ [], "(0,(1,(2,3)));", none)
    ∷ (0 ∷ 0 ∷ 1 ∷ 4 ∷ [], "((0,(1,2)),3);", some (0x00 ∷ 0x8C ∷ []))
    ∷ (0 ∷ 0 ∷ 2 ∷ 1 ∷ [], "((0,(1,3)),2);", some (0x00 ∷ 0x91 ∷ []))
    ∷ (0 ∷ 0 ∷ 1 ∷ 3 ∷ [], "(0,((1,2),3));", none)
    ∷ (0 ∷ 0 ∷ 2 ∷ 2 ∷ [], "((0,1),(2,3));", none)
    ∷ []

-- a vector packs to the record and the record unpacks to the vector, where 01 gives one
data Packs (v : List ℕ) : Option (List ℕ) → Type 0 where
  no_record : Packs v none
  packs : {record' : List ℕ} → pack v ≡ made record' → unpack record' ≡ made v → Packs v (some record')

-- what is said of each line: the vector makes the text, the text makes the vector, and so for the record
data Each : List Marked → Type 0 where
  end : Each []
  line : {v : List ℕ} {s : String} {record' : Option (List ℕ)} {rest : List Marked}
      → to_text v ≡ made (bytes s) → FromText (bytes s) (made v) → Packs v record' → Each rest → Each ((v, s, record') ∷ rest)

-- What a call makes of an input, and what 01 says that it gives; W is what it writes.
abbrev Line : Type 0 → Type 0
Line W = Making W × Making W

abbrev pub Hold : {A : Type 0} → List (A × A) → Type 0
Hold {A} ls = map (λ (l : A × A). l.0) ls ≡ map (λ (l : A × A). l.1) ls

-- the marked tables and relabelling; the table is read back too, and the rows are in the sender's order
abbrev tables : List (Line (List ℕ))
tables =
    (to_table (0 ∷ 0 ∷ 1 ∷ 4 ∷ []), made (1 ∷ 2 ∷ 4 ∷ 0 ∷ 4 ∷ 5 ∷ 5 ∷ 3 ∷ 6 ∷ []))
    ∷ (from_table 4 (1 ∷ 2 ∷ 4 ∷ 0 ∷ 4 ∷ 5 ∷ 5 ∷ 3 ∷ 6 ∷ []), made (0 ∷ 0 ∷ 1 ∷ 4 ∷ []))
    ∷ (from_table 4 (1 ∷ 0 ∷ 4 ∷ 3 ∷ 2 ∷ 5 ∷ 5 ∷ 4 ∷ 6 ∷ []), made (0 ∷ 0 ∷ 2 ∷ 2 ∷ []))
    ∷ (to_table (0 ∷ 0 ∷ 2 ∷ 2 ∷ []), made (2 ∷ 3 ∷ 4 ∷ 0 ∷ 1 ∷ 5 ∷ 5 ∷ 4 ∷ 6 ∷ []))
    ∷ (relabel (0 ∷ 0 ∷ 1 ∷ 4 ∷ []) (1 ∷ 0 ∷ 2 ∷ 3 ∷ []), made (0 ∷ 0 ∷ 0 ∷ 4 ∷ []))
    ∷ []

-- the marked shuffle: new and the vector
abbrev shuffles : List (Line (List ℕ × List ℕ))
shuffles = (shuffle (0 ∷ 0 ∷ 2 ∷ 1 ∷ []), made (0 ∷ 2 ∷ 1 ∷ 3 ∷ [], 0 ∷ 0 ∷ 0 ∷ 2 ∷ [])) ∷ []

-- the labels of the samples, as nodes
pub node_0 : {d : ℕ} → Node d (48 ∷ []) (leaf 0)
node_0 = label nought

pub digit : {d : ℕ} (c : ℕ) → all_digits (c ∷ []) ≡ true → eqb c 48 ≡ false → Node d (c ∷ []) (leaf (value_from 0 (c ∷ [])))
unfolding IsLe
digit c h k = label (number c [] h k (le_by_compare 0 3 tt))

pub node_1 : {d : ℕ} → Node d (49 ∷ []) (leaf 1)
unfolding all_digits value_from
node_1 = digit 49 refl refl

node_2 : {d : ℕ} → Node d (50 ∷ []) (leaf 2)
unfolding all_digits value_from
node_2 = digit 50 refl refl

node_3 : {d : ℕ} → Node d (51 ∷ []) (leaf 3)
unfolding all_digits value_from
node_3 = digit 51 refl refl

-- what few bytes make that break the grammar, or are a text as sent; that they are few is computed
pub breaks_few : {s : List ℕ} {k : ℕ} → IsLe (compare (length s) 65536) → IsLe (compare (length (signs s)) 6056) → BreaksAt SentText s k → FromText s (refuses 8 k)
breaks_few {s} a b h = breaks (le_by_compare (length s) 65536 a, le_by_compare (length (signs s)) 6056 b) h

pub reads_few : {s : List ℕ} {t : Tree} → IsLe (compare (length s) 65536) → IsLe (compare (length (signs s)) 6056) → parted s ≡ false → Text (signs s) t → FromText s (from_labels s t)
reads_few {s} {t} a b w r = reads_as t (le_by_compare (length s) 65536 a, le_by_compare (length (signs s)) 6056 b) (record { reads = r; whole = w })

-- the marked samples, one statement
samples_hold : Each marked × Hold tables × Hold shuffles
unfolding to_text from_labels pack unpack to_table from_table shuffle relabel pair_text signs parted IsLe
samples_hold = (
  line refl (reads_few tt tt refl (text node_0)) (packs refl refl)
      (line refl (reads_few tt tt refl (text (pair node_0 node_1))) (packs refl refl)
      (line refl (reads_few tt tt refl (text (pair (pair node_0 node_1) node_2))) (packs refl refl)
      (line refl (reads_few tt tt refl (text (pair node_0 (pair node_1 (pair node_2 node_3))))) no_record
      (line refl (reads_few tt tt refl (text (pair (pair node_0 (pair node_1 node_2)) node_3))) (packs refl refl)
      (line refl (reads_few tt tt refl (text (pair (pair node_0 (pair node_1 node_3)) node_2))) (packs refl refl)
      (line refl (reads_few tt tt refl (text (pair node_0 (pair (pair node_1 node_2) node_3)))) no_record
      (line refl (reads_few tt tt refl (text (pair (pair node_0 node_1) (pair node_2 node_3)))) no_record
      end))))))),
  refl,
  refl,
)

-- a vector of one entry is valid, the empty one is not, nor one with an entry above its bound
validity : Valid (0 ∷ []) × (Valid [] → ⊥) × (Valid (0 ∷ 1 ∷ []) → ⊥)
unfolding entry bound IsLe
validity = (
  record { some_leaf = le_by_compare 1 1 tt; bounded = first },
  λ ok. omega (arith, ok.some_leaf),
  λ ok. omega (arith, ok.bounded 1 (omega arith)),
)
  where
    first : (i : ℕ) → i < 1 → entry (0 ∷ []) i ≤ bound i
    first zero h = le_by_compare 0 0 tt
    first (suc i) h = absurd (omega arith)

-- the totals that 01 gives
totals : map total (1 ∷ 2 ∷ 3 ∷ 4 ∷ 1024 ∷ []) ≡ 11 ∷ 11 ∷ 13 ∷ 16 ∷ 10240 ∷ []
unfolding total
totals = refl

-- 01, "Refused", and what just passes
abbrev checks : List (Line (Unit {0}))
checks =
    (check (0 ∷ 1 ∷ []), refuses 4 1)
    ∷ (check (0 ∷ 0 ∷ 3 ∷ []), refuses 4 2)
    ∷ (check (0 ∷ 0 ∷ 2 ∷ []), made tt)
    ∷ (check [], refuses 1 0)
    ∷ (check (replicate 1025 0), refuses 1 0)
    ∷ (check (replicate 1024 0), made tt)
    ∷ []

-- of the refused texts those that the grammar takes; TextSamples has the others
refused_hold : Hold checks × (unpack (0x00 ∷ 0x41 ∷ []) ≡ refuses 10 1) × FromText (bytes "(0,0);") (refuses 13 3)
    × FromText (bytes "5;") (refuses 9 0) × FromText (bytes "1;") (refuses 9 0)
unfolding check unpack from_labels pair_text signs parted IsLe all_digits value_from
refused_hold = (
  refl,
  refl,
  reads_few tt tt refl (text (pair node_0 node_0)),
  reads_few tt tt refl (text (digit 53 refl refl)),
  reads_few tt tt refl (text node_1),
)

-- Worked by hand from 01's words: every entry at its bound, so that each leaf is beside all the smaller ones, and a label of two digits;
-- a queue that is no stack; a permutation that is not its own inverse; a record whose last byte holds one bit of the last entry.
abbrev bounds : List Marked
bounds = (0 ∷ 0 ∷ 2 ∷ 4 ∷ 6 ∷ 8 ∷ 10 ∷ 12 ∷ 14 ∷ 16 ∷ 18 ∷ [], "((((((((((0,1),2),3),4),5),6),7),8),9),10);", some (0x01 ∷ 0x74 ∷ 0xD1 ∷ 0x59 ∷ 0xD0 ∷ 0x90 ∷ [])) ∷ []

abbrev queued : List (Line (List ℕ × List ℕ))
queued = (shuffle (0 ∷ 0 ∷ 2 ∷ 4 ∷ 3 ∷ []), made (0 ∷ 4 ∷ 2 ∷ 1 ∷ 3 ∷ [], 0 ∷ 0 ∷ 0 ∷ 1 ∷ 0 ∷ [])) ∷ []

abbrev worked : List (Line (List ℕ))
worked =
    (to_text (0 ∷ 0 ∷ 2 ∷ 4 ∷ 3 ∷ []), made (bytes "(((0,1),2),(3,4));"))
    ∷ (relabel (0 ∷ 0 ∷ 2 ∷ []) (1 ∷ 2 ∷ 0 ∷ []), made (0 ∷ 0 ∷ 1 ∷ []))
    ∷ (pack (replicate 14 0 ++ (25 ∷ [])), made (0x01 ∷ 0xE0 ∷ replicate 5 0 ++ (0x0C ∷ 0x80 ∷ [])))
    ∷ (unpack (0x01 ∷ 0xE0 ∷ replicate 5 0 ++ (0x0C ∷ 0x80 ∷ [])), made (replicate 14 0 ++ (25 ∷ [])))
    ∷ []

worked_hold : Each bounds × Hold queued × Hold worked
unfolding to_text from_labels pack unpack shuffle relabel pair_text signs parted IsLe all_digits value_from
worked_hold =
    let to-5 = pair (pair (pair (pair (pair node_0 node_1) node_2) node_3) (digit 52 refl refl)) (digit 53 refl refl) in
    let to-9 = pair (pair (pair (pair to-5 (digit 54 refl refl)) (digit 55 refl refl)) (digit 56 refl refl)) (digit 57 refl refl) in
    let ten = label (number 49 (48 ∷ []) refl refl (le_by_compare 1 3 tt)) in
    (line refl (reads_few tt tt refl (text (pair to-9 ten))) (packs refl refl) end, refl, refl)

-- Where two refusals would do, 01's "Order" decides; and each way in which one number is refused.
abbrev orders : List (Line (List ℕ))
orders =
    (pack (replicate 1025 1), refuses 1 0)
    ∷ (relabel (0 ∷ 1 ∷ []) [], refuses 4 1)
    ∷ (relabel (0 ∷ 0 ∷ []) (2 ∷ []), refuses 2 2)
    ∷ (relabel (0 ∷ 0 ∷ []) (0 ∷ 0 ∷ []), refuses 11 1)
    ∷ (relabel (0 ∷ 0 ∷ []) (1 ∷ 2 ∷ []), refuses 11 1)
    ∷ (from_table 0 (0 ∷ []), refuses 1 0)
    ∷ (from_table 4294967295 [], refuses 1 0)
    ∷ (from_table 2 (5 ∷ 5 ∷ 5 ∷ 5 ∷ []), refuses 2 3)
    ∷ (from_table 2 (5 ∷ 5 ∷ 5 ∷ []), refuses 5 0)
    ∷ (from_table 2 (0 ∷ 1 ∷ 1 ∷ []), refuses 5 0)
    ∷ (from_table 2 (65535 ∷ 65535 ∷ 2 ∷ []), refuses 6 0)
    ∷ (from_table 2 (2 ∷ 0 ∷ 2 ∷ []), refuses 6 0)
    ∷ (from_table 2 (0 ∷ 2 ∷ 2 ∷ []), refuses 6 0)
    ∷ (from_table 2 (1 ∷ 1 ∷ 2 ∷ []), refuses 7 0)
    ∷ (from_table 3 (0 ∷ 0 ∷ 3 ∷ 0 ∷ 9 ∷ 9 ∷ []), refuses 7 0)
    ∷ (from_table 3 (0 ∷ 1 ∷ 3 ∷ 0 ∷ 2 ∷ 4 ∷ []), refuses 7 1)
    ∷ (from_table 3 (1 ∷ 2 ∷ 3 ∷ 0 ∷ 1 ∷ 4 ∷ []), refuses 7 1)
    ∷ (from_table 3 (0 ∷ 1 ∷ 3 ∷ 1 ∷ 2 ∷ 4 ∷ []), refuses 7 1)
    ∷ (from_table 4 (0 ∷ 1 ∷ 4 ∷ 2 ∷ 3 ∷ 5 ∷ 0 ∷ 5 ∷ 6 ∷ []), refuses 7 2)
    ∷ (unpack (0x00 ∷ []), refuses 2 2)
    ∷ (unpack (0x00 ∷ 0x00 ∷ 0x00 ∷ []), refuses 1 0)
    ∷ (unpack (0x00 ∷ 0x7F ∷ 0x00 ∷ []), refuses 2 2)
    ∷ (unpack (0x00 ∷ 0x7F ∷ []), refuses 4 2)
    ∷ []

orders_hold : Hold orders
unfolding pack from_table unpack relabel
orders_hold = refl

-- 01, "What comes back": the outcome, and what the lent buffers then hold
back : {Lent Written : Type 0} → Call Lent Written → Making Written → Lent → Outcome × Lent
unfolding answers holds
back c what old = (answers c what old, holds c what old)

packed : List ℕ → List ℕ → Outcome × List ℕ
unfolding back pack
packed v = back (pack_call v) (pack v)

-- room for three bytes, for the two needed, for one; a vector that is refused
abbrev rooms : List ((Outcome × List ℕ) × (Outcome × List ℕ))
rooms =
    (packed (0 ∷ 0 ∷ []) (7 ∷ 8 ∷ 9 ∷ []), (done 2, 0x00 ∷ 0x40 ∷ 9 ∷ []))
    ∷ (packed (0 ∷ 0 ∷ []) (7 ∷ 8 ∷ []), (done 2, 0x00 ∷ 0x40 ∷ []))
    ∷ (packed (0 ∷ 0 ∷ []) (7 ∷ []), (refused 3 2, 7 ∷ []))
    ∷ (packed (0 ∷ 1 ∷ []) (7 ∷ []), (refused 4 1, 7 ∷ []))
    ∷ []

shuffled : List ℕ × List ℕ → Outcome × (List ℕ × List ℕ)
unfolding back shuffle
shuffled = back (shuffle_call (0 ∷ 0 ∷ [])) (shuffle (0 ∷ 0 ∷ []))

-- two buffers, either of which may be too short
abbrev two_rooms : List ((Outcome × (List ℕ × List ℕ)) × (Outcome × (List ℕ × List ℕ)))
two_rooms =
    (shuffled (7 ∷ 8 ∷ 9 ∷ [], 6 ∷ 5 ∷ []), (done 2, (0 ∷ 1 ∷ 9 ∷ [], 0 ∷ 0 ∷ [])))
    ∷ (shuffled (7 ∷ [], 6 ∷ 5 ∷ []), (refused 3 2, (7 ∷ [], 6 ∷ 5 ∷ [])))
    ∷ (shuffled (7 ∷ 8 ∷ [], 6 ∷ []), (refused 3 2, (7 ∷ 8 ∷ [], 6 ∷ [])))
    ∷ []

rooms_hold : Hold rooms × Hold two_rooms × (back (check_call (0 ∷ 0 ∷ [])) (check (0 ∷ 0 ∷ [])) tt ≡ (done 0, tt))
    × (back (from_newick_call (bytes "0;")) (made (0 ∷ [])) [] ≡ (refused 3 1, []))
unfolding packed shuffled back check
rooms_hold = (refl, refl, refl, refl)

-- Figure S1 of document 001, the run of 0,0,2,3: before each step the names of the clusters (the figure's P), the labels that leaves give
-- the clusters named below them (its L: the row of each leaf that still names a cluster, and the last, for the whole tree), the next merge.
abbrev View : Type 0
View = List ℕ × List (List ℕ) × Option Merge

abbrev run : List View
run =
    (0 ∷ 1 ∷ 2 ∷ 3 ∷ [], [] ∷ (0 ∷ []) ∷ (0 ∷ 1 ∷ []) ∷ (0 ∷ 1 ∷ 2 ∷ []) ∷ (0 ∷ 1 ∷ 2 ∷ 3 ∷ []) ∷ [], some (0, 1))
    ∷ (0 ∷ 2 ∷ 3 ∷ [], [] ∷ (2 ∷ 1 ∷ []) ∷ (3 ∷ 1 ∷ 2 ∷ []) ∷ (4 ∷ 1 ∷ 2 ∷ 3 ∷ []) ∷ [], some (0, 3))
    ∷ (0 ∷ 2 ∷ [], [] ∷ (2 ∷ 1 ∷ []) ∷ (5 ∷ 1 ∷ 2 ∷ 3 ∷ []) ∷ [], some (0, 2))
    ∷ (0 ∷ [], [] ∷ (6 ∷ 1 ∷ 2 ∷ 3 ∷ []) ∷ [], none)
    ∷ []

-- the names below n
named : State → ℕ → List ℕ
named s zero = []
named s (suc n) = named s n ++ cond (s.names n) (n ∷ []) []

view : List ℕ → State → View
unfolding named listed next
view v s =
    (named s (suc (length v)), map (λ j. listed j (s.label j)) (named s (suc (length v)) ++ (length v ∷ [])), next (entry v) s (length v))

-- a state, and the states after each of some merges
states : List Merge → State → List State
unfolding merge
states [] s = s ∷ []
states (m ∷ ms) s = s ∷ states ms (merge s m)

figure_s1 : map (view (0 ∷ 0 ∷ 2 ∷ 3 ∷ [])) (states (merges (0 ∷ 0 ∷ 2 ∷ 3 ∷ [])) (start 4)) ≡ run
unfolding view states merges start
figure_s1 = refl

-- the same of the marked 0,0,1,4, where a cluster other than 0 is merged first
abbrev run_0014 : List View
run_0014 =
    (0 ∷ 1 ∷ 2 ∷ 3 ∷ [], [] ∷ (0 ∷ []) ∷ (0 ∷ 1 ∷ []) ∷ (0 ∷ 1 ∷ 2 ∷ []) ∷ (0 ∷ 1 ∷ 2 ∷ 3 ∷ []) ∷ [], some (1, 2))
    ∷ (0 ∷ 1 ∷ 3 ∷ [], [] ∷ (0 ∷ []) ∷ (0 ∷ 3 ∷ 2 ∷ []) ∷ (0 ∷ 4 ∷ 2 ∷ 3 ∷ []) ∷ [], some (0, 1))
    ∷ (0 ∷ 3 ∷ [], [] ∷ (4 ∷ 3 ∷ 2 ∷ []) ∷ (5 ∷ 4 ∷ 2 ∷ 3 ∷ []) ∷ [], some (0, 3))
    ∷ (0 ∷ [], [] ∷ (6 ∷ 4 ∷ 2 ∷ 3 ∷ []) ∷ [], none)
    ∷ []

run_0014_holds : map (view (0 ∷ 0 ∷ 1 ∷ 4 ∷ [])) (states (merges (0 ∷ 0 ∷ 1 ∷ 4 ∷ [])) (start 4)) ≡ run_0014
unfolding view states merges start
run_0014_holds = refl

-- the pairs of the figure, as numbers of nodes: (0, 1), (4, 3), (5, 2)
figure_s1_table : to_table (0 ∷ 0 ∷ 2 ∷ 3 ∷ []) ≡ made (0 ∷ 1 ∷ 4 ∷ 4 ∷ 3 ∷ 5 ∷ 5 ∷ 2 ∷ 6 ∷ [])
unfolding to_table
figure_s1_table = refl

-- the vectors of n entries
vectors : ℕ → List (List ℕ)
unfolding below bound flat_map
vectors zero = [] ∷ []
vectors (suc n) = flat_map (λ v. map (λ x. v ++ (x ∷ [])) (below (suc (bound n)))) (vectors n)

same : List ℕ → List ℕ → Bool
same [] [] = true
same [] (y ∷ ys) = false
same (x ∷ xs) [] = false
same (x ∷ xs) (y ∷ ys) = eqb x y && same xs ys

makes : Made → List ℕ → Bool
unfolding same
makes (made xs) ys = same xs ys
makes (refuses k p) ys = false

-- the vector again, from its tree, its table and its record
comes_back : List ℕ → Bool
unfolding same makes vector_of tree_of from_table table_of unpack record_of
comes_back v = same (vector_of (tree_of v)) v && makes (from_table (length v) (table_of v)) v && makes (unpack (record_of v)) v

all_come_back : List (List ℕ) → Bool
unfolding comes_back
all_come_back [] = true
all_come_back (v ∷ vs) = comes_back v && all_come_back vs

-- each vector of up to five entries
turned_back : all_come_back (vectors 1 ++ vectors 2 ++ vectors 3 ++ vectors 4 ++ vectors 5) ≡ true
unfolding all_come_back vectors
turned_back = refl

-- 01, "The listing program": its sample; empty input; a refused record; 1 for an n that is too large, before 2 where the input ends
-- inside a record; and no more than the given number of records
abbrev listings : List (List ℕ × List ℕ)
listings =
    (listing 10 (0x00 ∷ 0x8C ∷ 0x00 ∷ 0x40 ∷ 0x00 ∷ 0x91 ∷ 0x00 ∷ []), bytes "4 0,0,1,4 ((0,(1,2)),3);\n2 0,0 (0,1);\n4 0,0,2,1 ((0,(1,3)),2);\nrefused 2 2\n")
    ∷ (listing 10 [], bytes "")
    ∷ (listing 10 (0x00 ∷ 0x40 ∷ []), bytes "2 0,0 (0,1);\n")
    ∷ (listing 10 (0x00 ∷ 0x41 ∷ 0x00 ∷ 0x40 ∷ []), bytes "refused 10 1\n")
    ∷ (listing 10 (0xFF ∷ 0xFF ∷ []), bytes "refused 1 0\n")
    ∷ (listing 10 (0x01 ∷ 0x74 ∷ 0xD1 ∷ []), bytes "refused 2 6\n")
    ∷ (listing 2 (0x00 ∷ 0x20 ∷ 0x00 ∷ 0x40 ∷ 0x00 ∷ 0x20 ∷ []), bytes "1 0 0;\n2 0,0 (0,1);\n")
    ∷ []

listings_hold : Hold listings × (commaed (1000 ∷ 1000 ∷ []) ≡ bytes "1000,1000") × (refused_line 2 1280 ≡ bytes "refused 2 1280\n")
unfolding listing commaed refused_line
listings_hold = (refl, refl, refl)

-- of the places from 2 on, 2 is the first
first_of_many : First (λ i. 2 ≤ i) 2
first_of_many = (omega arith, λ j h w. omega arith)
