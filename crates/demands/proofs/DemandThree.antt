-- Demand 3: two accepted inputs, in whatever notation, lead to the same vector exactly when they have the same clades, each worked out in its own
-- notation; and every rooted binary tree with leaves 0 to n-1 is the tree of an accepted vector. Main results: text_leads, led, demand_three,
-- archived_as_packed, every_tree_has_a_vector.
use Rattle.std.specs.Prelude.{Bool, List, ◌⊎◌, ◌↔◌, ◌≡◌, refl, ℕ, ◌-◌, ◌*◌, ◌≤◌, length}
use Rattle.std.proofs.Common.{inl, inr, sym, ◌∙◌, subst, arith}
use Rattle.std.proofs.Math.Option.{none}
use Rattle.rules.specs.Tree.{Tree, tree_of, LeavesBelow, Clade, SameClades}
use Rattle.rules.specs.Order.{vector_of}
use Rattle.rules.specs.Table.{rows_of, table_fault, table_tree}
use Rattle.rules.specs.Newick.{labels_of, label_fault}
use Rattle.rules.specs.Record.{leaf_count, entries_of}
use Rattle.rules.specs.Answer.{Made, made, refuses}
use Rattle.rules.specs.CallCheck.{check}
use Rattle.rules.specs.CallFromTable.{from_table}
use Rattle.rules.specs.CallFromNewick.{FromText, too_long, too_many_signs, breaks, reads_as, from_labels}
use Rattle.written_tables.proofs.Flat.{rows_of_length}
use Rattle.read_tables.proofs.Forest.{rows_make_a_tree}
use Rattle.read_tables.proofs.Clades.{rows_clades}
use Rattle.record_laws.proofs.FromRecord.{only_accepted, unpacked_vector}
use Rattle.rules.specs.CallUnpack.{unpack}
use Rattle.archive_laws.specs.AsPacked.{then_padding}
use Rattle.archive_laws.proofs.AsPacked.{read_as_packed}
use Rattle.archive_laws.proofs.Reader as tree
use Rattle.archive_laws.proofs.Reader.{read_vector}
use Rattle.blanks.proofs.Breaks.{sent_unique}
use Rattle.blanks.proofs.Labels.{sent_labels}
use Rattle.grammar.proofs.Faults.{no_fault_leaves}
use Rattle.searching.specs.First.{first_at, nowhere}
use Rattle.accepting.proofs.Answers.{made_not_refuses}
use Rattle.accepting.proofs.Guards.{passed_if}
use Rattle.accepting.proofs.FromTable.{rows_accepted}
use Rattle.laws.proofs.OneToOne.{every_tree, same_clades_same_vector}
use Rattle.demands.specs.Conditions.{CountWrong, CountRight, label_place}
use Rattle.demands.specs.FirstWrongRow.{RowFound}
use Rattle.demands.proofs.FirstWrongRow.{first_row, row_found}
use Rattle.demands.proofs.Cases.{count_cases, equal_cases}
use Rattle.demands.specs.Law.{Accepted}
use Rattle.demands.proofs.Law.{made_accepted}
use Rattle.demands.specs.LawFromTable.{TableRefused, table_1, table_2, table_row}
use Rattle.demands.proofs.LawFromTable.{lawful_from_table}
use Rattle.demands.specs.LawFromNewick.{FirstUnfit, TextRefused, text_1}
use Rattle.demands.proofs.LawFromNewick.{label_refused, label_cases, labels_fit, lawful_from_newick}
use Rattle.demands.specs.LawReadTree.{tree_entries}
use Rattle.demands.specs.Leads.{Input, vector, table, text, packed, archived, Leads}
use Rattle.demands.specs.DemandTwo.{Vector}
use Rattle.demands.proofs.DemandTwo.{accepted_exactly}
use Rattle.demands.specs.DemandThree.{CladeOf, Led, TextLeads, packed_record}

-- the vector of a tree with leaves 0 to n-1
of_tree : (n : ℕ) (t : Tree) → LeavesBelow n t → n ≤ 1024 → Vector (vector_of t)
of_tree n t L l =
    let E = every_tree n t L in
    let e = E.entries in
    record { valid = E.valid; few = omega arith }

led_vector : (v w : List ℕ) → Leads (vector v) w → Led (vector v) w
led_vector v w h = rw h.1 (record { vector_of_lem = (accepted_exactly v).0 h.0; clades = λ c. (λ x. x, λ x. x) })

-- a table that is accepted
table_leads : (n : ℕ) (xs w : List ℕ) → from_table n xs ≡ made w
    → CountRight n × (length (rows_of xs) ≡ n - 1) × (table_fault n (rows_of xs) ≡ none) × (w ≡ vector_of (table_tree n (rows_of xs)))
table_leads n xs w e = go (count_cases n) (equal_cases (length xs) (3 * (n - 1))) (row_found n (rows_of xs))
  where
    right : Accepted (TableRefused n xs)
    right = made_accepted _ _ _ (lawful_from_table n xs) (from_table n xs) refl w e

    go : CountWrong n ⊎ CountRight n → ((length xs ≡ 3 * (n - 1) → ⊥)) ⊎ (length xs ≡ 3 * (n - 1))
        → RowFound n (rows_of xs)
        → CountRight n × (length (rows_of xs) ≡ n - 1) × (table_fault n (rows_of xs) ≡ none) × (w ≡ vector_of (table_tree n (rows_of xs)))
    go (inl c) l f = absurd (right 1 0 (table_1 c))
    go (inr c) (inl l) f = absurd (right 2 (3 * (n - 1)) (table_2 c l))
    go (inr c) (inr l) (first_at t f g) = absurd (right f.0.0 t (table_row c l (first_row n (rows_of xs) t f)))
    go (inr c) (inr l) (nowhere g fit) =
        let z : made w ≡ made (vector_of (table_tree n (rows_of xs))) = sym e ∙ rows_accepted n xs c.0 c.1 l g in
        (c, rows_of_length (n - 1) xs l, g, cc)

led_table : (n : ℕ) (xs w : List ℕ) → Leads (table n xs) w → Led (table n xs) w
unfolding SameClades
led_table n xs w h =
    let g = table_leads n xs w h in
    let T = table_tree n (rows_of xs) in
    let L = rows_make_a_tree n (rows_of xs) g.2 g.1 g.0.0 in
    let same = (every_tree n T L).clades in
    let R = rows_clades n (rows_of xs) g.2 g.1 g.0.0 in
    rw g.3 (record { vector_of_lem = of_tree n T L g.0.1; clades = λ c. (λ x. (same c).1 ((R c).1 x), λ x. (R c).0 ((same c).0 x)) })

pub text_leads : (s w : List ℕ) (m : Made) → FromText s m → m ≡ made w → TextLeads s w
text_leads s w m (too_long a) e = absurd (made_not_refuses (sym e))
text_leads s w m (too_many_signs a b) e = absurd (made_not_refuses (sym e))
text_leads s w m (breaks a b) e = absurd (made_not_refuses (sym e))
text_leads s w m (reads_as t a b) e = go (count_cases (length (labels_of s))) (label_cases s)
  where
    right : Accepted (TextRefused s)
    right = made_accepted _ _ _ (lawful_from_newick s) (from_labels s t) (reads_as t a b) w e

    go : CountWrong (length (labels_of s)) ⊎ CountRight (length (labels_of s)) → ((i : ℕ) × FirstUnfit s i) ⊎ (label_fault s ≡ none) → TextLeads s w
    go (inl c) f = absurd (right 1 0 (text_1 a b c))
    go (inr c) (inl (i, f)) = let refused = label_refused s t i a b c f in absurd (right refused.0 (label_place s i) refused.1)
    go (inr c) (inr g) =
        let z : made w ≡ made (vector_of t) = sym e ∙ labels_fit s t c g in
        record { tree = t; leaf_count_lem = length (labels_of s); short = a; reads_as_it = b; leaves = no_fault_leaves (sent_labels b) g; few = c.1; vector_is = cc }

led_text : (s w : List ℕ) → Leads (text s) w → Led (text s) w
unfolding SameClades
led_text s w h =
    let g = text_leads s w (made w) h refl in
    let same = (every_tree g.leaf_count_lem g.tree g.leaves).clades in
    rw g.vector_is
    (record {
      vector_of_lem = of_tree g.leaf_count_lem g.tree g.leaves g.few;
      clades = λ c. (
        λ x. (same c).1 (subst (λ (t : Tree). Clade t c) (sent_unique x.1 g.reads_as_it) x.2),
        λ x. (g.tree, g.reads_as_it, (same c).0 x),
      );
    })

-- a record that is accepted, by itself or in an archive: its entries
led_entries : (a : Input) (entries v : List ℕ) → entries ≡ v → Vector v → ((c : ℕ → Bool) → CladeOf a c ↔ Clade (tree_of entries) c) → Led a v
led_entries a entries v e W same = rw (← e) (record { vector_of_lem = rw e W; clades = same })

led_packed : (s w : List ℕ) → Leads (packed s) w → Led (packed s) w
led_packed s w h = led_entries (packed s) (entries_of (leaf_count s) s) w (only_accepted s w h).1 (unpacked_vector s w h) (λ c. (λ x. x, λ x. x))

led_archived : (s : List ℕ) (r : ℕ) (w : List ℕ) → Leads (archived s r) w → Led (archived s r) w
led_archived s r w h =
    led_entries (archived s r) (tree_entries s r) w (tree.only_accepted s r w h).1 (read_vector s r w h).0 (λ c. (λ x. x, λ x. x))

pub led : (a : Input) (v : List ℕ) → Leads a v → Led a v
led (vector u) v h = led_vector u v h
led (table n xs) v h = led_table n xs v h
led (text s) v h = led_text s v h
led (packed s) v h = led_packed s v h
led (archived s r) v h = led_archived s r v h

-- two accepted inputs lead to the same vector exactly when they have the same clades
pub demand_three : (a b : Input) (v w : List ℕ) → Leads a v → Leads b w → (v ≡ w) ↔ ((c : ℕ → Bool) → CladeOf a c ↔ CladeOf b c)
unfolding SameClades
demand_three a b v w p q =
    let A = led a v p in
    let B = led b w q in
    let one = same_clades_same_vector v w A.vector_of_lem.valid B.vector_of_lem.valid in (
      λ e. λ c. (λ x. (B.clades c).1 ((one.0 e c).0 ((A.clades c).0 x)), λ x. (A.clades c).1 ((one.0 e c).1 ((B.clades c).0 x))),
      λ s. one.1 (λ c. (λ x. (B.clades c).0 ((s c).0 ((A.clades c).1 x)), λ x. (A.clades c).0 ((s c).1 ((B.clades c).1 x)))),
    )

-- an accepted tree of an archive leads where this packed record leads, and has its clades
pub archived_as_packed : (s : List ℕ) (r : ℕ) (w : List ℕ) → Leads (archived s r) w
    → Leads (packed (packed_record s r)) w × ((c : ℕ → Bool) → CladeOf (archived s r) c ↔ CladeOf (packed (packed_record s r)) c)
unfolding then_padding
archived_as_packed s r w h =
    let p = made_before_padding _ _ (unpack (packed_record s r)) w (sym (read_as_packed s r (tree.only_accepted s r w h).0.has_tree) ∙ h) in
    (p, (demand_three (archived s r) (packed (packed_record s r)) w w h p).0 refl)
  where
    made_before_padding : (set : Bool) (place : ℕ) (m : Made) (w : List ℕ) → then_padding set place m ≡ made w → m ≡ made w
    made_before_padding set place (made x) w e = (passed_if set 10 place (made x) e).1
    made_before_padding set place (refuses k p) w e = e

-- "every rooted binary tree with leaves 0 to n-1 .. is the tree of a vector", which is accepted and has an entry for each leaf
pub every_tree_has_a_vector : (n : ℕ) (t : Tree) → LeavesBelow n t → n ≤ 1024
    → (v : List ℕ) × (check v ≡ made tt) × (length v ≡ n) × SameClades (tree_of v) t
every_tree_has_a_vector n t L l =
    let E = every_tree n t L in
    let W = of_tree n t L l in
    (vector_of t, (accepted_exactly (vector_of t)).1 W, E.entries, E.clades)
