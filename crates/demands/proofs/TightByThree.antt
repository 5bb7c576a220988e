-- Demand 3 of what a library gives, and so against a library that gives one fixed vector.
-- Main definitions: OnlyGives. Main results: three_of_what_is_given; not_one_vector_of_tables, not_one_vector_of_texts,
-- not_one_vector_of_records, not_one_vector_of_archives.
use Rattle.std.specs.Prelude.{Bool, ◌||◌, List, [], ◌∷◌, ◌↔◌, ◌≡◌, refl, ℕ, eqb, length, take, drop}
use Rattle.std.proofs.Common.{true≢false, inl, inr, sym, ap, ◌∙◌, subst, arith, take_at}
use Rattle.rules.specs.declared.Answer.TheVariants.{Done}
use Rattle.rules.specs.Answer.{reads}
use Rattle.rules.specs.Promise.{over}
use Rattle.rules.specs.Tree.{Clade, has, tree_of}
use Rattle.rules.specs.Table.{table_of}
use Rattle.rules.specs.Newick.{text_of}
use Rattle.rules.specs.Record.{record_of}
use Rattle.rules.specs.Archive.{archive_of}
use Rattle.accepting.proofs.Answers.{reads_unique}
use Rattle.demands.proofs.Keeping.{Lent}
use Rattle.demands.specs.DemandTwo.{Vector}
use Rattle.demands.proofs.DemandTwo.{table_back, text_back, record_back, run_of_one, archive_back}
use Rattle.demands.specs.Leads.{Input, vector, table, text, packed, archived, Leads, call_of}
use Rattle.demands.proofs.Leads.{Fits, leads_done}
use Rattle.demands.specs.DemandThree.{CladeOf}
use Rattle.demands.proofs.DemandThree.{led, demand_three}
use Rattle.demands.specs.EachCall.{Try}
use Rattle.demands.proofs.EachCall.{Library, KeepsAll}
use Rattle.demands.proofs.Tight.{first, second, done_is_written}
use Rattle.demands.proofs.Got.{got}

elements : (x old after : List ℕ) (count : ℕ) → after ≡ over x old → count ≡ length x → x ≡ take count after
elements x old after count h e = sym (ap (take count) h ∙ take_at x (drop (length x) old) count (sym e))

module _ (library : Library) (keeps : KeepsAll library) where
  -- it is the one that the input leads to
  given_leads : (a : Input) (old : Lent (call_of a)) (count : ℕ) → (library (call_of a) old).0 ≡ Done count → Leads a (got a (library (call_of a) old).1 count)
  given_leads (vector v) old count e = ((done_is_written library keeps (call_of (vector v)) old count e).1, refl)
  given_leads (table n xs) old count e =
      let d = done_is_written library keeps (call_of (table n xs)) old count e in subst (Leads (table n xs)) (elements d.0 old _ count d.2 d.3) d.1
  given_leads (text s) old count e =
      let d = done_is_written library keeps (call_of (text s)) old count e in subst (Leads (text s)) (elements d.0 old _ count d.2 d.3) d.1
  given_leads (packed s) old count e =
      let d = done_is_written library keeps (call_of (packed s)) old count e in subst (Leads (packed s)) (elements d.0 old _ count d.2 d.3) d.1
  given_leads (archived s r) old count e =
      let d = done_is_written library keeps (call_of (archived s r)) old count e in subst (Leads (archived s r)) (elements d.0 old _ count d.2 d.3) d.1

  -- two inputs to which a library answers done are given the same vector exactly when they have the same clades
  pub three_of_what_is_given : (a b : Input) (old : Lent (call_of a)) (old' : Lent (call_of b)) (m n : ℕ)
      → (library (call_of a) old).0 ≡ Done m → (library (call_of b) old').0 ≡ Done n
      → (got a (library (call_of a) old).1 m ≡ got b (library (call_of b) old').1 n) ↔ ((c : ℕ → Bool) → CladeOf a c ↔ CladeOf b c)
  three_of_what_is_given a b old old' m n e f = demand_three a b _ _ (given_leads a old m e) (given_leads b old' n f)

-- {1, 2} is a clade of the first vector's tree, (0,(1,2)); and none of the second's, ((0,1),2);
pair : ℕ → Bool
pair x = eqb 1 x || eqb 2 x

has_pair : Clade (tree_of first.0) pair
unfolding pair Clade tree_of has
has_pair = inr (inr (inl (λ x. refl)))

lacks_pair : Clade (tree_of second.0) pair → ⊥
unfolding pair Clade tree_of has
lacks_pair (inl h) = true≢false (sym (h 0))
lacks_pair (inr (inl (inl h))) = true≢false (sym (h 0))
lacks_pair (inr (inl (inr (inl h)))) = true≢false (sym (h 0))
lacks_pair (inr (inl (inr (inr h)))) = true≢false (h 2)
lacks_pair (inr (inr h)) = true≢false (h 1)

-- it gives one vector, w, wherever it is done with an input that stands for a vector's tree
abbrev pub OnlyGives : Library → (List ℕ → Input) → List ℕ → Type 0
OnlyGives library notation w = (v : List ℕ) (old : Lent (call_of (notation v))) (count : ℕ) → (library (call_of (notation v)) old).0 ≡ Done count
    → got (notation v) (library (call_of (notation v)) old).1 count ≡ w

-- buffers with room for a vector
roomy : (a : Input) (w : List ℕ) → (old : Lent (call_of a)) × Fits a w old
roomy (vector v) w = (tt, tt)
roomy (table n xs) w = (w, omega arith)
roomy (text s) w = (w, omega arith)
roomy (packed s) w = (w, omega arith)
roomy (archived s r) w = (w, omega arith)

-- "One fixed vector for all: demands 2 and 3": in no notation may one vector be given for all, since inputs with other clades are accepted
not_one_in : (library : Library) (notation : List ℕ → Input) → ((v : List ℕ) → Vector v → Leads (notation v) v) → (w : List ℕ)
    → OnlyGives library notation w → KeepsAll library → ⊥
unfolding reads
not_one_in library notation back w fixed keeps =
    let p = done_with first in
    let q = done_with second in
    let e = fixed first.0 p.0 p.1 p.2 ∙ sym (fixed second.0 q.0 q.1 q.2) in
    let same = (three_of_what_is_given library keeps (notation first.0) (notation second.0) p.0 q.0 p.1 q.1 p.2 q.2).0 e pair in
    lacks_pair ((clades second).0 (same.0 ((clades first).1 has_pair)))
  where
    done_with : (t : Try) → (old : Lent (call_of (notation t.0))) × (count : ℕ) × ((library (call_of (notation t.0)) old).0 ≡ Done count)
    done_with t =
        let c = call_of (notation t.0) in
        let r = roomy (notation t.0) t.0 in
        let d = leads_done (notation t.0) t.0 r.0 (library c r.0).1 (library c r.0).0 (back t.0 t.1) (keeps c r.0) r.1 in
        (r.0, d.0.0, reads_unique (library c r.0).0 (Done d.0.0) d.0.1)

    clades : (t : Try) → CladeOf (notation t.0) pair ↔ Clade (tree_of t.0) pair
    clades t = (led (notation t.0) t.0 (back t.0 t.1)).clades pair

pub not_one_vector_of_tables : (library : Library) (w : List ℕ) → OnlyGives library (λ v. table (length v) (table_of v)) w → KeepsAll library → ⊥
not_one_vector_of_tables library = not_one_in library (λ v. table (length v) (table_of v)) table_back

pub not_one_vector_of_texts : (library : Library) (w : List ℕ) → OnlyGives library (λ v. text (text_of (tree_of v))) w → KeepsAll library → ⊥
not_one_vector_of_texts library = not_one_in library (λ v. text (text_of (tree_of v))) text_back

pub not_one_vector_of_records : (library : Library) (w : List ℕ) → OnlyGives library (λ v. packed (record_of v)) w → KeepsAll library → ⊥
not_one_vector_of_records library = not_one_in library (λ v. packed (record_of v)) record_back

pub not_one_vector_of_archives : (library : Library) (w : List ℕ) → OnlyGives library (λ v. archived (archive_of (length v) (v ∷ [])) 0) w → KeepsAll library → ⊥
not_one_vector_of_archives library =
    not_one_in library (λ v. archived (archive_of (length v) (v ∷ [])) 0) (λ v W. archive_back v (v ∷ []) 0 (run_of_one v W))
