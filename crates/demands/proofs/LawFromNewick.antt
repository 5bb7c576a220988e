-- Newick to vector: when it refuses, and that it writes an element a label. What is made is a relation: it is total, and one thing. Main results:
-- label_refused, label_cases, labels_fit, lawful_from_newick.
use Rattle.std.specs.Prelude.{List, [], ◌⊎◌, ◌≡◌, refl, ℕ, length}
use Rattle.std.proofs.Common.{inl, inr, sym, ap, ◌∙◌, subst, arith}
use Rattle.std.proofs.Math.Option.{none, some}
use Rattle.rules.specs.declared.Kind.TheVariants.{LeafCount, InputLength, Room, Grammar, StrayLabel, DoubleLabel}
use Rattle.rules.specs.Names.{NameFault, not_below, used_before, first_fault}
use Rattle.rules.specs.Vector.{entry}
use Rattle.rules.specs.Tree.{Tree}
use Rattle.rules.specs.Order.{vector_of}
use Rattle.rules.specs.Newick.{labels_of, label_fault}
use Rattle.rules.specs.Sent.{SentText}
use Rattle.rules.specs.Answer.{number_of, Made, made, refuses}
use Rattle.rules.specs.Guards.{label_number}
use Rattle.rules.specs.CallFromNewick.{NotLong, FromText, too_long, too_many_signs, breaks, reads_as, from_labels, from_newick_call}
use Rattle.basics.specs.Names.{fault_of}
use Rattle.basics.proofs.Names.{fault_large, fault_small}
use Rattle.grammar.proofs.Labels.{label_count}
use Rattle.blanks.proofs.Labels.{sent_labels}
use Rattle.blanks.proofs.FromText.{from_text_total, from_text_unique}
use Rattle.searching.specs.First.{FirstFound, first_at, nowhere}
use Rattle.searching.proofs.First.{found_first}
use Rattle.accepting.proofs.Guards.{refuse_label_lem, pass_label}
use Rattle.demands.specs.Conditions.{CountWrong, CountRight, Unfit, label_numbers, label_place}
use Rattle.demands.proofs.FirstPlace.{label_found}
use Rattle.demands.proofs.Cases.{count_cases, count_given, count_passes}
use Rattle.demands.specs.Law.{OfInput, Settled, Lawful}
use Rattle.demands.proofs.Long.{vector_long}
use Rattle.demands.proofs.LabelFaults.{not_both}
use Rattle.demands.specs.LawFromNewick.{Stray, Double, FirstUnfit, TextRefused, text_2, text_2_signs, text_8, text_1, text_9, text_13}

-- what a text makes whose labels are looked at: 1, then 9 and 13
labels_wrong : (s : List ℕ) (t : Tree) → CountWrong (length (labels_of s)) → from_labels s t ≡ refuses 1 0
unfolding from_labels
labels_wrong s t c = count_given (length (labels_of s)) _ c

labels_unfit : (s : List ℕ) (t : Tree) (i : ℕ) (wrong : NameFault) → CountRight (length (labels_of s)) → FirstUnfit s i
    → fault_of (length (labels_of s)) (entry (label_numbers s) i) ≡ wrong → from_labels s t ≡ refuses (label_number wrong) (label_place s i)
unfolding from_labels label_fault
labels_unfit s t i wrong c f e =
    count_passes (length (labels_of s)) _ c
    ∙ refuse_label_lem wrong (label_place s i) _ (made (vector_of t))
    (found_first (label_found (length (labels_of s)) (labels_of s)) i f (λ w. refl) ∙ ap (λ (w : NameFault). some (w, label_place s i)) e)

-- the first label at fault is refused by one of the two
pub label_refused : (s : List ℕ) (t : Tree) (i : ℕ) → NotLong s → SentText s t → CountRight (length (labels_of s)) → FirstUnfit s i
    → (number : ℕ) × TextRefused s number (label_place s i)
label_refused s t i a b c f = go f.0.1
  where
    go : Stray s i ⊎ Double s i → (number : ℕ) × TextRefused s number (label_place s i)
    go (inl stray) = (9, text_9 a b c f stray)
    go (inr double) = (13, text_13 a b c f (λ stray. not_both s i f stray double) double)

pub label_cases : (s : List ℕ) → ((i : ℕ) × FirstUnfit s i) ⊎ (label_fault s ≡ none)
unfolding label_fault
label_cases s = go (label_found (length (labels_of s)) (labels_of s))
  where
    go : FirstFound (Unfit (length (labels_of s)) (label_numbers s)) (λ i w. (fault_of (length (labels_of s)) (entry (label_numbers s) i), label_place s i))
        (first_fault (length (labels_of s)) [] (labels_of s)) → ((i : ℕ) × FirstUnfit s i) ⊎ (first_fault (length (labels_of s)) [] (labels_of s) ≡ none)
    go (first_at i f e) = inl (i, f)
    go (nowhere e fit) = inr e

pub labels_fit : (s : List ℕ) (t : Tree) → CountRight (length (labels_of s)) → label_fault s ≡ none → from_labels s t ≡ made (vector_of t)
unfolding from_labels
labels_fit s t c e = count_passes (length (labels_of s)) _ c ∙ pass_label _ (made (vector_of t)) e

-- what is made is settled by these
settled_from_text : (s : List ℕ) (m : Made) → FromText s m → Settled length 3 (TextRefused s) (length (labels_of s)) m
unfolding number_of label_number
settled_from_text s m h = record { of_input = kinds; given = refused_so; total = go h }
  where
    kinds : (k p : ℕ) → TextRefused s k p → OfInput 3 k
    kinds k p (text_2 a) = (InputLength, refl, omega arith)
    kinds k p (text_2_signs a b) = (InputLength, refl, omega arith)
    kinds k p (text_8 a b) = (Grammar, refl, omega arith)
    kinds k p (text_1 a b c) = (LeafCount, refl, omega arith)
    kinds k p (text_9 a b c f stray) = (StrayLabel, refl, omega arith)
    kinds k p (text_13 a b c f below double) = (DoubleLabel, refl, omega arith)

    makes : (k p : ℕ) → TextRefused s k p → FromText s (refuses k p)
    makes k p (text_2 a) = too_long a
    makes k p (text_2_signs a b) = too_many_signs a b
    makes k p (text_8 a b) = breaks a b
    makes k p (text_1 {t} a b c) = subst (FromText s) (labels_wrong s t c) (reads_as t a b)
    makes k p (text_9 {t} {i} a b c f stray) = subst (FromText s) (labels_unfit s t i not_below c f (fault_large _ _ stray)) (reads_as t a b)
    makes k p (text_13 {t} {i} a b c f below double) = subst (FromText s) (labels_unfit s t i used_before c f (fault_small _ _ (omega arith))) (reads_as t a b)

    refused_so : (k p : ℕ) → TextRefused s k p → m ≡ refuses k p
    refused_so k p r = from_text_unique h (makes k p r)

    go : {m : Made} → FromText s m → ((k : ℕ) × (p : ℕ) × TextRefused s k p) ⊎ ((ys : List ℕ) × (m ≡ made ys) × (length ys ≡ length (labels_of s)))
    go (too_long a) = inl (2, 65536, text_2 a)
    go (too_many_signs a b) = inl (2, 6056, text_2_signs a b)
    go (breaks {place} a b) = inl (8, place, text_8 a b)
    go (reads_as t a b) = at (count_cases (length (labels_of s))) (label_cases s)
      where
        at : CountWrong (length (labels_of s)) ⊎ CountRight (length (labels_of s)) → ((i : ℕ) × FirstUnfit s i) ⊎ (label_fault s ≡ none)
            → ((k : ℕ) × (p : ℕ) × TextRefused s k p) ⊎ ((ys : List ℕ) × (from_labels s t ≡ made ys) × (length ys ≡ length (labels_of s)))
        at (inl c) f = inl (1, 0, text_1 a b c)
        at (inr c) (inl (i, f)) = let refused = label_refused s t i a b c f in inl (refused.0, label_place s i, refused.1)
        at (inr c) (inr e) = inr (vector_of t, labels_fit s t c e, vector_long t ∙ sym (label_count (sent_labels b)))

pub lawful_from_newick : (s : List ℕ) → Lawful (from_newick_call s) (TextRefused s) (length (labels_of s))
unfolding number_of
lawful_from_newick s = record {
  total = from_text_total s;
  only = λ m n a b. from_text_unique a b;
  settled = settled_from_text s;
  room_kind = (Room, refl);
}
